-- `loader::resolve` meets its contract.
use Rattle.std.specs.Prelude.{Err}
use mathlib.Core.Path.{sym, ap, subst}
use mathlib.Core.List.{[]}
use native.Mathlib.Omega.{arith}
use Rattle.terms.specs.Resolution.{first_refused}
use Rattle.token.specs.declared.Refusal.{Refusal}
use Rattle.loader.specs.inner.Stored.{ResolvesTo}
use Rattle.loader.proofs.Resolving.{all_resolved, name_refused}
use Rattle.loader.proofs.resolve.Goals as goal

pub returns-then-core-rows : goal.returns-then-core-rows
returns-then-core-rows c = λ ds h. record { short = λ _. ap Err c.nowhere.ensures; long = λ k. absurd (omega arith) }

pub returns-in-Ok : goal.returns-in-Ok
returns-in-Ok c =
    λ ds h.
    let a = c.args in
    let w = h (omega arith) in
    record {
      short = λ g. absurd (omega arith);
      long = λ g. all_resolved a.s.now ds a.rows a.core.now _ (first_refused a.s.now [] ds) a.count (c.in-Ok.ensures ds w) w.all_records;
    }

pub returns-in-Err : goal.returns-in-Err
returns-in-Err c =
    λ ds h.
    let a = c.args in
    let k = c.elaborate_surface in
    record {
      short = λ g. absurd (omega arith);
      long = λ g. subst (λ (x : Refusal). ResolvesTo (first_refused a.s.now [] ds) a.s.now ds a.rows (Err x) k.new.core) (sym c.nowhere-in-Err.ensures)
          (name_refused a.s.now ds a.rows a.core.now _ (first_refused a.s.now [] ds) _ (c.in-Err.ensures ds (h (omega arith))));
    }
