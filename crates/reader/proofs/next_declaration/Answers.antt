-- `reader::next_declaration` meets its contract.
use mathlib.Core.Path.{sym, ap, ◌∙◌}
use Prim.Native.Nat.{◌-◌}
use native.Mathlib.Omega.{arith}
use denote.Enum.Bare.{same_true, same_false}
use Rattle.std.proofs.lemmas.Result.{err_from_is_err_and}
use Rattle.token.specs.contracts.TokenKind.{the_type}
use Rattle.reader.specs.Parts.{as_step}
use Rattle.reader.proofs.Steps.{next_refused, next_full, next_other, ends_here, declared_step}
use Rattle.reader.proofs.next_declaration.Goals as goal

pub returns-in_err-t : goal.returns-in_err-t
returns-in_err-t g c =
    let a = c.args in
    let p = err_from_is_err_and c.from_residual.result c.from_residual.ensures.1 in
    rw (p.1, p.2) (record { steps = λ w few. next_refused a.input.now.format a.input.now.bytes.now a.limits.rows a.at a.rows (a.limits.declarations - a.k) c.next_token.result c.next_token.ensures _ c.in_err-t.was; has_room = tt })

pub returns-then-limits-k : goal.returns-then-limits-k
returns-then-limits-k g c =
    let a = c.args in record {
      steps = λ w few. next_full a.input.now.format a.input.now.bytes.now a.limits.rows a.at a.rows (a.limits.declarations - a.k) c.next_token.result c.next_token.ensures
          c.in_ok-t.t c.in_ok-t.was (same_true the_type _ _ _ (sym c.if-eq.ensures)) (omega arith) _ c.nowhere.ensures;
      has_room = tt;
    }

pub returns-in_err-declaration : goal.returns-in_err-declaration
returns-in_err-declaration g c =
    let a = c.args in
    let p = err_from_is_err_and c.from_residual-in_err-declaration.result c.from_residual-in_err-declaration.ensures.1 in
    rw (p.1, p.2) (record {
      steps = λ w few. declared_step a.input.now.format a.limits a.input.now.bytes.now a.table.now a.list.now a.at a.rows a.k a.work.now c.read_declaration.new.work w (omega arith)
          c.next_token.result c.next_token.ensures c.in_ok-t.t c.in_ok-t.was (same_true the_type _ _ _ (sym c.if-eq.ensures))
          c.read_declaration.result c.read_declaration.new.table c.read_declaration.new.list
          c.read_declaration.auto.table c.read_declaration.auto.list c.read_declaration.auto.work c.read_declaration.ensures _ (ap as_step (sym c.in_err-declaration.was));
      has_room = tt;
    })

pub returns-then-eq : goal.returns-then-eq
returns-then-eq g c =
    let a = c.args in record {
      steps = λ w few. declared_step a.input.now.format a.limits a.input.now.bytes.now a.table.now a.list.now a.at a.rows a.k a.work.now c.read_declaration.new.work w (omega arith)
          c.next_token.result c.next_token.ensures c.in_ok-t.t c.in_ok-t.was (same_true the_type _ _ _ (sym c.if-eq.ensures))
          c.read_declaration.result c.read_declaration.new.table c.read_declaration.new.list
          c.read_declaration.auto.table c.read_declaration.auto.list c.read_declaration.auto.work c.read_declaration.ensures _ (ap as_step (sym c.in_ok-declaration.was));
      has_room = omega arith;
    }

pub returns-then-is_ending : goal.returns-then-is_ending
returns-then-is_ending g c =
    let a = c.args in record {
      steps = λ w few. ends_here a.input.now.format a.limits a.input.now.bytes.now a.table.now a.list.now a.at a.rows a.k c.next_token.result c.next_token.ensures
          c.in_ok-t.t c.in_ok-t.was (same_false the_type _ _ (sym c.if-eq.ensures)) (sym c.is_ending.ensures ∙ c.if-is_ending.true);
      has_room = tt;
    }

pub returns : goal.returns
returns g c =
    let a = c.args in record {
      steps = λ w few. next_other a.input.now.format a.input.now.bytes.now a.limits.rows a.at a.rows (a.limits.declarations - a.k) c.next_token.result c.next_token.ensures
          c.in_ok-t.t c.in_ok-t.was (same_false the_type _ _ (sym c.if-eq.ensures)) (sym c.is_ending.ensures ∙ c.if-is_ending.false) _ c.at.ensures;
      has_room = tt;
    }
