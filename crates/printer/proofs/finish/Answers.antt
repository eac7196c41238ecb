-- `printer::finish` meets its contract.
use mathlib.Core.Path.{◌≡◌, ap, ◌∙◌}
use Prim.Native.Nat.{ℕ, ◌-◌}
use native.Mathlib.Omega.{arith}
use lib.ListN.{length, drop}
use Rattle.terms.specs.Rows.{pad}
use Rattle.loader.proofs.Cleared.{cleared_behind}
use borrow.Author.Rules.{rules}
use Rattle.printer.proofs.finish.Goals as goal

pub returns : goal.returns
returns c =
    let a = c.args in
    let m = c.move_front in
    let e : length m.new.out ≡ length a.text.now = search rules in
    c.clear_bytes.ensures ∙ cleared_behind m.new.out a.n (drop (length a.text.now - a.n) a.text.now) (omega (arith, c.requires)) m.ensures
    ∙ ap (λ (k : ℕ). pad k (drop (length a.text.now - a.n) a.text.now)) e
