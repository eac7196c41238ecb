-- `pop_values` meets its contract: the words copied are the values on top.
use Rattle.std.proofs.Common.{ℕ, ◌+◌, ◌≡◌, sym, ◌∙◌, ap, List, ◌++◌, arith, length, take, drop, replicate, length-drop}
use mathlib.Core.Path.{ap₂}
use native.Mathlib.Nat.{add-sub_cancel_left}
use Rattle.stacks.specs.Stacks.{values_in}
use Rattle.stacks.proofs.Decoding.{length_values}
use Rattle.stacks.proofs.Popping.{values_top, padded}
use Rattle.stacks.proofs.pop_values.Goals as goal

pub returns : goal.returns
returns c =
    let a = c.args in
    let w = a.work.now in
    let at = 2048 + a.v in
    let top = drop a.v (values_in w (a.v + a.n)) in
    let n : length top ≡ a.n = omega (arith, length-drop a.v (values_in w (a.v + a.n)), length_values w (a.v + a.n)) in
    ap₂ (λ (l : List ℕ) (k : ℕ). l ++ drop k (replicate 6 0))
    (c.copy_from_slice.ensures.after ∙ ap (λ (k : ℕ). take k (drop at w)) (add-sub_cancel_left at a.n) ∙ sym (values_top w a.v a.n (omega arith))) (sym n)
    ∙ padded 6 top (omega arith)
