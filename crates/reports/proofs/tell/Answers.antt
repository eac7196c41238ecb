-- `reports::tell` meets its contract.
use mathlib.Core.Path.{refl, sym, ap, ◌∙◌}
use mathlib.Core.Bool.{Bool, cond}
use mathlib.Core.List.{◌++◌}
use native.Mathlib.Omega.{arith}
use lib.ListN.{length, take, drop, length-set}
use borrow.Author.Tests.{le-leb, lt-leb}
use Rattle.reports.specs.Numbers.{words}
use Rattle.reports.proofs.Stored.{three_stored}
use Rattle.reports.proofs.tell.Goals as goal

pub bounds-answer-1 : goal.bounds-answer-1
bounds-answer-1 c = simp length-set (omega arith)

pub returns-then-answer-ge3 : goal.returns-then-answer-ge3
returns-then-answer-ge3 c =
    let o = c.args in
    let l = o.answer.now in
    let x = o.numbers in
    record { value = refl; answer_after = three_stored x.count x.first x.second x.third l c.if-answer-ge3.true ∙ ap (λ (b : Bool). cond b (take 3 (words x) ++ drop 3 l) l) (sym (le-leb 3 (length l) c.if-answer-ge3.true)) }

pub returns-else-answer-ge3 : goal.returns-else-answer-ge3
returns-else-answer-ge3 c =
    let o = c.args in
    let l = o.answer.now in
    record { value = refl; answer_after = ap (λ (b : Bool). cond b (take 3 (words o.numbers) ++ drop 3 l) l) (sym (lt-leb 3 (length l) c.if-answer-ge3.false)) }
