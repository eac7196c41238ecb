-- `reports::tell_all` meets its contract.
use mathlib.Core.Path.{refl, sym, ap, ◌∙◌}
use mathlib.Core.Bool.{Bool, cond}
use mathlib.Core.List.{◌++◌}
use native.Mathlib.Omega.{arith}
use lib.ListN.{length, take, drop, length-set}
use borrow.Author.Tests.{le-leb, lt-leb}
use Rattle.reports.specs.Numbers.{words}
use Rattle.reports.proofs.Stored.{four_stored}
use Rattle.reports.proofs.tell_all.Goals as goal

pub bounds-answer-1 : goal.bounds-answer-1
bounds-answer-1 c = simp length-set (omega arith)

pub bounds-answer-2 : goal.bounds-answer-2
bounds-answer-2 c = simp length-set (omega arith)

pub returns-then-answer-ge4 : goal.returns-then-answer-ge4
returns-then-answer-ge4 c =
    let o = c.args in
    let l = o.answer.now in
    let x = o.numbers in
    record { value = refl; answer_after = four_stored x.count x.first x.second x.third l c.if-answer-ge4.true ∙ ap (λ (b : Bool). cond b (take 4 (words x) ++ drop 4 l) l) (sym (le-leb 4 (length l) c.if-answer-ge4.true)) }

pub returns-else-answer-ge4 : goal.returns-else-answer-ge4
returns-else-answer-ge4 c =
    let o = c.args in
    let l = o.answer.now in
    record { value = refl; answer_after = ap (λ (b : Bool). cond b (take 4 (words o.numbers) ++ drop 4 l) l) (sym (lt-leb 4 (length l) c.if-answer-ge4.false)) }
