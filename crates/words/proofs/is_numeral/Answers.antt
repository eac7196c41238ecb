-- `words::is_numeral` meets its contract.
use Rattle.std.proofs.Common.{rules, tests, ◌∙◌, arith}
use Rattle.std.proofs.lemmas.Iterator.{YieldsList-from_slice}
use Rattle.std.proofs.lemmas.Iterator.Search.{all_from_yields_List}
use Rattle.token.specs.Token.{digit}
use Rattle.words.proofs.Atoms.{numeral_none, numeral_zero, numeral_all}
use Rattle.words.proofs.is_numeral.Goals as goal

pub returns-in-Some-eq48-default : goal.returns-in-Some-eq48-default
returns-in-Some-eq48-default c =
    let arm = c.in-Some-eq48-default in
    c.is_empty.ensures ∙ numeral_zero _ _ _ arm.ensures.cases.0 arm.field-0-0-test

pub returns-in-Some : goal.returns-in-Some
returns-in-Some c =
    all_from_yields_List digit _ _ _ c.all.ensures.ran (YieldsList-from_slice c.args.w.now cc) (λ x b q k. search (rules, tests))
    ∙ numeral_all _ _ _ c.in-Some.ensures.cases.0 (λ q. omega arith)

pub returns-in-None : goal.returns-in-None
returns-in-None c = numeral_none _ c.in-None.ensures.cases
