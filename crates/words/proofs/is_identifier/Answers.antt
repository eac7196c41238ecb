-- `words::is_identifier` meets its contract.
use Rattle.std.proofs.Common.{rules, tests}
use Rattle.std.proofs.lemmas.Iterator.{YieldsList-from_slice}
use Rattle.std.proofs.lemmas.Iterator.Search.{all_from_yields_List}
use mathlib.Core.Path.{◌∙◌}
use Rattle.words.specs.Words.{name_byte}
use Rattle.words.proofs.Atoms.{identifier_none, identifier_rest, identifier_not}
use Rattle.words.proofs.is_identifier.Goals as goal

pub returns-then-is_name_start : goal.returns-then-is_name_start
returns-then-is_name_start c =
    all_from_yields_List name_byte _ _ _ c.all.ensures.ran (YieldsList-from_slice c.in-Some.rest.now cc) (λ x b q k. search (rules, tests))
    ∙ identifier_rest _ _ _ c.in-Some.ensures.cases.0 c.if-is_name_start.ensures

pub returns-else-is_name_start : goal.returns-else-is_name_start
returns-else-is_name_start c = c.if-is_name_start.false ∙ identifier_not _ _ _ c.in-Some.ensures.cases.0 c.if-is_name_start.ensures

pub returns-in-None : goal.returns-in-None
returns-in-None c = identifier_none _ c.in-None.ensures.cases
