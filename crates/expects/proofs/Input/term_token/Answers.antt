-- `Input::term_token` meets its contract.
use mathlib.Core.Path.{sym}
use Rattle.expects.proofs.Identifiers.{word_is}
use Rattle.expects.proofs.Input.term_token.Goals as goal

pub returns-in-Some-word_at : goal.returns-in-Some-word_at
returns-in-Some-word_at c = word_is _ _ _ _ c.in-Some-word_at.ensures

pub returns-in-Some : goal.returns-in-Some
returns-in-Some c = sym c.in-Some.ensures
