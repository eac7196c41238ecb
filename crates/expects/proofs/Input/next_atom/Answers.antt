-- `Input::next_atom` meets its contract.
use Rattle.expects.proofs.Identifiers.{word_told}
use Rattle.expects.proofs.Input.next_atom.Goals as goal

pub returns-in-Some : goal.returns-in-Some
returns-in-Some c = word_told _ _ _ _ c.in-Some.ensures
