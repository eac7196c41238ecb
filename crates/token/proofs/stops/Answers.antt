-- `token::stops` meets its contract.
use borrow.Author.Tests.{lt-ltb, le-ltb}
use Rattle.token.specs.Classes.{atom_stops}
use Rattle.token.proofs.stops.Goals as goal

pub returns-in-Some : goal.returns-in-Some
unfolding atom_stops
returns-in-Some c = let h = c.in-Some.ensures.lookup.3 in rw (c.of.ensures, h.1 0, lt-ltb _ _ h.0)

pub returns-in-None : goal.returns-in-None
unfolding atom_stops
returns-in-None c = rw (le-ltb _ _ c.in-None.ensures.lookup.3)
