-- `core_token::lex_atom` meets its contract: what is left of the atom is what the whole is.
use Prim.Native.Nat.{◌≤◌, max}
use mathlib.Core.Path.{◌≡◌}
use lib.ListN.{length, drop}
use Rattle.core_token.specs.CoreToken.{core_atom_from}
use Rattle.core_token.proofs.lex_atom.Given as goal

abbrev pub invariant-loop-pos : goal.invariant-loop-pos
invariant-loop-pos l = (l.pos ≤ max l.at (length l.s)) × (core_atom_from l.start l.at (drop l.at l.s) ≡ core_atom_from l.start l.pos (drop l.pos l.s))
