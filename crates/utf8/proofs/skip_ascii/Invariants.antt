-- `utf8::skip_ascii` meets its contract: each byte that it passes is ASCII.
use Rattle.utf8.specs.Ascii.{SameEnd}
use Rattle.utf8.proofs.skip_ascii.Given as goal

abbrev pub invariant-loop-i : goal.invariant-loop-i
invariant-loop-i l = SameEnd l.s l.at l.i
