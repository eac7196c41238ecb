-- `listing::standard::read_input` meets its contract: a step's bytes stand behind those before it.
use Rattle.std.proofs.Common.{arith}
use Rattle.listing.proofs.Moving.{goes_on, stays}
use Rattle.listing.proofs.standard.read_input.Goals as goal
use Rattle.listing.proofs.standard.read_input.Goals.{in-To, in-Interrupted}

pub loop-turn-preserved : goal.loop-turn-preserved
loop-turn-preserved g c =
    let l = c.loop-turn in
    elim c.match-read_from.branch [
      | in-To w ↦ let e = w.in-To.ensures in rw w.done-is (e.within, goes_on _ _ _ l.done w.in-To.end l.buf c.read_from.new.buf e.bytes.1 l.invariant.1 e.kept e.bytes.0)
      | in-Interrupted w ↦ let e = w.in-Interrupted.ensures in rw w.done-is (omega arith, stays _ _ _ l.done l.buf c.read_from.new.buf l.invariant.1 e.kept e.bytes)
    ]
