-- A proof of each headline statement of specs/Statements, from the file that has it.
use native.Mathlib.Omega.{arith}
use Rattle.terms.proofs.Widths.{total_surface}
use Rattle.core_text.specs.Statements.{TextSound, TextComplete, TextUnique, VersionPlace}
use Rattle.core_text.proofs.SoundText as reading-sound
use Rattle.core_text.proofs.CompleteText as reading-complete
use Rattle.core_text.proofs.VersionPlace as computed

pub text_sound : TextSound
text_sound t limit room frames ds q e = (reading-sound.sound t limit room frames ds q e).derives

pub text_complete : TextComplete
text_complete t limit room frames ds d l n f =
    let g = reading-complete.complete t limit room frames ds d n f (omega (arith, total_surface 0 ds)) in
    (g.position, g.reads)

pub text_unique : TextUnique
text_unique = reading-complete.unique

pub version_place : VersionPlace
version_place = computed.version_place
