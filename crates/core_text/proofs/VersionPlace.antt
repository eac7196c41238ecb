-- Where another version is refused, computed by the definitions.
use mathlib.Core.Path.{refl}
use Rattle.core_token.specs.CoreToken.{core_class, string_class, core_atom_from, string_from, core_token_from, next_core_token}
use Rattle.words.specs.Words.{same_bytes, all, numeral}
use Rattle.surface.specs.Reading.{token, opening, closing, atom, word, natural}
use Rattle.core_text.specs.TextReading.{string, text_head, read_text}
use Rattle.core_text.specs.Statements.{VersionPlace}

pub version_place : VersionPlace
unfolding core_class string_class core_atom_from string_from core_token_from next_core_token same_bytes all numeral token opening closing atom word natural string text_head read_text
version_place = (refl, refl)
