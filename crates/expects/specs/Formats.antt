-- The formats that are read. What differs between them is said by an edition, by what names a declaration and by what ends the declarations.
use Rattle.std.specs.Prelude.{◌≡◌, Bool, cond, List, ℕ}
use Rattle.token.specs.Token.{next_token}
use Rattle.token.specs.declared.TokenKind.{TokenKind}
use Rattle.token.specs.declared.Token.{Token}
use Rattle.words.specs.Words.{identifier}
use Rattle.words.specs.declared.NameTest.{NameTest}
use Rattle.terms.specs.Forms.{Edition, edition_0_1, edition_0_2}
use Rattle.surface.specs.Reader.{Reader}
use Rattle.surface.specs.Text.{is_close, is_end}
use Rattle.surface.specs.Reading.{name}
use Rattle.core_token.specs.CoreToken.{next_core_token}
use Rattle.core_text.specs.TextReading.{text_edition, string}
use Rattle.expects.specs.declared.Format.{Format}

abbrev pub edition : Format → Edition
edition Format.Surface01 = edition_0_1
edition Format.Surface02 = edition_0_2
edition Format.Core01 = text_edition

-- A source's format, of either edition.
abbrev pub OfSource : Format → Type 0
OfSource f = (edition f).tokens ≡ next_token

-- What is read for a declaration's name.
abbrev pub declared_name : Format → List ℕ → Reader Token
declared_name Format.Surface01 s = name edition_0_1 s
declared_name Format.Surface02 s = name edition_0_2 s
declared_name Format.Core01 s = string (next_core_token s)

-- The tokens that end the declarations.
abbrev pub ends : Format → TokenKind → Bool
ends Format.Surface01 = is_end
ends Format.Surface02 = is_end
ends Format.Core01 = is_close

-- "The reserved test comes before the identifier test."
abbrev pub tested_name : Edition → List ℕ → NameTest
tested_name E w = cond (E.reserved w) NameTest.Reserved (cond (identifier w) NameTest.Name NameTest.NotIdentifier)
