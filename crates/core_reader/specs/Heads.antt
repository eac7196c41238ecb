-- The parts of a core text's head that have functions of their own. Only contracts of inner functions cite this.
use Rattle.token.specs.declared.Class.{Class}
use Rattle.std.specs.Prelude as std
use Rattle.std.specs.Prelude.{◌≡◌, Bool, ◌&&◌, List, ℕ, Ok, Err}
use Rattle.words.specs.Words.{ascii, same_bytes}
use Rattle.core_token.specs.CoreToken.{next_core_token}
use Rattle.terms.specs.Label.{Declaration}
use Rattle.surface.specs.Text.{text, is_close}
use Rattle.surface.specs.Reader.{Result, done, refused, Reader, ◌>>=◌, pure, require, nowhere}
use Rattle.surface.specs.Reading.{term, closing, natural, beginning, declarations}
use Rattle.core_text.specs.TextReading.{text_edition, string, end_token, zero_one}
use Rattle.expects.specs.Expects.{position_at}
use Rattle.expects.specs.Lines.{tag}
use Rattle.token.specs.declared.Refusal.{Refusal}

module _ (s : List ℕ) where
  -- NUMERAL NUMERAL `)`: whether the numerals are 0 and 1.
  unfoldable pub version : Reader Bool
  version = do
    a ← natural (next_core_token s) s
    b ← natural (next_core_token s) s
    c ← closing (next_core_token s)
    pure (zero_one s a b)

  -- `(format 0 1)`
  unfoldable pub format_line : Reader Bool
  format_line = do
    w ← tag (next_core_token s) s (ascii "format")
    version

  -- `(theory "mltt-core" 0 1)`
  unfoldable pub theory_line : Reader Bool
  theory_line = do
    w ← tag (next_core_token s) s (ascii "theory")
    n ← string (next_core_token s)
    v ← version
    pure (same_bytes (text s n) (ascii "mltt-core") && v)

  -- The head.
  unfoldable pub head : Reader (Unit {0})
  head = do
    w ← tag (next_core_token s) s (ascii "hott-core")
    f ← format_line
    t ← theory_line
    require (f && t) (nowhere Class.Version)

  -- What stands behind the declarations: the closing parenthesis of the whole text, and the end.
  unfoldable pub text_end : Reader (Unit {0})
  text_end = do
    c ← closing (next_core_token s)
    e ← end_token (next_core_token s)
    pure tt

  -- The declarations and what stands behind them, where there is room for so many rows and declarations.
  unfoldable pub behind_tag : ℕ → ℕ → Reader (List Declaration)
  behind_tag rows room = do
    ds ← declarations text_edition s (term (beginning text_edition s) (closing (next_core_token s)) rows 512) (string (next_core_token s)) is_close room
    e ← text_end
    pure ds

-- What the code answers: whether a version is 0 1, and where reading goes on; or the refusal.
abbrev pub VersionRead : Type 0
VersionRead = std.Result (Bool × ℕ) Refusal

-- Where reading goes on, or the refusal.
abbrev pub Passed : Type 0
Passed = std.Result ℕ Refusal

abbrev pub version_read : ℕ → VersionRead → Result Bool
version_read n (Ok x) = done x.0 (position_at x.1 n)
version_read n (Err r) = refused r

abbrev pub passed : ℕ → Passed → Result (Unit {0})
passed n (Ok next) = done tt (position_at next n)
passed n (Err r) = refused r

-- r is what a reader of a version, or one that only passes, gives at an offset.
abbrev pub ReadsVersion : Reader Bool → ℕ → VersionRead → Type 0
ReadsVersion reader at r = (n : ℕ) → reader (position_at at n) ≡ version_read n r

abbrev pub Passes : Reader (Unit {0}) → ℕ → Passed → Type 0
Passes reader at r = (n : ℕ) → reader (position_at at n) ≡ passed n r
