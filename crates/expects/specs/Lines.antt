-- The parts of the head that have functions of their own.
use Rattle.expects.specs.Answers.{EditionRead, HeadRead}
use Rattle.std.specs.Prelude.{◌≡◌, Bool, ◌&&◌, List, ℕ, Ok, Err}
use Rattle.token.specs.Token.{next_token, Lexed}
use Rattle.token.specs.declared.Token.{Token}
use Rattle.words.specs.Words.{ascii, same_bytes}
use Rattle.terms.specs.Forms.{Edition}
use Rattle.surface.specs.Reader.{Result, done, refused, Reader, after, ◌>>=◌, pure}
use Rattle.surface.specs.Text.{text}
use Rattle.surface.specs.Reading.{Head, opening, closing, word, supported, edition_of, surface_line, module_line}
use Rattle.expects.specs.declared.Format.{Format}
use Rattle.expects.specs.Formats.{edition}
use Rattle.expects.specs.Expects.{position_at, head_read}

-- The edition, behind its line; or the refusal.
abbrev pub edition_read : ℕ → EditionRead → Result Edition
edition_read n (Ok x) = done (edition x.0) (position_at x.1 n)
edition_read n (Err r) = refused r

-- The head of a format, with the module's name.
abbrev pub named : Format → Result Token → Result Head
named f y = after y (λ x. pure (record { edition = edition f; name = x }))

-- The parenthesis and the word that a line begins with.
unfoldable pub tag : (ℕ → Lexed) → List ℕ → List ℕ → Reader Token
tag next s w = do
  o ← opening next
  word next s w

module _ (s : List ℕ) where
  -- Whether two numerals are 0 and w.
  abbrev pub is_version : Token → Token → List ℕ → Bool
  is_version major minor w = same_bytes (text s major) (ascii "0") && same_bytes (text s minor) w

  -- The rest of the surface line, behind its two numerals.
  abbrev pub ClosesVersion : Token → Token → EditionRead → Type 0
  ClosesVersion major minor r =
      (n : ℕ) → (closing (next_token s) >>= (λ c. supported (edition_of (text s major) (text s minor)))) (position_at minor.end n) ≡ edition_read n r

  abbrev pub SurfaceLine : EditionRead → Type 0
  SurfaceLine r = (n : ℕ) → surface_line s (position_at 0 n) ≡ edition_read n r

  -- r has the name, and the format that it was asked for.
  abbrev pub ModuleLine : Format → ℕ → HeadRead → Type 0
  ModuleLine f at r = (n : ℕ) → named f (module_line s (edition f) (position_at at n)) ≡ head_read n r
