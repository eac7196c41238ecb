-- What the lines of a core text's head give, by what their parts give.
use Rattle.expects.specs.Answers.{NameRead}
use Rattle.token.specs.declared.Class.{Class}
use Rattle.token.specs.Token.{Lexed}
use Rattle.std.specs.Prelude.{Ok, Err}
use mathlib.Core.Path.{◌≡◌, subst}
use mathlib.Core.Bool.{Bool, true, false, ◌&&◌}
use mathlib.Core.List.{List}
use Prim.Native.Nat.{ℕ}
use Rattle.token.specs.declared.Token.{Token}
use Rattle.token.specs.declared.Refusal.{Refusal}
use Rattle.words.specs.Words.{ascii, same_bytes}
use Rattle.core_token.specs.CoreToken.{next_core_token}
use Rattle.surface.specs.Text.{text}
use Rattle.surface.specs.Reader.{nowhere}
use Rattle.surface.specs.Reading.{closing, natural}
use Rattle.core_text.specs.TextReading.{text_edition, end_token, zero_one}
use Rattle.expects.specs.declared.Format.{Format}
use Rattle.expects.specs.Formats.{edition}
use Rattle.expects.specs.Expects.{Reads, Names}
use Rattle.expects.specs.Lines.{tag}
use Rattle.core_reader.specs.Heads.{VersionRead, version, format_line, theory_line, head, text_end, ReadsVersion, Passes}

-- What is read of an input whose format is that of core text is read of its tokens.
pub tag_core : (f : Format) (s w : List ℕ) (at : ℕ) (x : Lexed) → f ≡ Format.Core01 → Reads (tag ((edition f).tokens s) s w) at x → Reads (tag (next_core_token s) s w) at x
unfolding text_edition
tag_core f s w at x e h = subst (λ (g : Format). Reads (tag ((edition g).tokens s) s w) at x) e h

pub natural_core : (f : Format) (s : List ℕ) (at : ℕ) (x : Lexed) → f ≡ Format.Core01 → Reads (natural ((edition f).tokens s) s) at x → Reads (natural (next_core_token s) s) at x
unfolding text_edition
natural_core f s at x e h = subst (λ (g : Format). Reads (natural ((edition g).tokens s) s) at x) e h

pub closing_core : (f : Format) (s : List ℕ) (at : ℕ) (x : Lexed) → f ≡ Format.Core01 → Reads (closing ((edition f).tokens s)) at x → Reads (closing (next_core_token s)) at x
unfolding text_edition
closing_core f s at x e h = subst (λ (g : Format). Reads (closing ((edition g).tokens s)) at x) e h

pub end_core : (f : Format) (s : List ℕ) (at : ℕ) (x : Lexed) → f ≡ Format.Core01 → Reads (end_token ((edition f).tokens s)) at x → Reads (end_token (next_core_token s)) at x
unfolding text_edition
end_core f s at x e h = subst (λ (g : Format). Reads (end_token ((edition g).tokens s)) at x) e h

pub names_core : (f : Format) (s : List ℕ) (at : ℕ) (y : NameRead) → f ≡ Format.Core01 → Names f s at y → Names Format.Core01 s at y
names_core f s at y e h = subst (λ (g : Format). Names g s at y) e h

-- The two numerals, and the parenthesis behind them.
module _ (s : List ℕ) (at : ℕ) (x : Lexed) (h : Reads (natural (next_core_token s) s) at x) where
  pub major_refused : (r : Refusal) → x ≡ Err r → ReadsVersion (version s) at (Err r)
  unfolding version
  major_refused r e = λ n. rw (h n, e)

  module _ (a : Token) (e : x ≡ Ok a) (y : Lexed) (g : Reads (natural (next_core_token s) s) a.end y) where
    pub minor_refused : (r : Refusal) → y ≡ Err r → ReadsVersion (version s) at (Err r)
    unfolding version
    minor_refused r i = λ n. rw (h n, e, g n, i)

    module _ (b : Token) (i : y ≡ Ok b) (z : Lexed) (k : Reads (closing (next_core_token s)) b.end z) where
      pub unclosed : (r : Refusal) → z ≡ Err r → ReadsVersion (version s) at (Err r)
      unfolding version
      unclosed r j = λ n. rw (h n, e, g n, i, k n, j)

      pub version_got : (c : Token) → z ≡ Ok c → (v : Bool) → v ≡ zero_one s a b → ReadsVersion (version s) at (Ok (v, c.end))
      unfolding version
      version_got c j v q = λ n. rw (h n, e, g n, i, k n, j, q)

module _ (s : List ℕ) (at : ℕ) (x : Lexed) (h : Reads (tag (next_core_token s) s (ascii "format")) at x) where
  pub format_refused : (r : Refusal) → x ≡ Err r → ReadsVersion (format_line s) at (Err r)
  unfolding format_line
  format_refused r e = λ n. rw (h n, e)

  pub format_got : (w : Token) → x ≡ Ok w → (r : VersionRead) → ReadsVersion (version s) w.end r → ReadsVersion (format_line s) at r
  unfolding format_line
  format_got w e r g = λ n. rw (h n, e) (g n)

module _ (s : List ℕ) (at : ℕ) (x : Lexed) (h : Reads (tag (next_core_token s) s (ascii "theory")) at x) where
  pub theory_refused : (r : Refusal) → x ≡ Err r → ReadsVersion (theory_line s) at (Err r)
  unfolding theory_line
  theory_refused r e = λ n. rw (h n, e)

  module _ (w : Token) (e : x ≡ Ok w) (y : NameRead) (g : Names Format.Core01 s w.end y) where
    pub unnamed : (r : Refusal) → y ≡ Err r → ReadsVersion (theory_line s) at (Err r)
    unfolding theory_line
    unnamed r i = λ n. rw (h n, e, g n, i)

    module _ (t : Token) (next : ℕ) (i : y ≡ Ok (t, next)) (z : VersionRead) (k : ReadsVersion (version s) next z) where
      pub version_refused : (r : Refusal) → z ≡ Err r → ReadsVersion (theory_line s) at (Err r)
      unfolding theory_line
      version_refused r j = λ n. rw (h n, e, g n, i, k n, j)

      pub theory_got : (v : Bool) (end : ℕ) → z ≡ Ok (v, end) → (b : Bool) → b ≡ (same_bytes (text s t) (ascii "mltt-core") && v)
          → ReadsVersion (theory_line s) at (Ok (b, end))
      unfolding theory_line
      theory_got v end j b q = λ n. rw (h n, e, g n, i, k n, j, q)

module _ (s : List ℕ) (at : ℕ) (x : Lexed) (h : Reads (tag (next_core_token s) s (ascii "hott-core")) at x) where
  pub head_refused : (r : Refusal) → x ≡ Err r → Passes (head s) at (Err r)
  unfolding head
  head_refused r e = λ n. rw (h n, e)

  module _ (w : Token) (e : x ≡ Ok w) (y : VersionRead) (g : ReadsVersion (format_line s) w.end y) where
    pub no_format : (r : Refusal) → y ≡ Err r → Passes (head s) at (Err r)
    unfolding head
    no_format r i = λ n. rw (h n, e, g n, i)

    module _ (f : Bool) (next : ℕ) (i : y ≡ Ok (f, next)) (z : VersionRead) (k : ReadsVersion (theory_line s) next z) where
      pub no_theory : (r : Refusal) → z ≡ Err r → Passes (head s) at (Err r)
      unfolding head
      no_theory r j = λ n. rw (h n, e, g n, i, k n, j)

      module _ (t : Bool) (end : ℕ) (j : z ≡ Ok (t, end)) where
        pub supported : (f && t) ≡ true → Passes (head s) at (Ok end)
        unfolding head
        supported q = λ n. rw (h n, e, g n, i, k n, j, q)

        pub unsupported : (f && t) ≡ false → (r : Refusal) → r ≡ nowhere Class.Version → Passes (head s) at (Err r)
        unfolding head
        unsupported q r c = λ n. rw (h n, e, g n, i, k n, j, q, c)

module _ (s : List ℕ) (at : ℕ) (x : Lexed) (h : Reads (closing (next_core_token s)) at x) where
  pub end_unclosed : (r : Refusal) → x ≡ Err r → Passes (text_end s) at (Err r)
  unfolding text_end
  end_unclosed r e = λ n. rw (h n, e)

  module _ (c : Token) (e : x ≡ Ok c) (y : Lexed) (g : Reads (end_token (next_core_token s)) c.end y) where
    pub no_end : (r : Refusal) → y ≡ Err r → Passes (text_end s) at (Err r)
    unfolding text_end
    no_end r i = λ n. rw (h n, e, g n, i)

    pub ended : (t : Token) → y ≡ Ok t → Passes (text_end s) at (Ok t.end)
    unfolding text_end
    ended t i = λ n. rw (h n, e, g n, i)
