-- What the lines of the head give, by what their parts give.
use Rattle.expects.specs.Answers.{EditionRead, HeadRead}
use Rattle.token.specs.declared.Class.{Class}
use Rattle.std.specs.Prelude.{Ok, Err}
use Prim.Native.Nat.{ℕ}
use mathlib.Core.Path.{◌≡◌, refl, sym, ◌∙◌, ap}
use mathlib.Core.Bool.{Bool, true, false}
use mathlib.Core.List.{List}
use Rattle.token.specs.Token.{next_token, Lexed}
use Rattle.token.specs.declared.Token.{Token}
use Rattle.token.specs.declared.Refusal.{Refusal}
use Rattle.words.specs.Words.{ascii}
use Rattle.surface.specs.Reader.{Position, Result, done, refused, Reader, after, ◌>>=◌, nowhere}
use Rattle.surface.specs.Reading.{opening, closing, word, natural, name, edition_of, supported, surface_line, module_line, head}
use Rattle.expects.specs.declared.Format.{Format}
use Rattle.expects.specs.Formats.{edition}
use Rattle.expects.specs.Expects.{position_at, Reads, Heads}
use Rattle.expects.specs.Lines.{tag, is_version, named, ClosesVersion, SurfaceLine, ModuleLine}

pub after_after : {A B C : Type 0} (x : Result A) (f : A → Reader B) (g : B → Reader C) → after (after x f) g ≡ after x (λ a q. after (f a q) g)
after_after (done a q) f g = refl
after_after (refused r) f g = refl

-- A line is its tag and the rest.
pub tag_first : {B : Type 0} (next : ℕ → Lexed) (s w : List ℕ) (k : Token → Reader B) (p : Position) → (opening next >>= (λ o. word next s w >>= k)) p ≡ (tag next s w >>= k) p
unfolding tag
tag_first next s w k p = sym (after_after (opening next p) (λ o. word next s w) k)

module _ (next : ℕ → Lexed) (s w : List ℕ) (at : ℕ) (x : Lexed) (h : Reads (opening next) at x) where
  pub tag_refused : (r : Refusal) → x ≡ Err r → Reads (tag next s w) at (Err r)
  unfolding tag
  tag_refused r e = λ n. rw (h n, e)

  pub tag_got : (o : Token) → x ≡ Ok o → (y : Lexed) → Reads (word next s w) o.end y → Reads (tag next s w) at y
  unfolding tag
  tag_got o e y g = λ n. rw (h n, e) (g n)

-- The closing parenthesis of the surface line, and the version.
module _ (s : List ℕ) (major minor : Token) (x : Lexed) (h : Reads (closing (next_token s)) minor.end x) where
  pub version_refused : (r : Refusal) → x ≡ Err r → ClosesVersion s major minor (Err r)
  version_refused r e = λ n. rw (h n, e)

  module _ (c : Token) (e : x ≡ Ok c) where
    abbrev Is : List ℕ → Bool → Type 0
    Is w b = is_version s major minor w ≡ b

    pub version_first : Is (ascii "1") true → ClosesVersion s major minor (Ok (Format.Surface01, c.end))
    unfolding supported edition_of
    version_first v = λ n. rw (h n, e, v)

    pub version_second : Is (ascii "1") false → Is (ascii "2") true → ClosesVersion s major minor (Ok (Format.Surface02, c.end))
    unfolding supported edition_of
    version_second v w = λ n. rw (h n, e, v, w)

    pub version_other : Is (ascii "1") false → Is (ascii "2") false → (r : Refusal) → r ≡ nowhere Class.Version → ClosesVersion s major minor (Err r)
    unfolding supported edition_of
    version_other v w r g = λ n. rw (h n, e, v, w, g)

module _ (s : List ℕ) (x : Lexed) (h : Reads (tag (next_token s) s (ascii "surface")) 0 x) where
  pub surface_refused : (r : Refusal) → x ≡ Err r → SurfaceLine s (Err r)
  unfolding surface_line
  surface_refused r e = λ n. tag_first (next_token s) s (ascii "surface") _ (position_at 0 n) ∙ rw (h n, e)

  module _ (w : Token) (e : x ≡ Ok w) (y : Lexed) (g : Reads (natural (next_token s) s) w.end y) where
    pub major_refused : (r : Refusal) → y ≡ Err r → SurfaceLine s (Err r)
    unfolding surface_line
    major_refused r i = λ n. tag_first (next_token s) s (ascii "surface") _ (position_at 0 n) ∙ rw (h n, e, g n, i)

    module _ (major : Token) (i : y ≡ Ok major) (z : Lexed) (f : Reads (natural (next_token s) s) major.end z) where
      pub minor_refused : (r : Refusal) → z ≡ Err r → SurfaceLine s (Err r)
      unfolding surface_line
      minor_refused r j = λ n. tag_first (next_token s) s (ascii "surface") _ (position_at 0 n) ∙ rw (h n, e, g n, i, f n, j)

      pub surface_got : (minor : Token) → z ≡ Ok minor → (r : EditionRead) → ClosesVersion s major minor r → SurfaceLine s r
      unfolding surface_line
      surface_got minor j r v = λ n. tag_first (next_token s) s (ascii "surface") _ (position_at 0 n) ∙ rw (h n, e, g n, i, f n, j) (v n)

module _ (s : List ℕ) (f : Format) (at : ℕ) (x : Lexed) (h : Reads (tag (next_token s) s (ascii "module")) at x) where
  pub module_refused : (r : Refusal) → x ≡ Err r → ModuleLine s f at (Err r)
  unfolding module_line
  module_refused r e = λ n. ap (named f) (tag_first (next_token s) s (ascii "module") _ (position_at at n)) ∙ rw (h n, e)

  module _ (w : Token) (e : x ≡ Ok w) (y : Lexed) (g : Reads (name (edition f) s) w.end y) where
    pub name_refused : (r : Refusal) → y ≡ Err r → ModuleLine s f at (Err r)
    unfolding module_line
    name_refused r i = λ n. ap (named f) (tag_first (next_token s) s (ascii "module") _ (position_at at n)) ∙ rw (h n, e, g n, i)

    module _ (t : Token) (i : y ≡ Ok t) (z : Lexed) (k : Reads (closing (next_token s)) t.end z) where
      pub close_refused : (r : Refusal) → z ≡ Err r → ModuleLine s f at (Err r)
      unfolding module_line
      close_refused r j = λ n. ap (named f) (tag_first (next_token s) s (ascii "module") _ (position_at at n)) ∙ rw (h n, e, g n, i, k n, j)

      pub module_got : (c : Token) → z ≡ Ok c → ModuleLine s f at (Ok (record { format = f; name = t; next = c.end }))
      unfolding module_line
      module_got c j = λ n. ap (named f) (tag_first (next_token s) s (ascii "module") _ (position_at at n)) ∙ rw (h n, e, g n, i, k n, j)

module _ (s : List ℕ) (x : EditionRead) (h : SurfaceLine s x) where
  pub head_refused : (r : Refusal) → x ≡ Err r → Heads s (Err r)
  unfolding head
  head_refused r e = λ n. rw (h n, e)

  pub head_got : (f : Format) (next : ℕ) → x ≡ Ok (f, next) → (r : HeadRead) → ModuleLine s f next r → Heads s r
  unfolding head
  head_got f next e r m = λ n. rw (h n, e) (m n)
