-- The arities of the forms, by their shapes.
use Prim.Native.Nat.{ℕ, ◌≤◌}
use mathlib.Core.Path.{◌≡◌, refl}
use mathlib.Core.Bool.{Bool, true, false, ◌&&◌, false≢true}
use mathlib.Core.List.{List, [], ◌∷◌}
use mathlib.Core.Option.{some}
use lib.Dec.{eqb, leb}
use borrow.Author.Tests.{eqb-true, leb-true}
use Rattle.words.specs.Words.{same_bytes}
use Rattle.terms.specs.Forms.{Shape, alone, with_name, with_numeral, binding, plain, Form, Edition, edition_0_1, edition_0_2, forms, forms_0_2, form_of_word, form_of_kind, arity_of}
use Rattle.terms.specs.TextForms.{text_forms}
use Rattle.core_text.specs.TextReading.{text_edition}
use Rattle.expects.specs.declared.Format.{Format}
use Rattle.expects.specs.Formats.{edition}

-- A term without arguments, and a frame.
abbrev pub ArityOfShape : Shape → ℕ → Type 0
ArityOfShape alone n = n ≡ 0
ArityOfShape with_name n = n ≡ 0
ArityOfShape with_numeral n = n ≡ 0
ArityOfShape binding n = (1 ≤ n) × (n ≤ 6)
ArityOfShape plain n = (1 ≤ n) × (n ≤ 6)

abbrev arity_test : Shape → ℕ → Bool
arity_test alone n = eqb n 0
arity_test with_name n = eqb n 0
arity_test with_numeral n = eqb n 0
arity_test binding n = leb 1 n && leb n 6
arity_test plain n = leb 1 n && leb n 6

pub record Fitting (f : Form) : Type 0 where
  pub arity_is : arity_of f.kind ≡ f.arity
  pub by_shape : ArityOfShape f.shape f.arity

-- The forms of an edition have the arities of their kinds.
abbrev pub Fits : Edition → Type 0
Fits E = (w : List ℕ) (f : Form) → form_of_word w E.forms ≡ some f → Fitting f

abbrev fits : Form → Bool
fits f = eqb (arity_of f.kind) f.arity && arity_test f.shape f.arity

abbrev all_fit : List Form → Bool
all_fit [] = true
all_fit (f ∷ l) = fits f && all_fit l

pub both : (a b : Bool) → (a && b) ≡ true → (a ≡ true) × (b ≡ true)
both true b e = (refl, e)
both false b e = absurd (false≢true e)

tested : (sh : Shape) (n : ℕ) → arity_test sh n ≡ true → ArityOfShape sh n
tested alone n e = eqb-true n 0 e
tested with_name n e = eqb-true n 0 e
tested with_numeral n e = eqb-true n 0 e
tested binding n e = let b = both (leb 1 n) (leb n 6) e in (leb-true 1 n b.0, leb-true n 6 b.1)
tested plain n e = let b = both (leb 1 n) (leb n 6) e in (leb-true 1 n b.0, leb-true n 6 b.1)

-- A form that is found in a list passes a test that all of them pass.
found : (w : List ℕ) (f : Form) (l : List Form) → all_fit l ≡ true → form_of_word w l ≡ some f → fits f ≡ true
unfolding form_of_word
found w f [] a e = cc
found w f (g ∷ l) a e = let b = both (fits g) (all_fit l) a in by (same_bytes w g.word) refl b.0 (found w f l b.1)
  where
    by : (t : Bool) → same_bytes w g.word ≡ t → fits g ≡ true → (form_of_word w l ≡ some f → fits f ≡ true) → fits f ≡ true
    by true q this later = let h : some g ≡ some f = rw (q, form_of_word) at e in let i : g ≡ f = cc in rw i at this
    by false q this later = later (rw (q, form_of_word) at e)

-- The forms of every format.
format_fits : (m : Format) → all_fit (edition m).forms ≡ true
unfolding edition_0_1 edition_0_2 text_edition text_forms forms forms_0_2 arity_of form_of_kind
format_fits Format.Surface01 = refl
format_fits Format.Surface02 = refl
format_fits Format.Core01 = refl

pub fitting : (m : Format) → Fits (edition m)
fitting m w f e =
    let t = both (eqb (arity_of f.kind) f.arity) (arity_test f.shape f.arity) (found w f (edition m).forms (format_fits m) e) in
    record { arity_is = eqb-true (arity_of f.kind) f.arity t.0; by_shape = tested f.shape f.arity t.1 }
