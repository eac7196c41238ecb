-- The form and the declaration's kind of a word, by its index among the reserved words.
use Prim.Native.Nat.{ℕ, zero, suc, ◌+◌, ◌*◌, ◌-◌, ◌/◌, ◌%◌, ◌^◌, ◌≤◌, ◌<◌}
use mathlib.Core.Path.{◌≡◌, refl, sym, ◌∙◌, ap}
use mathlib.Core.Bool.{Bool, true, false, ◌&&◌, cond}
use mathlib.Core.List.{List, [], ◌∷◌}
use mathlib.Core.Option as math
use native.Mathlib.Omega.{arith}
use lib.Dec.{eqb}
use borrow.Author.Tests.{ne_eqb}
use native.Mathlib.Decide.{ℕ_discrete}
use Rattle.words.specs.Words.{ascii, same_bytes, reserved_words, place_in, word_index, reserved}
use Rattle.words.proofs.Names.{ne_same}
use Rattle.words.proofs.Reserved.{word, word_of_index, reserved_index}
use Rattle.terms.specs.Forms.{Form, forms, form_of_word}
use Rattle.surface.specs.Reading.{declaration_kind}
use Rattle.std.specs.Prelude.{Option, Some, None}
use Rattle.expects.specs.declared.Shape as code
use Rattle.expects.specs.declared.FormOfWord.{FormOfWord}
use Rattle.expects.specs.FormOfWord.{told_form, form_at, kind_of}
use Rattle.expects.proofs.Arities.{both}

pub index_low : (w : List ℕ) (k : ℕ) → k ≡ word_index w → k < 28
index_low w k e = elim (ℕ_discrete (word_index w) 0) [ yes z ↦ omega arith | no n ↦ rw e (word_of_index w n).high ]

-- What is the same for every word that is not reserved depends on the index alone.
by_index : {A : Type 0} (f : List ℕ → A) → ((v : List ℕ) → word_index v ≡ 0 → f v ≡ f []) → (w : List ℕ) (k : ℕ) → k ≡ word_index w → f (word k) ≡ f w
by_index f other w k e =
    elim (ℕ_discrete (word_index w) 0) [
      | yes z ↦ ap (λ (j : ℕ). f (word j)) (e ∙ z) ∙ sym (other w z)
      | no n ↦ ap (λ (j : ℕ). f (word j)) e ∙ ap f (sym (word_of_index w n).same)
    ]

-- The values of f at n numbers from i on.
abbrev pub values : {A : Type 0} → (ℕ → A) → ℕ → ℕ → List A
values f i zero = []
values f i (suc n) = f i ∷ values f (suc i) n

-- Equal values are equal at each of these numbers.
pub same_value : {A : Type 0} (f g : ℕ → A) (i n k : ℕ) → values f i n ≡ values g i n → i ≤ k → k < i + n → f k ≡ g k
same_value f g i zero k e l h = absurd (omega arith)
same_value f g i (suc n) k e l h =
    elim (ℕ_discrete k i) [
      | yes q ↦ let r : f i ≡ g i = cc in cc
      | no q ↦ same_value f g (suc i) n k (cc) (omega arith) (omega arith)
    ]

-- A word that is not reserved is none of the reserved ones.
unlike : (w v : List ℕ) → word_index w ≡ 0 → reserved v ≡ true → same_bytes w v ≡ false
unlike w v z r = ne_same w v (λ e. reserved_index v r (ap word_index (sym e) ∙ z))

abbrev all_reserved : List Form → Bool
all_reserved [] = true
all_reserved (f ∷ l) = reserved f.word && all_reserved l

no_form : (w : List ℕ) (l : List Form) → all_reserved l ≡ true → word_index w ≡ 0 → form_of_word w l ≡ math.none
unfolding form_of_word
no_form w [] a z = refl
no_form w (f ∷ l) a z =
    let b = both (reserved f.word) (all_reserved l) a in
    rw (unlike w f.word z b.0, form_of_word) (no_form w l b.1 z)

-- Every form's word is reserved.
forms_reserved : all_reserved forms ≡ true
unfolding forms reserved word_index place_in same_bytes reserved_words
forms_reserved = refl

form_other : (w : List ℕ) → word_index w ≡ 0 → told_form (form_of_word w forms) ≡ None
form_other w z = ap told_form (no_form w forms forms_reserved z)

no_index : word_index [] ≡ 0
unfolding word_index place_in same_bytes reserved_words
no_index = refl

pub form_by_index : (w : List ℕ) (k : ℕ) → k ≡ word_index w → form_at k ≡ told_form (form_of_word w forms)
unfolding form_at
form_by_index w k e = by_index (λ v. told_form (form_of_word v forms)) (λ v z. form_other v z ∙ sym (form_other [] no_index)) w k e

declarations_reserved : (reserved (ascii "postulate") ≡ true) × (reserved (ascii "transparent") ≡ true) × (reserved (ascii "opaque") ≡ true)
unfolding reserved word_index place_in same_bytes reserved_words
declarations_reserved = (refl, refl, refl)

declaration_other : (w : List ℕ) → word_index w ≡ 0 → declaration_kind w ≡ 0
unfolding declaration_kind
declaration_other w z =
    let d = declarations_reserved in
    rw (unlike w (ascii "postulate") z d.0, unlike w (ascii "transparent") z d.1, unlike w (ascii "opaque") z d.2, declaration_kind)

pub kind_by_index : (w : List ℕ) (k : ℕ) → k ≡ word_index w → declaration_kind (word k) ≡ declaration_kind w
kind_by_index w k e = by_index declaration_kind (λ v z. declaration_other v z ∙ sym (declaration_other [] no_index)) w k e

-- The kinds of the words from `ref` on, and their shapes as octal digits of a number.
abbrev pub kind_at : ℕ → ℕ
kind_at k = cond (eqb k 6) 24 (k - 4)

abbrev pub shape_of : ℕ → code.Shape
shape_of d =
    cond (eqb d 1) code.Shape.Alone (cond (eqb d 2) code.Shape.WithName (cond (eqb d 3) code.Shape.WithNumeral (cond (eqb d 4) code.Shape.Binding code.Shape.Plain)))

pub shape_plain : (d : ℕ) → (d ≡ 1 → ⊥) → (d ≡ 2 → ⊥) → (d ≡ 3 → ⊥) → (d ≡ 4 → ⊥) → code.Shape.Plain ≡ shape_of d
shape_plain d n1 n2 n3 n4 = rw (ne_eqb d 1 n1, ne_eqb d 2 n2, ne_eqb d 3 n3, ne_eqb d 4 n4)

module _ (n : ℕ) where
  abbrev pub digit : ℕ → ℕ
  digit k = n / 2 ^ (3 * (k - 6)) % 8

  abbrev pub form_of : ℕ → Option FormOfWord
  form_of k = Some (record { kind = kind_at k; shape = shape_of (digit k) })

  pub form_by : values form_of 6 22 ≡ values form_at 6 22 → (k kind : ℕ) (shape : code.Shape) → 6 ≤ k → k < 28 → kind ≡ kind_of (form_at k) → shape ≡ shape_of (digit k)
      → Some (record { kind = kind; shape = shape }) ≡ form_at k
  form_by v k kind shape l h d e =
      let s = same_value form_of form_at 6 22 k v l (omega arith) in
      rw (d ∙ ap kind_of (sym s), e) s
