-- The table of forms: what holds of each line holds of the form of a word and of a kind.
use mathlib.Core.Path.{◌≡◌, refl, ap, ◌∙◌, subst}
use mathlib.Core.List.{List, [], ◌∷◌, map}
use mathlib.Core.Option.{Option, none, some}
use mathlib.Core.Bool.{Bool, true, false, ◌&&◌, cond, and-eq-true_iff}
use Prim.Native.Nat.{ℕ, zero, suc, ◌+◌, ◌≤◌}
use native.Mathlib.Omega.{arith}
use lib.Dec.{leb, eqb}
use borrow.Author.Tests.{leb-true}
use Rattle.words.specs.Words.{ascii, same_bytes}
use Rattle.words.proofs.Names.{same_eq}
use Rattle.terms.specs.Forms.{Shape, alone, with_name, with_numeral, binding, plain, Form, forms, forms_0_2, universe, ref, form_of_word, form_of_kind, arity_of, has_atom}
use Rattle.terms.proofs.Names.{none_some, some_inj}

-- Each form of a list passes a test.
abbrev pub every : (Form → Bool) → List Form → Bool
every p [] = true
every p (f ∷ l) = p f && every p l

module _ (p : Form → Bool) where
  step : (h f : Form) (l : List Form) (x : Option Form) (b : Bool) → every p (h ∷ l) ≡ true → (every p l ≡ true → x ≡ some f → p f ≡ true)
      → elim b as (λ _. Option Form) [ true ↦ some h | false ↦ x ] ≡ some f → p f ≡ true
  step h f l x true g ih e = subst (λ (y : Form). p y ≡ true) (some_inj e) ((and-eq-true_iff (p h) (every p l)).0 g).0
  step h f l x false g ih e = ih ((and-eq-true_iff (p h) (every p l)).0 g).1 e

  pub of_word : (w : List ℕ) (l : List Form) (f : Form) → every p l ≡ true → form_of_word w l ≡ some f → p f ≡ true
  unfolding form_of_word
  of_word w [] f g e = none_some e
  of_word w (h ∷ l) f g e = step h f l (form_of_word w l) (same_bytes w h.word) g (of_word w l f) e

  pub of_kind : (k : ℕ) (l : List Form) (f : Form) → every p l ≡ true → form_of_kind k l ≡ some f → p f ≡ true
  unfolding form_of_kind
  of_kind k [] f g e = none_some e
  of_kind k (h ∷ l) f g e = step h f l (form_of_kind k l) (eqb k h.kind) g (of_kind k l f) e

-- A form's word is the one that it was found by.
pub word_is : (w : List ℕ) (l : List Form) (f : Form) → form_of_word w l ≡ some f → w ≡ f.word
unfolding form_of_word
word_is w [] f e = none_some e
word_is w (h ∷ l) f e = go (word_is w l f) (same_bytes w h.word) refl e
  where
    go : (form_of_word w l ≡ some f → w ≡ f.word) → (b : Bool) → same_bytes w h.word ≡ b → elim b as (λ _. Option Form) [ true ↦ some h | false ↦ form_of_word w l ] ≡ some f → w ≡ f.word
    go ih true q e = same_eq w h.word q ∙ ap (λ (x : Form). x.word) (some_inj e)
    go ih false q e = ih e

-- No form has more than six arguments.
all_small : every (λ f. leb f.arity 6) forms_0_2 ≡ true
unfolding forms forms_0_2
all_small = refl

pub arity_small : (k : ℕ) → arity_of k ≤ 6
unfolding arity_of
arity_small k = go (form_of_kind k forms_0_2) refl
  where
    go : (o : Option Form) → form_of_kind k forms_0_2 ≡ o → elim o as (λ _. ℕ) [ none ↦ 0 | some f ↦ f.arity ] ≤ 6
    go none e = omega arith
    go (some f) e = leb-true f.arity 6 (of_kind (λ f. leb f.arity 6) k forms_0_2 f all_small e)

-- A row has room for what each form keeps: the start and length of its atom, and its arguments' rows.
pub fields_fit : every (λ f. leb (cond (has_atom f.shape) (f.arity + 2) f.arity) 6) forms ≡ true
unfolding forms
fields_fit = refl

-- What is compared or replaced by its atom has no arguments.
pub arity_universe : arity_of universe ≡ 0
unfolding arity_of form_of_kind forms forms_0_2
arity_universe = refl

pub arity_ref : arity_of ref ≡ 0
unfolding arity_of form_of_kind forms forms_0_2
arity_ref = refl

-- The table against document 01's other sentence, "Kinds: .. universe 3, pi 4, lam 5, .. ann 23, ref 24", and document 02's, "surface kind 25".
abbrev word_of_kind : ℕ → List ℕ
word_of_kind k = elim (form_of_kind k forms_0_2) [ none ↦ [] | some f ↦ f.word ]

abbrev words_from : ℕ → ℕ → List (List ℕ)
words_from k zero = []
words_from k (suc n) = word_of_kind k ∷ words_from (suc k) n

pub kinds_in_order : words_from 3 23 ≡
    ascii "universe" ∷ ascii "pi" ∷ ascii "lam" ∷ ascii "app" ∷ ascii "sigma" ∷ ascii "pair" ∷ ascii "fst" ∷ ascii "snd" ∷ ascii "id" ∷
    ascii "refl" ∷ ascii "j" ∷ ascii "empty" ∷ ascii "empty-elim" ∷ ascii "unit" ∷ ascii "star" ∷ ascii "unit-elim" ∷ ascii "nat" ∷
    ascii "zero" ∷ ascii "succ" ∷ ascii "nat-elim" ∷ ascii "ann" ∷ ascii "ref" ∷ ascii "arrow" ∷ []
unfolding form_of_kind forms forms_0_2
kinds_in_order = refl

-- "One argument: `fst snd refl succ`; two: `app pair empty-elim ann`; three: `id unit-elim`; four: `nat-elim`; six: `j`."
abbrev with_arguments : ℕ → List Form → List (List ℕ)
with_arguments n [] = []
with_arguments n (f ∷ l) = cond (is_plain f.shape && eqb f.arity n) (f.word ∷ with_arguments n l) (with_arguments n l)
  where
    is_plain : Shape → Bool
    is_plain alone = false
    is_plain with_name = false
    is_plain with_numeral = false
    is_plain binding = false
    is_plain plain = true

pub words_by_arity : map (λ n. with_arguments n forms) (1 ∷ 2 ∷ 3 ∷ 4 ∷ 5 ∷ 6 ∷ []) ≡
    (ascii "fst" ∷ ascii "snd" ∷ ascii "refl" ∷ ascii "succ" ∷ []) ∷
    (ascii "app" ∷ ascii "pair" ∷ ascii "empty-elim" ∷ ascii "ann" ∷ []) ∷
    (ascii "id" ∷ ascii "unit-elim" ∷ []) ∷
    (ascii "nat-elim" ∷ []) ∷
    [] ∷
    (ascii "j" ∷ []) ∷
    []
unfolding forms
words_by_arity = refl
