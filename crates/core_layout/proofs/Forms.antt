-- The table of core text: the form of a word is found again by its kind, and has one of the shapes that are printed.
use mathlib.Core.Path.{◌≡◌, refl, sym, ap, ◌∙◌, subst}
use mathlib.Core.List.{List, [], ◌∷◌}
use mathlib.Core.Option.{Option, some}
use mathlib.Core.Bool.{Bool, true, false, not, ◌&&◌, and-eq-true_iff, false≢true}
use Prim.Native.Nat.{ℕ}
use lib.Dec.{eqb}
use borrow.Author.Tests.{eq-eqb, not-true}
use Rattle.token.specs.declared.Token.{Token}
use Rattle.words.specs.Words.{same_bytes}
use Rattle.terms.specs.Forms.{Shape, alone, with_name, with_numeral, binding, plain, Form, forms, form_of_word, form_of_kind}
use Rattle.terms.specs.TextForms.{text_forms}
use Rattle.terms.specs.Label.{Name}
use Rattle.terms.proofs.Names.{none_some, some_inj}
use Rattle.terms.proofs.FormTable.{every, of_word, word_is}
use Rattle.surface.specs.Text.{text}
use Rattle.surface.specs.Grammar.{Tag}
use Rattle.core_text.specs.TextReading.{text_edition}
use Rattle.printing.specs.Printing.{print_shape, print_form}

-- No two forms of a list have the same kind.
abbrev distinct : List Form → Bool
distinct [] = true
distinct (h ∷ l) = every (λ g. not (eqb g.kind h.kind)) l && distinct l

kind_finds : (w : List ℕ) (l : List Form) (f : Form) → distinct l ≡ true → form_of_word w l ≡ some f → form_of_kind f.kind l ≡ some f
unfolding form_of_word form_of_kind
kind_finds w [] f d e = none_some e
kind_finds w (h ∷ l) f d e = go (kind_finds w l f) (same_bytes w h.word) e
  where
    go : (distinct l ≡ true → form_of_word w l ≡ some f → form_of_kind f.kind l ≡ some f) → (b : Bool)
        → elim b as (λ _. Option Form) [ true ↦ some h | false ↦ form_of_word w l ] ≡ some f → elim (eqb f.kind h.kind) as (λ _. Option Form) [ true ↦ some h | false ↦ form_of_kind f.kind l ] ≡ some f
    go ih true r = rw (eq-eqb f.kind h.kind (ap (λ (x : Form). x.kind) (sym (some_inj r)))) r
    go ih false r =
        let a = (and-eq-true_iff (every (λ g. not (eqb g.kind h.kind)) l) (distinct l)).0 d in
        rw (not-true (eqb f.kind h.kind) (of_word (λ g. not (eqb g.kind h.kind)) w l f a.0 r)) (ih a.1 r)

-- Core text has no names and no binders.
abbrev printed : Shape → Bool
printed alone = true
printed with_name = false
printed with_numeral = true
printed binding = false
printed plain = true

text_distinct : distinct text_forms ≡ true
unfolding text_forms forms
text_distinct = refl

text_printed : every (λ f. printed f.shape) text_forms ≡ true
unfolding text_forms forms
text_printed = refl

module _ {t : List ℕ} {f : Form} {c : Shape} {u : Token} (g : Tag text_edition t f c u) where
  pub tag_word : text t u ≡ f.word
  tag_word = word_is _ _ f g.is

  tag_printed : printed c ≡ true
  unfolding text_edition
  tag_printed = subst (λ (x : Shape). printed x ≡ true) g.shape (of_word (λ f. printed f.shape) (text t u) text_forms f text_printed g.is)

  -- What is printed for a term of the form.
  pub tag_prints : (n : Name) (args : List ℕ) → print_form (form_of_kind f.kind text_forms) n args ≡ print_shape f c n args
  unfolding text_edition print_form
  tag_prints n args =
      ap (λ (o : Option Form). print_form o n args) (kind_finds (text t u) text_forms f text_distinct g.is) ∙ ap (λ (x : Shape). print_shape f x n args) g.shape

pub no_name : {P : Type 0} {t : List ℕ} {f : Form} {u : Token} → Tag text_edition t f with_name u → P
no_name g = absurd (false≢true (tag_printed g))

pub no_binder : {P : Type 0} {t : List ℕ} {f : Form} {u : Token} → Tag text_edition t f binding u → P
no_binder g = absurd (false≢true (tag_printed g))
