-- The table of core text's forms, and each source form's line in it: what is equal line by line is equal for the form of a kind and of a word.
use mathlib.Core.Path.{◌≡◌, refl, sym, ap, ◌∙◌, subst}
use mathlib.Core.List.{List, [], ◌∷◌, map, head-eq_of_cons-eq, tail-eq_of_cons-eq}
use mathlib.Core.Option.{Option, some}
use mathlib.Core.Bool.{Bool, true, false, ◌||◌}
use Prim.Native.Nat.{ℕ}
use lib.Dec.{eqb}
use borrow.Author.Tests.{eqb-true}
use Rattle.core_token.specs.CoreToken.{core_class}
use Rattle.words.specs.Words.{same_bytes}
use Rattle.terms.specs.Forms.{Shape, alone, with_name, with_numeral, binding, plain, Form, forms, form_of_word, form_of_kind, has_atom, var_kind, global_kind, universe, ref}
use Rattle.terms.specs.TextForms.{text_forms}
use Rattle.terms.proofs.Names.{none_some, some_inj}
use Rattle.terms.proofs.FormTable.{every, of_word, of_kind}
use Rattle.surface.proofs.Editions.{is_reference, is_universe, text_outline, carried_as, AllCarried}
use Rattle.core_module.proofs.Tokens.{wordlike}

module _ {A : Type 0} (x y : Form → A) where
  step : (h f : Form) (l : List Form) (o : Option Form) (b : Bool) → map x (h ∷ l) ≡ map y (h ∷ l) → (map x l ≡ map y l → o ≡ some f → x f ≡ y f)
      → elim b as (λ _. Option Form) [ true ↦ some h | false ↦ o ] ≡ some f → x f ≡ y f
  step h f l o true g ih e = subst (λ (z : Form). x z ≡ y z) (some_inj e) (head-eq_of_cons-eq g)
  step h f l o false g ih e = ih (tail-eq_of_cons-eq g) e

  pub equal_of_kind : (k : ℕ) (l : List Form) (f : Form) → map x l ≡ map y l → form_of_kind k l ≡ some f → x f ≡ y f
  unfolding form_of_kind
  equal_of_kind k [] f g e = none_some e
  equal_of_kind k (h ∷ l) f g e = step h f l (form_of_kind k l) (eqb k h.kind) g (equal_of_kind k l f) e

  pub equal_of_word : (w : List ℕ) (l : List Form) (f : Form) → map x l ≡ map y l → form_of_word w l ≡ some f → x f ≡ y f
  unfolding form_of_word
  equal_of_word w [] f g e = none_some e
  equal_of_word w (h ∷ l) f g e = step h f l (form_of_word w l) (same_bytes w h.word) g (equal_of_word w l f) e

pub kind_is : (k : ℕ) (l : List Form) (f : Form) → form_of_kind k l ≡ some f → f.kind ≡ k
unfolding form_of_kind
kind_is k [] f e = none_some e
kind_is k (h ∷ l) f e = go (kind_is k l f) (eqb k h.kind) refl e
  where
    go : (form_of_kind k l ≡ some f → f.kind ≡ k) → (b : Bool) → eqb k h.kind ≡ b → elim b as (λ _. Option Form) [ true ↦ some h | false ↦ form_of_kind k l ] ≡ some f → f.kind ≡ k
    go ih true q e = let r : f ≡ h = sym (some_inj e) in ap (λ (x : Form). x.kind) r ∙ sym (eqb-true k h.kind q)
    go ih false q e = ih e

-- A form's word is an atom, by which it is found.
pub record Legible (g : Form) : Type 0 where
  pub found : form_of_word g.word text_forms ≡ some g
  pub is_word : wordlike g.word ≡ true

all_found : map (λ g. form_of_word g.word text_forms) text_forms ≡ map some text_forms
unfolding text_forms forms form_of_word same_bytes
all_found = refl

all_words : every (λ g. wordlike g.word) text_forms ≡ true
unfolding text_forms forms core_class
all_words = refl

pub legible : (k : ℕ) (g : Form) → form_of_kind k text_forms ≡ some g → Legible g
legible k g e = record {
  found = equal_of_kind (λ f. form_of_word f.word text_forms) some k text_forms g all_found e;
  is_word = of_kind (λ f. wordlike f.word) k text_forms g all_words e;
}

-- A form is the one of its kind, and has no name.
all_kinds : map (λ g. form_of_kind g.kind text_forms) text_forms ≡ map some text_forms
unfolding text_forms forms form_of_kind
all_kinds = refl

pub its_kind : (w : List ℕ) (g : Form) → form_of_word w text_forms ≡ some g → form_of_kind g.kind text_forms ≡ some g
its_kind w g e = equal_of_word (λ f. form_of_kind f.kind text_forms) some w text_forms g all_kinds e

abbrev pub unnamed : Shape → Bool
unnamed alone = true
unnamed with_name = false
unnamed with_numeral = true
unnamed binding = false
unnamed plain = true

all_unnamed : every (λ g. unnamed g.shape) text_forms ≡ true
unfolding text_forms forms
all_unnamed = refl

pub no_name : (w : List ℕ) (g : Form) → form_of_word w text_forms ≡ some g → unnamed g.shape ≡ true
no_name w g e = of_word (λ f. unnamed f.shape) w text_forms g all_unnamed e

-- The kinds that hold a numeral: var, global and universe.
abbrev pub numbered : ℕ → Bool
numbered k = (eqb k var_kind || eqb k global_kind) || eqb k universe

all_numbers : map (λ g. has_atom g.shape) text_forms ≡ map (λ g. numbered g.kind) text_forms
unfolding text_forms forms
all_numbers = refl

pub numbers : (k : ℕ) (g : Form) → form_of_kind k text_forms ≡ some g → has_atom g.shape ≡ numbered k
numbers k g e = equal_of_kind (λ f. has_atom f.shape) (λ f. numbered f.kind) k text_forms g all_numbers e ∙ ap numbered (kind_is k text_forms g e)

-- Each form of a source has its form in core text, but for references: that is so of a form f of the shape c.
pub record Carried (c : Shape) (f : Form) : Type 0 where
  pub form : text_outline f ≡ carried_as c f.arity
  pub reference : eqb f.kind ref ≡ is_reference c
  pub universe : eqb f.kind universe ≡ is_universe c

pub carried_word : (w : List ℕ) (l : List Form) (f : Form) → AllCarried l → form_of_word w l ≡ some f → Carried f.shape f
carried_word w l f a e = record {
  form = equal_of_word text_outline (λ f. carried_as f.shape f.arity) w l f a.forms e;
  reference = equal_of_word (λ f. eqb f.kind ref) (λ f. is_reference f.shape) w l f a.references e;
  universe = equal_of_word (λ f. eqb f.kind universe) (λ f. is_universe f.shape) w l f a.universes e;
}
