-- Document 02, Req 10: what the proofs ask of an edition of the source format, shown by computation for both.
use mathlib.Core.Path.{◌≡◌, refl, subst}
use mathlib.Core.List.{List, map}
use mathlib.Core.Option.{Option, none, some}
use mathlib.Core.Bool.{Bool, true, false, ◌&&◌, cond}
use Prim.Native.Nat.{ℕ}
use lib.Dec.{leb, ltb, eqb}
use lib.ListN.{length}
use Rattle.token.specs.Token.{next_token}
use Rattle.token.specs.declared.Token.{Token}
use Rattle.words.specs.Words.{ascii, same_bytes}
use Rattle.terms.specs.Forms.{Shape, alone, with_name, with_numeral, binding, plain, Form, forms, forms_0_2, Edition, edition_0_1, edition_0_2, form_of_kind, arity_of, universe, ref, counts_as}
use Rattle.terms.specs.TextForms.{text_forms, unbound_shape}
use Rattle.terms.specs.Offsets.{begins_with, first_bytes}
use Rattle.terms.proofs.Names.{none_some, some_inj}
use Rattle.terms.proofs.FormTable.{every}
use Rattle.surface.specs.Text.{text}
use Rattle.surface.specs.Grammar.{Version, version_0_1, version_0_2, Head, head}
use Rattle.surface.specs.Reading.{edition_of}

-- A leaf has no argument, and what opens a frame has some.
abbrev pub counts : Shape → ℕ → Bool
counts alone n = eqb n 0
counts with_name n = eqb n 0
counts with_numeral n = eqb n 0
counts binding n = ltb 0 n
counts plain n = ltb 0 n

abbrev pub counted_form : Form → Bool
counted_form f = counts f.shape f.arity

-- That is so of a form, its kind is no core kind, and it is the form of its kind.
abbrev pub good_form : Form → Bool
good_form f = counted_form f && (leb 3 f.kind && eqb (arity_of f.kind) f.arity)

-- What a form begins with is told by its kind.
abbrev pub told : Form → Bool
told f = same_bytes (first_bytes f.kind) (begins_with f.shape f.word)

-- A word that stands alone has three bytes at least, and a form that is written with terms alone has one of them at least.
abbrev pub fine_as : Shape → Form → Bool
fine_as alone f = leb 3 (length f.word)
fine_as with_name f = true
fine_as with_numeral f = true
fine_as binding f = true
fine_as plain f = leb 1 f.arity

abbrev pub fine : Form → Bool
fine f = fine_as f.shape f

abbrev pub is_reference : Shape → Bool
is_reference alone = false
is_reference with_name = true
is_reference with_numeral = false
is_reference binding = false
is_reference plain = false

abbrev pub is_universe : Shape → Bool
is_universe alone = false
is_universe with_name = false
is_universe with_numeral = true
is_universe binding = false
is_universe plain = false

-- What a form is besides its word and its kind.
abbrev pub outline : Option Form → Option (Shape × ℕ)
outline none = none
outline (some f) = some (f.shape, f.arity)

-- Where a form stands in a source, core text has the form of the kind that it counts as, without a binder; for a reference it has none.
abbrev pub text_outline : Form → Option (Shape × ℕ)
text_outline f = outline (form_of_kind (counts_as f.kind) text_forms)

abbrev pub carried_as : Shape → ℕ → Option (Shape × ℕ)
carried_as c n = cond (is_reference c) none (some (unbound_shape c, n))

pub record AllCarried (l : List Form) : Type 0 where
  pub forms : map text_outline l ≡ map (λ f. carried_as f.shape f.arity) l
  pub references : map (λ f. eqb f.kind ref) l ≡ map (λ f. is_reference f.shape) l
  pub universes : map (λ f. eqb f.kind universe) l ≡ map (λ f. is_universe f.shape) l

abbrev pub CountedEdition : Edition → Type 0
CountedEdition E = every counted_form E.forms ≡ true

abbrev pub GoodEdition : Edition → Type 0
GoodEdition E = every good_form E.forms ≡ true

-- The tokens are those of a source, and each form passes the tests.
pub record Conditions (E : Edition) : Type 0 where
  pub tokens : E.tokens ≡ next_token
  pub counted : CountedEdition E
  pub good : GoodEdition E
  pub told : every told E.forms ≡ true
  pub fine : every fine E.forms ≡ true
  pub carried : AllCarried E.forms

pub meets_0_1 : Conditions edition_0_1
unfolding edition_0_1 forms forms_0_2 text_forms arity_of form_of_kind first_bytes same_bytes
meets_0_1 = record { tokens = refl; counted = refl; good = refl; told = refl; fine = refl; carried = record { forms = refl; references = refl; universes = refl } }

pub meets_0_2 : Conditions edition_0_2
unfolding edition_0_2 forms forms_0_2 text_forms arity_of form_of_kind first_bytes same_bytes
meets_0_2 = record { tokens = refl; counted = refl; good = refl; told = refl; fine = refl; carried = record { forms = refl; references = refl; universes = refl } }

-- Each edition that reading supports meets them.
pub edition_meets : (a b : List ℕ) (E : Edition) → edition_of a b ≡ some E → Conditions E
unfolding edition_of
edition_meets a b E e = go (same_bytes a (ascii "0") && same_bytes b (ascii "1")) (same_bytes a (ascii "0") && same_bytes b (ascii "2")) e
  where
    go : (x y : Bool) → cond x (some edition_0_1) (cond y (some edition_0_2) none) ≡ some E → Conditions E
    go true y f = subst Conditions (some_inj f) meets_0_1
    go false true f = subst Conditions (some_inj f) meets_0_2
    go false false f = none_some f

-- So does each that the grammar names: it is the one that reading supports.
pub version_edition : {s : List ℕ} {a b : Token} {E : Edition} → Version s a b E → edition_of (text s a) (text s b) ≡ some E
unfolding edition_of same_bytes
version_edition {s} {a} {b} (version_0_1 v w) = λ j. edition_of (v.is j) (w.is j)
version_edition {s} {a} {b} (version_0_2 v w) = λ j. edition_of (v.is j) (w.is j)

pub version_meets : {s : List ℕ} {v₀ v₁ : Token} {E : Edition} → Version s v₀ v₁ E → Conditions E
version_meets {s} {v₀} {v₁} {E} v = edition_meets (text s v₀) (text s v₁) E (version_edition v)

pub head_meets : {s : List ℕ} {ts us : List Token} {E : Edition} {x : Token} → Head s ts E x us → Conditions E
head_meets (head o w v c p m x d) = version_meets v
