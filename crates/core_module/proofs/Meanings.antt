-- What counts of the rows and records that loading a source and reading a text leave is what counts of their spelled modules.
use mathlib.Core.Path.{◌≡◌, refl, sym, ap, ◌∙◌, subst}
use mathlib.Core.List.{List, [], ◌∷◌, ◌++◌, map, map-append}
use mathlib.Core.Option.{Option, none, some}
use mathlib.Core.Bool.{Bool, true, false, ◌||◌, cond, false≢true, true≢false}
use Prim.Native.Nat.{ℕ, suc}
use lib.Dec.{eqb}
use borrow.Author.Tests.{eqb-true}
use Rattle.words.specs.Words.{numeral}
use Rattle.terms.specs.Forms.{Shape, alone, with_name, with_numeral, binding, plain, Form, forms, form_of_kind, has_atom, holds_span_in, var_kind, global_kind, universe, counts_as}
use Rattle.terms.specs.TextForms.{text_forms}
use Rattle.terms.specs.Tree.{Forest, nil, node, Cell, next, roots, cells, relabel}
use Rattle.terms.specs.Label.{Name, part, Label, Named, Declaration, trees, named}
use Rattle.terms.specs.Resolution.{Core, kept, var, global, unknown, Resolved, CoreDeclaration}
use Rattle.terms.specs.Rows.{pad, row, span, core_words, core_row, core_rows, declaration_records, read_records}
use Rattle.terms.specs.Content.{RecordContent, record_content}
use Rattle.terms.proofs.Arrow.{counts_same}
use Rattle.terms.proofs.Names.{none_some}
use Rattle.terms.proofs.Cells.{recell, next_relabel, roots_relabel, cells_relabel}
use Rattle.terms.proofs.RowFields.{six_fields}
use Rattle.printing.specs.Decimal.{value}
use Rattle.printing.specs.Printing.{Spelled, spell_core, spell, spelled_core}
use Rattle.core_module.specs.CoreText.{spelled_text, text_row, text_rows}
use Rattle.core_module.specs.SameText.{Meaning, meaning, source_meaning, text_meaning}
use Rattle.core_module.proofs.Forms.{numbered, numbers}
use Rattle.core_module.proofs.Printable.{Fit, Printable, PrintableModule}
use Rattle.core_module.proofs.Numerals.{decimal_worth}

-- What does not count of a row.
choose : {A : Type 0} (a b : Bool) (x y z w : A) → a || b ≡ true → cond a x (cond b y z) ≡ cond a x (cond b y w)
choose true b x y z w e = refl
choose false true x y z w e = refl
choose false false x y z w e = absurd (false≢true e)

choose_last : {A : Type 0} (a b : Bool) (x y z v w : A) → a || b ≡ false → cond a x (cond b y z) ≡ cond a v (cond b w z)
choose_last true b x y z v w e = absurd (true≢false e)
choose_last false true x y z v w e = absurd (true≢false e)
choose_last false false x y z v w e = refl

choose_second : {A : Type 0} (a b : Bool) (x y z v w : A) → a ≡ false → b ≡ true → cond a x (cond b y z) ≡ cond a v (cond b y w)
choose_second true b x y z v w e f = absurd (true≢false e)
choose_second false true x y z v w e f = refl
choose_second false false x y z v w e f = absurd (false≢true f)

same_number : (k n : ℕ) (d : Name) (l m : List ℕ) → numbered k ≡ true → meaning k n d l ≡ meaning k n d m
same_number k n d l m h = choose (eqb k var_kind || eqb k global_kind) (eqb k universe) _ _ _ _ h

same_form : (k n i : ℕ) (d e : Name) (l : List ℕ) → numbered k ≡ false → meaning k n d l ≡ meaning k i e l
same_form k n i d e l h = choose_last (eqb k var_kind || eqb k global_kind) (eqb k universe) _ _ _ _ _ h

same_digits : (k n i : ℕ) (d : Name) (l m : List ℕ) → eqb k var_kind || eqb k global_kind ≡ false → eqb k universe ≡ true → meaning k n d l ≡ meaning k i d m
same_digits k n i d l m h u = choose_second (eqb k var_kind || eqb k global_kind) (eqb k universe) _ _ _ _ _ h u

holds : (k : ℕ) (g : Form) → form_of_kind k text_forms ≡ some g → holds_span_in text_forms k ≡ numbered k
unfolding holds_span_in
holds k g e = ap (λ (o : Option Form). elim o as (λ _. Bool) [ none ↦ false | some f ↦ has_atom f.shape ]) e ∙ numbers k g e

-- What a printable term's label is.
pub record Good (m : Named) : Type 0 where
  pub form : Form
  pub is : form_of_kind m.kind text_forms ≡ some form
  pub canonical : has_atom form.shape ≡ true → numeral m.name ≡ true

fit_good : (c : Shape) (n : ℕ) (m : Named) (a : Forest Named) → Fit c n m a → has_atom c ≡ true → numeral m.name ≡ true
fit_good alone n m a h e = absurd (false≢true e)
fit_good with_name n m a h e = absurd h
fit_good with_numeral n m a h e = h.0
fit_good binding n m a h e = absurd h
fit_good plain n m a h e = absurd (false≢true e)

abbrev pub AllGood : List (Cell Named) → Type 0
AllGood [] = Unit {0}
AllGood (c ∷ l) = Good c.label × AllGood l

good_append : (l m : List (Cell Named)) → AllGood l → AllGood m → AllGood (l ++ m)
good_append [] m h k = k
good_append (c ∷ l) m h k = (h.0, good_append l m h.1 k)

cells_good : (n : ℕ) (f : Forest Named) → Printable f → AllGood (cells n f)
cells_good n nil h = tt
cells_good n (node m a r) h =
    good_append (cells n a) _ (cells_good n a h.1)
    (record { form = h.0.0; is = h.0.1; canonical = fit_good h.0.0.shape h.0.0.arity m a h.0.2 }, cells_good (suc (next n a)) r h.2)

-- What counts of a term and the rows of its arguments.
abbrev pub cell_meaning : Cell Named → Meaning
cell_meaning c = meaning c.label.kind (value c.label.name) c.label.name (pad 6 c.children)

text_cell : (t : List ℕ) (c : Cell Label) → Good (named t c.label) → text_meaning t (text_row c) ≡ cell_meaning (recell (named t) c)
text_cell t c g = ap (λ (b : Bool). text_meaning t (row k (cond b (span l) [] ++ c.children) l.offset)) (holds k g.form g.is) ∙ go (numbered k) refl
  where
    l : Label
    l = c.label

    k : ℕ
    k = c.label.kind

    go : (b : Bool) → numbered k ≡ b → text_meaning t (row k (cond b (span l) [] ++ c.children) l.offset) ≡ cell_meaning (recell (named t) c)
    go true h = same_number k (value (part t l.start l.length)) (part t l.start l.length) _ (pad 6 c.children) h
    go false h = same_form k _ _ _ _ _ h ∙ ap (meaning k (value (part t l.start l.length)) (part t l.start l.length)) (six_fields c.children l.offset)

-- A term that is kept is no var and no global.
kept_kind : (k : ℕ) (d : Name) → Good (record { kind = k; name = cond (eqb k universe) d [] }) → eqb k var_kind || eqb k global_kind ≡ false
unfolding numeral
kept_kind k d g = go (eqb k var_kind) (eqb k global_kind) refl refl
  where
    no_number : (i : ℕ) → k ≡ i → eqb i universe ≡ false → numbered i ≡ true → ⊥
    no_number i e u h =
        let c : numeral (cond (eqb k universe) d []) ≡ true = g.canonical (numbers k g.form g.is ∙ ap numbered e ∙ h) in
        false≢true (ap (λ (b : Bool). numeral (cond b d [])) (sym (ap (λ (n : ℕ). eqb n universe) e ∙ u)) ∙ c)

    go : (a b : Bool) → eqb k var_kind ≡ a → eqb k global_kind ≡ b → a || b ≡ false
    go true b e f = absurd (no_number var_kind (eqb-true k var_kind e) refl refl)
    go false true e f = absurd (no_number global_kind (eqb-true k global_kind f) refl refl)
    go false false e f = refl

neither : (a b : Bool) → a ≡ false → b ≡ false → a || b ≡ false
neither a b e f = ap (λ (x : Bool). x || b) e ∙ f

source_words : (s : List ℕ) (l : Label) (o : Core) (ch : List ℕ) → Good (spell_core s l o)
    → source_meaning s (core_words l o ch) ≡ cell_meaning (record { label = spell_core s l o; children = ch })
unfolding value text_forms forms form_of_kind
source_words s l kept ch g = go (eqb l.kind universe) refl
  where
    k : ℕ
    k = counts_as l.kind

    P : Name
    P = part s l.start l.length

    same : eqb k universe ≡ eqb l.kind universe
    same = counts_same (λ i. eqb i universe) refl l.kind

    small : eqb k var_kind || eqb k global_kind ≡ false
    small = kept_kind k P (subst (λ (b : Bool). Good (record { kind = k; name = cond b P [] })) (sym same) g)

    go : (b : Bool) → eqb l.kind universe ≡ b → source_meaning s (row k (cond b (span l) [] ++ ch) l.offset) ≡ meaning k (value (cond b P [])) (cond b P []) (pad 6 ch)
    go true h = same_digits k l.start (value P) P _ (pad 6 ch) small (same ∙ h)
    go false h = same_form k _ (value []) _ [] _ (neither _ _ small (same ∙ h)) ∙ ap (meaning k (value []) []) (six_fields ch l.offset)
source_words s l (var i) ch g = let e = sym (decimal_worth i).worth in λ j. record { kind = 1; number = e j; digits = []; children = [] }
source_words s l (global i) ch g = let e = sym (decimal_worth i).worth in λ j. record { kind = 2; number = e j; digits = []; children = [] }
source_words s l unknown ch g = none_some g.is

source_cells : (s : List ℕ) (l : List (Cell Resolved)) → AllGood (map (recell (spell s)) l) → map (source_meaning s) (map core_row l) ≡ map cell_meaning (map (recell (spell s)) l)
source_cells s [] g = refl
source_cells s (c ∷ l) g =
    let x = source_words s c.label.label c.label.core c.children g.0 in
    let y = source_cells s l g.1 in
    λ j. x j ∷ y j

text_cells : (t : List ℕ) (l : List (Cell Label)) → AllGood (map (recell (named t)) l) → map (text_meaning t) (map text_row l) ≡ map cell_meaning (map (recell (named t)) l)
text_cells t [] g = refl
text_cells t (c ∷ l) g =
    let x = text_cell t c g.0 in
    let y = text_cells t l g.1 in
    λ j. x j ∷ y j

-- What counts of the rows and of the records of a spelled module, from row n on.
abbrev pub spelled_rows : ℕ → List Spelled → List Meaning
spelled_rows n [] = []
spelled_rows n (d ∷ l) = map cell_meaning (cells n d.terms) ++ spelled_rows (next n d.terms) l

abbrev pub spelled_records : ℕ → List Spelled → List RecordContent
spelled_records n [] = []
spelled_records n (d ∷ l) = record { kind = d.kind; name = d.name; rows = pad 2 (roots n d.terms) } ∷ spelled_records (next n d.terms) l

pub source_rows : (s : List ℕ) (n : ℕ) (l : List CoreDeclaration) → PrintableModule (map (spelled_core s) l) → map (source_meaning s) (core_rows n l) ≡ spelled_rows n (map (spelled_core s) l)
source_rows s n [] h = refl
source_rows s n (d ∷ l) h =
    let c = cells_relabel (spell s) n d.trees in
    let x = source_cells s (cells n d.trees) (subst AllGood c (cells_good n (relabel (spell s) d.trees) h.0.printable)) ∙ ap (map cell_meaning) (sym c) in
    let y = source_rows s (next n d.trees) l h.1 ∙ ap (λ (m : ℕ). spelled_rows m (map (spelled_core s) l)) (sym (next_relabel (spell s) n d.trees)) in
    map-append (source_meaning s) (map core_row (cells n d.trees)) (core_rows (next n d.trees) l) ∙ (λ j. x j ++ y j)

pub text_meanings : (t : List ℕ) (n : ℕ) (l : List Declaration) → PrintableModule (map (spelled_text t) l) → map (text_meaning t) (text_rows n l) ≡ spelled_rows n (map (spelled_text t) l)
text_meanings t n [] h = refl
text_meanings t n (d ∷ l) h =
    let f = trees d in
    let c = cells_relabel (named t) n f in
    let x = text_cells t (cells n f) (subst AllGood c (cells_good n (relabel (named t) f) h.0.printable)) ∙ ap (map cell_meaning) (sym c) in
    let y = text_meanings t (next n f) l h.1 ∙ ap (λ (m : ℕ). spelled_rows m (map (spelled_text t) l)) (sym (next_relabel (named t) n f)) in
    map-append (text_meaning t) (map text_row (cells n f)) (text_rows (next n f) l) ∙ (λ j. x j ++ y j)

pub source_records : (s : List ℕ) (n : ℕ) (l : List CoreDeclaration) → map (record_content s) (declaration_records n l) ≡ spelled_records n (map (spelled_core s) l)
source_records s n [] = refl
source_records s n (d ∷ l) =
    let x = sym (roots_relabel (spell s) n d.trees) in
    let y = source_records s (next n d.trees) l ∙ ap (λ (m : ℕ). spelled_records m (map (spelled_core s) l)) (sym (next_relabel (spell s) n d.trees)) in
    λ j. record { kind = d.kind; name = part s d.start d.length; rows = pad 2 (x j) } ∷ y j

pub text_records : (t : List ℕ) (n : ℕ) (l : List Declaration) → map (record_content t) (read_records n l) ≡ spelled_records n (map (spelled_text t) l)
text_records t n [] = refl
text_records t n (d ∷ l) =
    let f = trees d in
    let x = sym (roots_relabel (named t) n f) in
    let y = text_records t (next n f) l ∙ ap (λ (m : ℕ). spelled_records m (map (spelled_text t) l)) (sym (next_relabel (named t) n f)) in
    λ j. record { kind = d.kind; name = part t d.start d.length; rows = pad 2 (x j) } ∷ y j
