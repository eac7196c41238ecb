-- What the grammar derives has the shape of a module: each term has as many arguments as its kind wants.
use mathlib.Core.Path.{◌≡◌, refl, sym, ap, ◌∙◌, subst}
use mathlib.Core.List.{List, map}
use mathlib.Core.Bool.{true, and-eq-true_iff}
use Prim.Native.Nat.{ℕ, suc, ◌≤◌}
use native.Mathlib.Decide.{ℕ_discrete}
use native.Mathlib.Omega.{arith}
use lib.Dec.{leb, eqb}
use borrow.Author.Tests.{leb-true, eqb-true}
use Rattle.token.specs.declared.Token.{Token}
use Rattle.terms.specs.Forms.{Shape, alone, with_name, with_numeral, binding, plain, Form, Edition, arity_of}
use Rattle.terms.specs.Tree.{Forest, relabel, count}
use Rattle.terms.specs.Label.{Label, Declaration, named, named_declaration}
use Rattle.terms.proofs.Cells.{count_relabel}
use Rattle.terms.proofs.FormTable.{of_word}
use Rattle.terms.proofs.NamedModule.{Shaped, ShapedModule}
use Rattle.surface.specs.Text.{text}
use Rattle.surface.specs.Grammar.{Tag, Terms, no_term, leaf_term, ref_term, universe_term, binding_term, plain_term, Declarations, no_declaration, postulate, transparent, opaque, Derives}
use Rattle.surface.proofs.Editions.{counts, counted_form, good_form, CountedEdition, GoodEdition, head_meets}

pub record Good (f : Form) : Type 0 where
  pub counted : counts f.shape f.arity ≡ true
  pub low : 3 ≤ f.kind
  pub arities : arity_of f.kind ≡ f.arity

good_is : (f : Form) → good_form f ≡ true → Good f
good_is f e =
    let a = (and-eq-true_iff (counts f.shape f.arity) _).0 e in
    let b = (and-eq-true_iff (leb 3 f.kind) _).0 a.1 in
    record { counted = a.0; low = leb-true 3 f.kind b.0; arities = eqb-true (arity_of f.kind) f.arity b.1 }

-- n terms are n.
pub terms_count : {E : Edition} {s : List ℕ} {n : ℕ} {ts us : List Token} {f : Forest Label} → Terms E s n ts f us → count f ≡ n
terms_count no_term = refl
terms_count (leaf_term g k) = ap suc (terms_count k)
terms_count (ref_term o g x c k) = ap suc (terms_count k)
terms_count (universe_term o g x c k) = ap suc (terms_count k)
terms_count (binding_term o g x a c k) = ap suc (terms_count k)
terms_count (plain_term o g a c k) = ap suc (terms_count k)

pub tag_good : (E : Edition) (s : List ℕ) → GoodEdition E → (f : Form) (c : Shape) (t : Token) → Tag E s f c t → Good f
tag_good E s good f c t g = good_is f (of_word good_form (text s t) E.forms f good g.is)

pub tag_counts : (E : Edition) (s : List ℕ) → CountedEdition E → (f : Form) (c : Shape) (t : Token) → Tag E s f c t → counts c f.arity ≡ true
tag_counts E s counted f c t g =
    subst (λ (x : Shape). counts x f.arity ≡ true) g.shape (of_word counted_form (text s t) E.forms f counted g.is)

-- Each term has as many arguments as its kind wants.
module _ (E : Edition) (s : List ℕ) (good : GoodEdition E) where
  no_arguments : (f : Form) (c : Shape) (t : Token) → Tag E s f c t → counts c f.arity ≡ eqb f.arity 0 → 0 ≡ arity_of f.kind
  no_arguments f c t g e =
      let w = tag_good E s good f c t g in
      let h : counts c f.arity ≡ true = subst (λ (x : Shape). counts x f.arity ≡ true) g.shape w.counted in
      omega (arith, w.arities, eqb-true f.arity 0 (sym e ∙ h))

  args_many : (f : Form) (c : Shape) (t : Token) (a : Forest Label) → Tag E s f c t → count a ≡ f.arity → count (relabel (named s) a) ≡ arity_of f.kind
  args_many f c t a g e = count_relabel (named s) a ∙ e ∙ sym (tag_good E s good f c t g).arities

  pub terms_shaped : {n : ℕ} {ts us : List Token} {f : Forest Label} → Terms E s n ts f us → Shaped (relabel (named s) f)
  terms_shaped no_term = tt
  terms_shaped (leaf_term {t = t} {f = f} g k) = let w = tag_good E s good f alone t g in (w.low, no_arguments f alone t g refl, tt, terms_shaped k)
  terms_shaped (ref_term {t = t} {f = f} o g x c k) = let w = tag_good E s good f with_name t g in (w.low, no_arguments f with_name t g refl, tt, terms_shaped k)
  terms_shaped (universe_term {t = t} {f = f} o g x c k) = let w = tag_good E s good f with_numeral t g in (w.low, no_arguments f with_numeral t g refl, tt, terms_shaped k)
  terms_shaped (binding_term {t = t} {a = a} {f = f} o g x d c k) = let w = tag_good E s good f binding t g in (w.low, args_many f binding t a g (terms_count d), terms_shaped d, terms_shaped k)
  terms_shaped (plain_term {t = t} {a = a} {f = f} o g d c k) = let w = tag_good E s good f plain t g in (w.low, args_many f plain t a g (terms_count d), terms_shaped d, terms_shaped k)

  pub declarations_shaped : {ts : List Token} {ds : List Declaration} → Declarations E s ts ds → ShapedModule (map (named_declaration s) ds)
  unfolding ℕ_discrete
  declarations_shaped no_declaration = tt
  declarations_shaped (postulate o w x d c k) = (refl, terms_shaped d, declarations_shaped k)
  declarations_shaped (transparent o w x d c k) = (refl, terms_shaped d, declarations_shaped k)
  declarations_shaped (opaque o w x d c k) = (refl, terms_shaped d, declarations_shaped k)

pub shaped : (s : List ℕ) (ds : List Declaration) → Derives s ds → ShapedModule (map (named_declaration s) ds)
shaped s ds d = declarations_shaped d.edition s (head_meets d.head).good d.declarations
