-- What is printed for an accepted source can be read back.
use Rattle.token.specs.declared.Class.{Class}
use mathlib.Core.Path.{◌≡◌, refl, sym, ap, ◌∙◌, subst}
use mathlib.Core.List.{List, [], ◌∷◌, ◌++◌, map}
use mathlib.Core.Option.{Option, none, some}
use mathlib.Core.Bool.{Bool, true, false, cond, true≢false}
use Prim.Native.Nat.{ℕ, zero, suc, ◌≤◌}
use native.Mathlib.Omega.{arith}
use lib.Dec.{ltb, eqb}
use borrow.Author.Tests.{eqb-true, eqb-false, ltb-true}
use lib.ListN.{length}
use Rattle.token.specs.declared.Token.{Token}
use Rattle.core_token.specs.CoreToken.{core_class}
use Rattle.words.specs.Words.{same_bytes, numeral}
use Rattle.terms.specs.Forms.{Shape, alone, with_name, with_numeral, binding, plain, Form, Edition, form_of_kind, universe, ref, counts_as}
use Rattle.terms.specs.TextForms.{text_forms, unbound_shape}
use Rattle.terms.specs.Tree.{Forest, nil, node, tree, next, count, relabel}
use Rattle.terms.specs.Label.{Name, part, Label, Named, Declaration, trees, declared_name}
use Rattle.terms.specs.Resolution.{find, Locals, find_local, Core, kept, referent, core_of, locals_in, Resolved, resolve, resolve_declaration, resolve_module, is_unknown, first_unknown, RefusedName, refused_name, first_refused}
use Rattle.terms.proofs.Names.{none_some, some_inj}
use Rattle.terms.proofs.Cells.{count_relabel, next_relabel}
use Rattle.terms.proofs.Spans.{core_of_ref, core_of_kept, resolve_labels, resolve_next}
use Rattle.terms.proofs.Widths.{total}
use Rattle.surface.specs.Text.{text, label_with, label_alone}
use Rattle.surface.specs.Grammar.{Terms, no_term, leaf_term, ref_term, universe_term, binding_term, plain_term, Tag, Name as GrammarName, Declarations, no_declaration, postulate, transparent, opaque, Derives}
use Rattle.surface.specs.Reading.{declaration_kind}
use Rattle.surface.proofs.Editions.{outline, text_outline, Conditions, head_meets}
use Rattle.surface.proofs.Shaped.{tag_counts, terms_count}
use Rattle.surface.proofs.Frames.{deepest, Within as SourceWithin, within as source-within}
use Rattle.printing.specs.Printing.{declaration_word, spell_core, spell, spelled_core}
use Rattle.core_module.proofs.Forms.{Carried, carried_word}
use Rattle.core_module.proofs.Printable.{Fit, Printable, Within, Kinded, PrintableDeclaration, PrintableModule, WithinModule, spelled_total}
use Rattle.core_module.proofs.Numerals.{decimal_worth}
use Rattle.core_module.proofs.Identifiers.{identifier_direct}

-- A declaration and those behind it, where no name is refused.
pub fresh : {P : Type 0} (s : List ℕ) (g : List Name) (d : Declaration) (ds : List Declaration) → first_refused s g (d ∷ ds) ≡ none
    → (find (declared_name s d) g ≡ none → first_unknown (resolve_declaration s g d) ≡ none → first_refused s (g ++ (declared_name s d ∷ [])) ds ≡ none → P) → P
unfolding first_refused
fresh {P} s g d ds e k = go (find (declared_name s d) g) (first_unknown (resolve_declaration s g d)) refl refl e
  where
    go : (a : Option ℕ) (b : Option Label) → find (declared_name s d) g ≡ a → first_unknown (resolve_declaration s g d) ≡ b
        → ◌≡◌ {A = Option RefusedName} (elim a as (λ _. Option RefusedName) [
          | some i ↦ some (refused_name Class.DuplicateName d.start d.length)
          | none ↦ elim b as (λ _. Option RefusedName) [ some u ↦ some (refused_name Class.UnknownName u.start u.length) | none ↦ first_refused s (g ++ (declared_name s d ∷ [])) ds ]
        ]) none → P
    go (some i) b p q f = none_some (sym f)
    go none (some u) p q f = none_some (sym f)
    go none none p q f = k p q f

-- What a term's label must be, with its arguments.
abbrev Labelled : Named → Forest Named → Type 0
Labelled m a = (g : Form) × (form_of_kind m.kind text_forms ≡ some g) × Fit g.shape g.arity m a

module _ (E : Edition) (meets : Conditions E) (s : List ℕ) where
  pub carried : (f : Form) (c : Shape) (t : Token) → Tag E s f c t → Carried c f
  carried f c t g = subst (λ (x : Shape). Carried x f) g.shape (carried_word (text s t) E.forms f meets.carried g.is)

  -- A term that is kept, of a form f of the shape c: core text has the form of the kind that it counts as.
  kept_label : (l : Locals) (g : List Name) (m : Label) (a : Forest Named) (f : Form) (c : Shape) → m.kind ≡ f.kind
      → text_outline f ≡ some (unbound_shape c, f.arity) → eqb f.kind ref ≡ false
      → Fit (unbound_shape c) f.arity (spell_core s m kept) a
      → Labelled (spell_core s m (core_of s l g m)) a
  kept_label l g m a f c k w r x =
      subst (λ (o : Core). Labelled (spell_core s m o) a) (sym (core_of_kept s l g m (λ q. eqb-false f.kind ref r (sym k ∙ q))))
      (go (form_of_kind (counts_as m.kind) text_forms) refl (ap (λ (n : ℕ). outline (form_of_kind (counts_as n) text_forms)) k ∙ w))
    where
      go : (o : Option Form) → form_of_kind (counts_as m.kind) text_forms ≡ o → outline o ≡ some (unbound_shape c, f.arity) → Labelled (spell_core s m kept) a
      go none q e = none_some e
      go (some h) q e = (h, q, subst (λ (y : Shape × ℕ). Fit y.0 y.1 (spell_core s m kept) a) (sym (some_inj e)) x)

  found_label : (m : Label) (i j : Option ℕ) → is_unknown (referent i j) ≡ false → Labelled (spell_core s m (referent i j)) nil
  unfolding text_forms form_of_kind
  found_label m (some i) j e = (_, refl, ((decimal_worth i).canonical, refl))
  found_label m none (some j) e = (_, refl, ((decimal_worth j).canonical, refl))
  found_label m none none e = absurd (true≢false e)

  ref_label : (l : Locals) (g : List Name) (m : Label) → m.kind ≡ ref → is_unknown (core_of s l g m) ≡ false → Labelled (spell_core s m (core_of s l g m)) nil
  ref_label l g m k e =
      let q = core_of_ref s l g m k in
      subst (λ (o : Core). Labelled (spell_core s m o) nil) (sym q) (found_label m (find_local (part s m.start m.length) l) (find (part s m.start m.length) g) (subst (λ (o : Core). is_unknown o ≡ false) q e))

  -- What is known of a term where no reference is unknown.
  known_node : {P : Type 0} (t : Resolved) (a r : Forest Resolved) → first_unknown (node t a r) ≡ none → (is_unknown t.core ≡ false → first_unknown a ≡ none → first_unknown r ≡ none → P) → P
  unfolding first_unknown
  known_node {P} t a r e k = go (is_unknown t.core) (first_unknown a) refl refl e
    where
      go : (b : Bool) (o : Option Label) → is_unknown t.core ≡ b → first_unknown a ≡ o
          → ◌≡◌ {A = Option Label} (elim b as (λ _. Option Label) [ true ↦ some t.label | false ↦ elim o as (λ _. Option Label) [ some l ↦ some l | none ↦ first_unknown r ] ]) none → P
      go true o p q e = none_some (sym e)
      go false (some l) p q e = none_some (sym e)
      go false none p q e = k p q e

  abbrev pub core_terms : (ℕ → Locals) → List Name → Forest Label → Forest Named
  core_terms e g f = relabel (spell s) (resolve s e g f)

  count_core : (e : ℕ → Locals) (g : List Name) (f : Forest Label) → count (core_terms e g f) ≡ count f
  count_core e g f = count_relabel (spell s) (resolve s e g f) ∙ sym (count_relabel (λ (r : Resolved). r.label) (resolve s e g f)) ∙ ap count (resolve_labels s e g f)

  no_name : (m : Label) → eqb m.kind universe ≡ false → (spell_core s m kept).name ≡ []
  no_name m h = ap (λ (b : Bool). cond b (part s m.start m.length) []) h

  the_name : (m : Label) → eqb m.kind universe ≡ true → part s m.start m.length ≡ (spell_core s m kept).name
  the_name m h = ap (λ (b : Bool). cond b (part s m.start m.length) []) (sym h)

  -- A form with arguments.
  many : (e : ℕ → Locals) (g : List Name) (f : Form) (a : Forest Label) → ltb 0 f.arity ≡ true → count a ≡ f.arity → (count (core_terms e g a) ≡ f.arity) × ¬ (core_terms e g a ≡ nil)
  many e g f a h c =
      let k = count_core e g a ∙ c in
      (k, λ z. omega (arith, ltb-true 0 f.arity h, k, ap count z))

  terms_printable : {n : ℕ} {ts us : List Token} {f : Forest Label} → Terms E s n ts f us → (e : ℕ → Locals) (g : List Name) → first_unknown (resolve s e g f) ≡ none → Printable (core_terms e g f)
  terms_printable no_term e g h = tt
  terms_printable (leaf_term {t = t} {r = r} {f = f} x k) e g h =
      let m = label_alone f t.start in
      let w = carried f alone t x in
      known_node (record { label = m; core = core_of s (e zero) g m }) nil (resolve s (λ i. e (suc i)) g r) h (λ u v y.
      (kept_label (e zero) g m nil f alone refl w.form w.reference (no_name m w.universe, refl), tt, terms_printable k (λ i. e (suc i)) g y))
  terms_printable (ref_term {o = o} {t = t} {x = x} {r = r} {f = f} a b c d k) e g h =
      let m = label_with f x o.start in
      known_node (record { label = m; core = core_of s (e zero) g m }) nil (resolve s (λ i. e (suc i)) g r) h (λ u v y.
      (ref_label (e zero) g m (eqb-true f.kind ref (carried f with_name t b).reference) u, tt, terms_printable k (λ i. e (suc i)) g y))
  terms_printable (universe_term {o = o} {t = t} {x = x} {r = r} {f = f} a b c d k) e g h =
      let m = label_with f x o.start in
      let w = carried f with_numeral t b in
      known_node (record { label = m; core = core_of s (e zero) g m }) nil (resolve s (λ i. e (suc i)) g r) h (λ u v y.
      (kept_label (e zero) g m nil f with_numeral refl w.form w.reference (subst (λ (n : Name). numeral n ≡ true) (the_name m w.universe) c.is, refl), tt, terms_printable k (λ i. e (suc i)) g y))
  terms_printable (binding_term {o = o} {t = t} {x = x} {a = a} {r = r} {f = f} p b c d i k) e g h =
      let m = label_with f x o.start in
      let w = carried f binding t b in
      let l = locals_in s m (e zero) in
      known_node (record { label = m; core = core_of s (e zero) g m }) (resolve s l g a) (resolve s (λ i. e (suc i)) g r) h (λ u v y.
      let q = many l g f a (tag_counts E s meets.counted f binding t b) (terms_count d) in
      (kept_label (e zero) g m (core_terms l g a) f binding refl w.form w.reference (no_name m w.universe, q.0, q.1), terms_printable d l g v, terms_printable k (λ i. e (suc i)) g y))
  terms_printable (plain_term {o = o} {t = t} {a = a} {r = r} {f = f} p b d i k) e g h =
      let m = label_alone f o.start in
      let w = carried f plain t b in
      let l = locals_in s m (e zero) in
      known_node (record { label = m; core = core_of s (e zero) g m }) (resolve s l g a) (resolve s (λ i. e (suc i)) g r) h (λ u v y.
      let q = many l g f a (tag_counts E s meets.counted f plain t b) (terms_count d) in
      (kept_label (e zero) g m (core_terms l g a) f plain refl w.form w.reference (no_name m w.universe, q.0, q.1), terms_printable d l g v, terms_printable k (λ i. e (suc i)) g y))

  declaration_printable : (k : ℕ) (x : Token) (f : Forest Label) (g : List Name) {ts us : List Token} {n : ℕ} → Kinded k n → GrammarName E s x → Terms E s n ts f us
      → first_unknown (resolve s (λ i. []) g f) ≡ none
      → PrintableDeclaration (record { kind = k; name = text s x; terms = core_terms (λ i. []) g f })
  declaration_printable k x f g {n = n} y m t h =
      let w = identifier_direct (text s x) m.is in
      record {
        kinded = subst (Kinded k) (sym (count_core (λ i. []) g f ∙ terms_count t)) y;
        some_name = w.0;
        direct = w.1;
        plain = w.2;
        printable = terms_printable t (λ i. []) g h;
      }

  kind_postulate : Kinded 1 1
  unfolding declaration_kind declaration_word same_bytes core_class
  kind_postulate = record { before = 0; is = refl; tag = refl; atom = refl; parts = refl }

  kind_transparent : Kinded 2 2
  unfolding declaration_kind declaration_word same_bytes core_class
  kind_transparent = record { before = 1; is = refl; tag = refl; atom = refl; parts = refl }

  kind_opaque : Kinded 3 2
  unfolding declaration_kind declaration_word same_bytes core_class
  kind_opaque = record { before = 2; is = refl; tag = refl; atom = refl; parts = refl }

  declarations_printable : {ts : List Token} {ds : List Declaration} → Declarations E s ts ds → (g : List Name) → first_refused s g ds ≡ none → PrintableModule (map (spelled_core s) (resolve_module s g ds))
  declarations_printable no_declaration g h = tt
  declarations_printable (postulate {x = x} {a = a} {ds = ds} o w n t c k) g h =
      fresh s g _ ds h (λ p q r. (declaration_printable 1 x (tree a nil) g kind_postulate n t q, declarations_printable k (g ++ (text s x ∷ [])) r))
  declarations_printable (transparent {x = x} {a = a} {b = b} {ds = ds} o w n t c k) g h =
      fresh s g _ ds h (λ p q r. (declaration_printable 2 x (tree a (tree b nil)) g kind_transparent n t q, declarations_printable k (g ++ (text s x ∷ [])) r))
  declarations_printable (opaque {x = x} {a = a} {b = b} {ds = ds} o w n t c k) g h =
      fresh s g _ ds h (λ p q r. (declaration_printable 3 x (tree a (tree b nil)) g kind_opaque n t q, declarations_printable k (g ++ (text s x ∷ [])) r))

pub printable : (s : List ℕ) (ds : List Declaration) → Derives s ds → first_refused s [] ds ≡ none → PrintableModule (map (spelled_core s) (resolve_module s [] ds))
printable s ds d h = declarations_printable d.edition (head_meets d.head) s d.declarations [] h

-- Frames and rows are as many as the source's.
within_terms : (s : List ℕ) (i : ℕ) (e : ℕ → Locals) (g : List Name) (f : Forest Label) → SourceWithin i f → Within i (relabel (spell s) (resolve s e g f))
within_terms s i e g nil w = tt
within_terms s zero e g (node m a r) w =
    (ap (λ (x : Forest Label). relabel (spell s) (resolve s (locals_in s m (e zero)) g x)) w.0, within_terms s zero (λ i. e (suc i)) g r w.1)
within_terms s (suc i) e g (node m a r) w = (within_terms s i (locals_in s m (e zero)) g a w.0, within_terms s (suc i) (λ i. e (suc i)) g r w.1)

pub within_module : (s : List ℕ) (i : ℕ) (g : List Name) (ds : List Declaration) → deepest ds ≤ i → WithinModule i (map (spelled_core s) (resolve_module s g ds))
within_module s i g [] h = tt
within_module s i g (d ∷ ds) h =
    (within_terms s i (λ i. []) g (trees d) (source-within i (trees d) (omega arith)), within_module s i (g ++ (declared_name s d ∷ [])) ds (omega arith))

pub same_total : (s : List ℕ) (g : List Name) (n : ℕ) (ds : List Declaration) → spelled_total n (map (spelled_core s) (resolve_module s g ds)) ≡ total n ds
same_total s g n [] = refl
same_total s g n (d ∷ ds) =
    same_total s (g ++ (declared_name s d ∷ [])) (next n (relabel (spell s) (resolve_declaration s g d))) ds
    ∙ ap (λ (m : ℕ). total m ds) (next_relabel (spell s) n (resolve_declaration s g d) ∙ resolve_next s (λ i. []) g n (trees d))

pub same_length : (s : List ℕ) (g : List Name) (ds : List Declaration) → length (map (spelled_core s) (resolve_module s g ds)) ≡ length ds
same_length s g [] = refl
same_length s g (d ∷ ds) = ap suc (same_length s (g ++ (declared_name s d ∷ [])) ds)
