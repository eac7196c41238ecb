-- By scope: what the lookup gives at a place is what binds the reference there, or the earlier declaration of its name.
use mathlib.Core.Path.{◌≡◌, refl, sym, ap, ◌∙◌, subst}
use mathlib.Core.List.{List, [], map}
use mathlib.Core.Option.{Option, none, some}
use Prim.Native.Nat.{ℕ}
use borrow.Author.Tests.{eq-eqb, ne_eqb}
use lib.ListN.{take}
use Rattle.terms.specs.Forms.{ref}
use Rattle.terms.specs.Tree.{Place}
use Rattle.terms.specs.Label.{Name, Named, Declaration, declared_name}
use Rattle.terms.specs.Resolution.{find, first_refused}
use Rattle.terms.specs.RowAt.{entry, row_at}
use Rattle.terms.specs.Lookup.{Local, Found, found, lookup, Referent, local, global, unknown, refers}
use Rattle.terms.proofs.Names.{some_inj}
use Rattle.terms.proofs.Binders.{binder_place, binder_some, binder_none}
use Rattle.binding.specs.Binds.{between, Standing, IsRef, name_of, Bound, Unbound}
use Rattle.binding.proofs.Located.{located, Gives, lookup_located}
use Rattle.binding.proofs.Referents.{referent_of}
use Rattle.binding.proofs.Modules.{module_referents, standing_row}
use Rattle.binding.proofs.Known.{never_unknown}

pub of_ref : (l : List Local) (g : List Name) (t : Named) → t.kind ≡ ref → referent_of l g t ≡ some (refers (lookup t.name l) (find t.name g))
unfolding referent_of
of_ref l g t e = rw (eq-eqb t.kind ref e, referent_of) refl

of_other : (l : List Local) (g : List Name) (t : Named) → ¬ (t.kind ≡ ref) → referent_of l g t ≡ none
unfolding referent_of
of_other l g t e = rw (ne_eqb t.kind ref e, referent_of) refl

module _ (s : List ℕ) (ds : List Declaration) (k : ℕ) where
  module _ (w : Standing s ds k) where
    -- The local binders at the term, with the rows of their forms, and the names of the earlier declarations.
    abbrev pub locals_there : List Local
    locals_there = located w.first w.place w.whole

    abbrev pub globals_there : List Name
    globals_there = map (declared_name s) (take w.number ds)

    abbrev x : Name
    x = name_of w

    gives : Gives x w.first w.place w.whole (lookup x locals_there) (binder_place x w.place w.whole)
    gives = lookup_located x w.place w.first w.whole

    pub not_ref : ¬ (IsRef w) → entry (module_referents s 0 [] ds) k ≡ some none
    not_ref e = standing_row s ds k w ∙ ap {B = Option (Option Referent)} some (of_other locals_there globals_there w.here.label e)

    module _ (e : IsRef w) where
      pub ref_row : entry (module_referents s 0 [] ds) k ≡ some (some (refers (lookup x locals_there) (find x globals_there)))
      ref_row = standing_row s ds k w ∙ ap {B = Option (Option Referent)} some (of_ref locals_there globals_there w.here.label e)

      -- What the lookup gives, as an answer.
      abbrev pub Meant : Referent → Type 0
      Meant (local f) = Bound s ds k f.count f.row
      Meant (global j) = Unbound s ds k j
      Meant unknown = entry (module_referents s 0 [] ds) k ≡ some (some unknown)

      as_bound : (q : Place) → binder_place x w.place w.whole ≡ some q → (r : ℕ) → row_at w.first q w.whole ≡ some r → Bound s ds k (between q w.place w.whole) r
      as_bound q f r h = record {
        term = w;
        is_ref = e;
        q = q;
        bound = (binder_some w.place x w.whole w.here q w.stands).0 f;
        its_row = h;
        counted = refl;
      }

      as_unbound : binder_place x w.place w.whole ≡ none → (j : ℕ) → find x globals_there ≡ some j → Unbound s ds k j
      as_unbound f j h = record { term = w; is_ref = e; free = (binder_none w.place x w.whole w.here w.stands).0 f; earlier = h }

      pub meant : Meant (refers (lookup x locals_there) (find x globals_there))
      meant = go (binder_place x w.place w.whole) refl gives
        where
          free : (g : Option ℕ) → find x globals_there ≡ g → binder_place x w.place w.whole ≡ none → lookup x locals_there ≡ none → Meant (refers none g)
          free none h f l = ref_row ∙ ap (λ (y : Option Found). some (some (refers y (find x globals_there)))) l ∙ ap (λ (y : Option ℕ). some (some (refers none y))) h
          free (some j) h f l = as_unbound f j h

          go : (o : Option Place) → binder_place x w.place w.whole ≡ o → Gives x w.first w.place w.whole (lookup x locals_there) o
              → Meant (refers (lookup x locals_there) (find x globals_there))
          go none f h = subst (λ (y : Option Found). Meant (refers y (find x globals_there))) (sym h) (free (find x globals_there) refl f h)
          go (some q) f h = subst (λ (y : Option Found). Meant (refers y (find x globals_there))) (sym h.2) (as_bound q f h.0 h.1)

  -- The answer determines what stands at the row.
  pub bound_row : (c r : ℕ) → Bound s ds k c r → entry (module_referents s 0 [] ds) k ≡ some (some (local (found c r)))
  bound_row c r b =
      let w = b.term in
      let o = (binder_some w.place (name_of w) w.whole w.here b.q w.stands).1 b.bound in
      let h = subst (Gives (name_of w) w.first w.place w.whole (lookup (name_of w) (locals_there w))) o (gives w) in
      let same : h.0 ≡ r = some_inj (sym h.1 ∙ b.its_row) in
      ref_row w b.is_ref
      ∙ ap (λ (y : Option Found). some (some (refers y (find (name_of w) (globals_there w))))) h.2
      ∙ (λ i. some (some (local (found (sym b.counted i) (same i)))))

  pub unbound_row : (j : ℕ) → Unbound s ds k j → entry (module_referents s 0 [] ds) k ≡ some (some (global j))
  unbound_row j b =
      let w = b.term in
      let o = (binder_none w.place (name_of w) w.whole w.here w.stands).1 b.free in
      let h = subst (Gives (name_of w) w.first w.place w.whole (lookup (name_of w) (locals_there w))) o (gives w) in
      ref_row w b.is_ref
      ∙ ap (λ (y : Option Found). some (some (refers y (find (name_of w) (globals_there w))))) h
      ∙ ap (λ (y : Option ℕ). some (some (refers none y))) b.earlier

  -- In a module that is loaded a reference is known.
  pub unknown_never : first_refused s [] ds ≡ none → entry (module_referents s 0 [] ds) k ≡ some (some unknown) → ⊥
  unknown_never = never_unknown s ds k
