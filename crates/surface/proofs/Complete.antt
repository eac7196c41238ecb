-- Terms that the grammar derives are read, where there is room.
use mathlib.Core.Path.{◌≡◌, refl, sym, ap, ◌∙◌, subst}
use mathlib.Core.List.{List, ◌∷◌}
use Prim.Native.Nat.{ℕ, zero, suc, ◌≤◌, ◌<◌}
use native.Mathlib.Omega.{arith}
use lib.Dec.{ltb}
use borrow.Author.Tests.{ltb-true, lt-ltb}
use Rattle.token.specs.declared.Token.{Token}
use Rattle.terms.specs.Forms.{Shape, binding, plain, Form, Edition}
use Rattle.terms.specs.Tree.{Forest, nil, node, Tree, next, count}
use Rattle.terms.specs.Label.{Label}
use Rattle.terms.proofs.Cells.{next_cells}
use Rattle.surface.specs.Text.{label_with, label_alone}
use Rattle.surface.specs.Grammar.{Tokens, Closes, Tag, Terms, no_term, leaf_term, ref_term, universe_term, binding_term, plain_term}
use Rattle.surface.specs.Reader.{Position, done}
use Rattle.surface.specs.Reading.{leaf, frame, store, finish, several, term, closing, beginning}
use Rattle.surface.proofs.Frames.{Within, within_rest}
use Rattle.surface.proofs.Editions.{CountedEdition, counts}
use Rattle.surface.proofs.Shaped.{tag_counts, terms_count}
use Rattle.surface.proofs.Takes.{after_go, require_go, to, first_token, other_tokens, closing_takes, begins_leaf, begins_ref, begins_universe, begins_binding, begins_plain}

grows : (n : ℕ) (f : Forest Label) → n ≤ next n f
grows n f = omega (arith, next_cells n f)

module _ (E : Edition) (s : List ℕ) (counted : CountedEdition E) (limit : ℕ) where
  -- From p on n terms are read, which are f, where l frames may be open; us follows them.
  pub record Goes (l : ℕ) (p : Position) (n : ℕ) (f : Forest Label) (us : List Token) : Type 0 where
    pub position : Position
    pub reads : several (beginning E s) (closing (E.tokens s)) limit (term (beginning E s) (closing (E.tokens s)) limit l) n p ≡ done f position
    pub left : Tokens (E.tokens s) position.offset us
    pub rows : position.rows ≡ next p.rows f

  abbrev stored : Position → Position
  stored p = record { offset = p.offset; rows = suc p.rows }

  store_goes : (t : Tree Label) (p : Position) → p.rows < limit → store (beginning E s) (closing (E.tokens s)) limit t p ≡ done t (stored p)
  unfolding store
  store_goes t p h = require_go (ltb p.rows limit) _ p _ _ (lt-ltb p.rows limit h) refl

  leaf_goes : (l : ℕ) (p q : Position) (m : Label) → beginning E s p ≡ done (leaf m) q → q.rows < limit
      → term (beginning E s) (closing (E.tokens s)) limit l p ≡ done (record { label = m; args = nil }) (stored q)
  unfolding term finish
  leaf_goes zero p q m e h = after_go _ _ (leaf m) q _ e (store_goes _ q h)
  leaf_goes (suc l) p q m e h = after_go _ _ (leaf m) q _ e (store_goes _ q h)

  frame_goes : (l : ℕ) (p q : Position) (m : Label) (k : ℕ) (a : Forest Label) (c : Token) (us : List Token) → beginning E s p ≡ done (frame m k) q → (g : Goes l q k a (c ∷ us)) → Closes c → next q.rows a < limit
      → term (beginning E s) (closing (E.tokens s)) limit (suc l) p ≡ done (record { label = m; args = a }) (stored (to g.position c))
  unfolding term finish
  frame_goes l p q m k a c us e g d h =
      after_go _ _ (frame m k) q _ e
      (after_go _ _ a g.position _ g.reads
      (after_go _ _ c (to g.position c) _ (closing_takes (E.tokens s) g.position c (first_token g.left) d)
      (store_goes _ (to g.position c) (omega (arith, g.rows)))))

  node_goes : (l : ℕ) (p q : Position) (n : ℕ) (m : Label) (a r : Forest Label) (us : List Token) → term (beginning E s) (closing (E.tokens s)) limit l p ≡ done (record { label = m; args = a }) q
      → q.rows ≡ suc (next p.rows a) → Goes l q n r us → Goes l p (suc n) (node m a r) us
  unfolding several
  node_goes l p q n m a r us e h g = record {
    position = g.position;
    reads = after_go _ _ (record { label = m; args = a }) q _ e (after_go _ _ r g.position _ g.reads refl);
    left = g.left;
    rows = g.rows ∙ ap (λ (x : ℕ). next x r) h;
  }

  -- A leaf, and what follows it.
  leaf_node : (l : ℕ) (p q : Position) (n : ℕ) (m : Label) (r : Forest Label) (us : List Token) → beginning E s p ≡ done (leaf m) q → q.rows ≡ p.rows → next (suc p.rows) r ≤ limit
      → Goes l (stored q) n r us → Goes l p (suc n) (node m nil r) us
  leaf_node l p q n m r us e k h g = node_goes l p (stored q) n m nil r us (leaf_goes l p q m e (omega (arith, grows (suc p.rows) r))) (ap suc k) g

  -- A form with arguments, and what follows it.
  frame_node : (l : ℕ) (p q : Position) (n : ℕ) (m : Label) (k : ℕ) (a r : Forest Label) (c : Token) (us vs : List Token) → beginning E s p ≡ done (frame m k) q → q.rows ≡ p.rows → ¬ (a ≡ nil)
      → Within l (node m a r) → Closes c → next (suc (next p.rows a)) r ≤ limit
      → ((i : ℕ) → Within i a → next q.rows a ≤ limit → Goes i q k a (c ∷ us))
      → ((x : Position) → Tokens (E.tokens s) x.offset us → x.rows ≡ suc (next p.rows a) → Goes l x n r vs)
      → Goes l p (suc n) (node m a r) vs
  frame_node zero p q n m k a r c us vs e b z w d h f g = absurd (z w.0)
  frame_node (suc l) p q n m k a r c us vs e b z w d h f g =
      let j : next q.rows a ≡ next p.rows a = ap (λ (x : ℕ). next x a) b in
      let y = f l w.0 (omega (arith, grows (suc (next p.rows a)) r)) in
      let i : y.position.rows ≡ next p.rows a = y.rows ∙ j in
      node_goes (suc l) p (stored (to y.position c)) n m a r vs
      (frame_goes l p q m k a c us e y d (omega (arith, grows (suc (next p.rows a)) r)))
      (ap suc i)
      (g (stored (to y.position c)) (other_tokens y.left) (ap suc i))

  -- what opens a frame has arguments
  some_arguments : (f : Form) (c : Shape) (t : Token) (a : Forest Label) → Tag E s f c t → counts c f.arity ≡ ltb 0 f.arity → count a ≡ f.arity → ¬ (a ≡ nil)
  some_arguments f c t a g e h z =
      omega (arith, ltb-true 0 f.arity (sym e ∙ tag_counts E s counted f c t g), h, ap count z)

  pub terms_go : {n : ℕ} {ts us : List Token} {f : Forest Label} → Terms E s n ts f us → (l : ℕ) (p : Position) → Tokens (E.tokens s) p.offset ts → Within l f → next p.rows f ≤ limit → Goes l p n f us
  unfolding several
  terms_go no_term l p k w h = record { position = p; reads = refl; left = k; rows = refl }
  terms_go (leaf_term {t = t} {us = us} {n = n} {r = r} {f = f} g d) l p k w h =
      leaf_node l p (to p t) n (label_alone f t.start) r us (begins_leaf E s p t f (first_token k) g) refl h
      (terms_go d l (stored (to p t)) (other_tokens k) (within_rest l (label_alone f t.start) nil r w) h)
  terms_go (ref_term {o = o} {t = t} {x = x} {c = c} {ts = ts} {us = us} {n = n} {r = r} {f = f} a g m b d) l p k w h =
      let q = to (to (to (to p o) t) x) c in
      leaf_node l p q n (label_with f x o.start) r us (begins_ref E s p o t x c ts f k a g m b) refl h
      (terms_go d l (stored q) (other_tokens (other_tokens (other_tokens (other_tokens k)))) (within_rest l (label_with f x o.start) nil r w) h)
  terms_go (universe_term {o = o} {t = t} {x = x} {c = c} {ts = ts} {us = us} {n = n} {r = r} {f = f} a g m b d) l p k w h =
      let q = to (to (to (to p o) t) x) c in
      leaf_node l p q n (label_with f x o.start) r us (begins_universe E s p o t x c ts f k a g m b) refl h
      (terms_go d l (stored q) (other_tokens (other_tokens (other_tokens (other_tokens k)))) (within_rest l (label_with f x o.start) nil r w) h)
  terms_go (binding_term {o = o} {t = t} {x = x} {c = c} {ts = ts} {us = us} {vs = vs} {n = n} {a = a} {r = r} {f = f} e g m b y d) l p k w h =
      let q = to (to (to p o) t) x in
      frame_node l p q n (label_with f x o.start) f.arity a r c us vs (begins_binding E s p o t x ts f k e g m) refl (some_arguments f binding t a g refl (terms_count b)) w y h
      (λ i v j. terms_go b i q (other_tokens (other_tokens (other_tokens k))) v j)
      (λ z u j. terms_go d l z u (within_rest l (label_with f x o.start) a r w) (subst (λ (i : ℕ). next i r ≤ limit) (sym j) h))
  terms_go (plain_term {o = o} {t = t} {c = c} {ts = ts} {us = us} {vs = vs} {n = n} {a = a} {r = r} {f = f} e g b y d) l p k w h =
      let q = to (to p o) t in
      frame_node l p q n (label_alone f o.start) f.arity a r c us vs (begins_plain E s p o t ts f k e g) refl (some_arguments f plain t a g refl (terms_count b)) w y h
      (λ i v j. terms_go b i q (other_tokens (other_tokens k)) v j)
      (λ z u j. terms_go d l z u (within_rest l (label_alone f o.start) a r w) (subst (λ (i : ℕ). next i r ≤ limit) (sym j) h))
