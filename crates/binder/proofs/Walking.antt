-- The way down to a row comes to the place that has it, and the local binders there are those around the place.
use Prim.Native.Nat.{ℕ, zero, suc, ◌+◌, ◌*◌, ◌≤◌, ◌<◌}
use mathlib.Core.Path.{◌≡◌, refl, sym, ◌∙◌, ap, ap₂, subst}
use mathlib.Core.List.{List, [], ◌∷◌, ◌++◌, append_assoc}
use mathlib.Core.Option.{Option, some}
use mathlib.Core.Bool.{Bool, true, false, cond}
use native.Mathlib.Omega.{arith}
use native.Mathlib.Decide.{dec_le, ℕ_discrete}
use borrow.Author.Tests.{eq-eqb, ne_eqb, le-leb, lt-leb}
use lib.Dec.{leb}
use lib.ListN.{length, get_or}
use lib.Seq.{get_or-append-add}
use Rattle.terms.specs.Forms.{arity_of, holds_span}
use Rattle.terms.specs.Tree.{Forest, nil, node, Tree, tree, then, maybe, Place, pick, at, count, next, roots, relabel_tree}
use Rattle.terms.specs.Label.{Name, Label, Term, part, named}
use Rattle.terms.specs.Resolution.{covers, bound_name}
use Rattle.terms.specs.Rows.{span}
use Rattle.terms.specs.RowAt.{tree_row, row_at}
use Rattle.terms.specs.Lookup.{Local, local_of}
use Rattle.terms.proofs.Names.{none_some, some_inj}
use Rattle.terms.proofs.Cells.{next_relabel, length_roots}
use Rattle.terms.proofs.Relabelled.{pick_relabel, tree_row_relabel}
use Rattle.binding.proofs.Located.{own, located}
use Rattle.rows.proofs.Arities.{arity_at_most_six}
use Rattle.elaborate.specs.RowTerm.{row_word, label_at}
use Rattle.elaborate.specs.Loadable.{Shaped, Nested}
use Rattle.elaborate.proofs.Alike.{Alike, same_name}
use Rattle.elaborate.proofs.RowWords.{arity_behind_span, word, row_alike, row_kind}
use Rattle.elaborate.proofs.TreeRows.{Holds}
use Rattle.binder.proofs.First.{first_is}
use Rattle.binder.specs.inner.Walk.{first_from, behind_span, child_at, argument_with, entered, walk}

-- The tree of a list that has row k among its rows.
pub record Chosen {A : Type 0} (n : ℕ) (f : Forest A) (k : ℕ) : Type 0 where
  pub number : ℕ
  pub tree : Tree A
  pub picked : pick f number ≡ some tree
  pub low : tree_row n f number ≤ k
  pub high : k ≤ next (tree_row n f number) tree.args
  pub root : get_or (roots n f) number 0 ≡ next (tree_row n f number) tree.args
  pub before : (m : ℕ) → m < number → get_or (roots n f) m 0 < k
  pub inside : number < count f

pub chosen : {A : Type 0} (f : Forest A) (n k : ℕ) → n ≤ k → k < next n f → Chosen n f k
chosen nil n k a b = absurd (omega arith)
chosen (node l x r) n k a b = elim (dec_le k (next n x)) [
  | yes e ↦ record { number = zero; tree = record { label = l; args = x }; picked = refl; low = a; high = e; root = refl; before = λ m h. absurd (omega arith); inside = omega arith }
  | no e ↦ behind (chosen r (suc (next n x)) k (omega arith) b) (omega arith)
]
  where
    first : (w : Chosen (suc (next n x)) r k) → next n x < k → (m : ℕ) → m < suc w.number → get_or (roots n (node l x r)) m 0 < k
    first w q zero h = q
    first w q (suc j) h = w.before j (omega arith)

    behind : Chosen (suc (next n x)) r k → next n x < k → Chosen n (node l x r) k
    behind w q = record {
      number = suc w.number;
      tree = w.tree;
      picked = w.picked;
      low = w.low;
      high = w.high;
      root = w.root;
      before = first w q;
      inside = omega (arith, w.inside);
    }

-- What holds of a list of trees holds of each of them.
pub record Stored (t : List ℕ) (rows left n : ℕ) (v : Tree Label) : Type 0 where
  pub holds : Holds t rows n (tree v nil)
  pub shaped : Shaped (tree v nil)
  pub nested : Nested left (tree v nil)

alone : (left : ℕ) (l : Label) (a r : Forest Label) → Nested left (node l a r) → Nested left (node l a nil)
alone left l nil r h = tt
alone zero l (node m b c) r h = h
alone (suc left) l (node m b c) r h = (h.0, tt)

others : (left : ℕ) (l : Label) (a r : Forest Label) → Nested left (node l a r) → Nested left r
others left l nil r h = h
others zero l (node m b c) r h = absurd h
others (suc left) l (node m b c) r h = h.1

pub stored : (t : List ℕ) (rows left : ℕ) (f : Forest Label) (n i : ℕ) (v : Tree Label) → pick f i ≡ some v → Holds t rows n f → Shaped f → Nested left f → Stored t rows left (tree_row n f i) v
stored t rows left nil n i v e h g k = none_some e
stored t rows left (node l a r) n zero v e h g k =
    subst (Stored t rows left n) (some_inj e) (record { holds = (h.0, h.1, h.2, tt); shaped = (g.0, g.1, tt); nested = alone left l a r k })
stored t rows left (node l a r) n (suc i) v e h g k = stored t rows left r (suc (next n a)) i v e h.3 g.2 (others left l a r k)

module _ (s t : List ℕ) (rows k : ℕ) where
  -- A row of the table, by the tree that it is the row of.
  module _ (left n : ℕ) (v : Tree Label) (h : Stored t rows left n v) where
    abbrev id : ℕ
    id = next n v.args

    abbrev kind : ℕ
    kind = v.label.kind

    many : length (roots n v.args) ≡ arity_of kind
    many = length_roots n v.args ∙ h.shaped.0

    its_kind : (label_at t id).kind ≡ kind
    its_kind = row_kind t id v.label (roots n v.args) h.holds.1 many

    alike : Alike (label_at t id) v.label
    alike = row_alike t id v.label (roots n v.args) h.holds.1 many

    child : (j : ℕ) → j < count v.args → child_at t k id j ≡ get_or (roots n v.args) j 0
    child j less =
        ap (λ (x : ℕ). get_or t (id * 8 + behind_span x + j) 0) its_kind
        ∙ ap (λ (x : ℕ). get_or t x 0) (let z : id * 8 + behind_span kind + j ≡ id * 8 + (behind_span kind + j) = omega arith in z)
        ∙ go (holds_span kind) refl
      where
        many_words : j < 6
        many_words = omega (arith, h.shaped.0, arity_at_most_six kind)

        w : (b : Bool) → holds_span kind ≡ b → (i : ℕ) → i < 6 → row_word t id (suc i) ≡ get_or (cond b (span v.label) [] ++ roots n v.args) i 0
        w = word t id v.label (roots n v.args) h.holds.1 many

        go : (b : Bool) → holds_span kind ≡ b → row_word t id (cond b 3 1 + j) ≡ get_or (roots n v.args) j 0
        go true q =
            ap (row_word t id) (let z : 3 + j ≡ suc (2 + j) = omega arith in z)
            ∙ w true q (2 + j) (omega (arith, h.shaped.0, arity_behind_span kind q))
            ∙ get_or-append-add (span v.label) (roots n v.args) j 0
        go false q = ap (row_word t id) (let z : 1 + j ≡ suc j = omega arith in z) ∙ w false q j many_words

    -- The argument that has row k among its rows.
    module _ (low : n ≤ k) (below : k < id) where
      abbrev c : Chosen n v.args k
      c = chosen v.args n k low below

      goes_into : argument_with t k id ≡ c.number
      goes_into =
          ap (λ (x : ℕ). first_from (λ i. leb k (child_at t k id i)) x 0) (ap arity_of its_kind ∙ sym h.shaped.0)
          ∙ first_is (λ i. leb k (child_at t k id i)) (count v.args) 0 c.number (omega arith) (omega (arith, c.inside))
          (le-leb k _ (omega (arith, child c.number c.inside, c.root, c.high)))
          (λ m x y. lt-leb k _ (omega (arith, child m (omega (arith, c.inside)), c.before m y)))

      goes_to : child_at t k id (argument_with t k id) ≡ next (tree_row n v.args c.number) c.tree.args
      goes_to = ap (child_at t k id) goes_into ∙ child c.number c.inside ∙ c.root

      enters : (l : List Local) → entered t k s id l ≡ own (named s v.label) id c.number ++ l
      enters l =
          ap₂ (λ (x i : ℕ). cond (covers x i) (local_of (bound_name x (part s (row_word t id 1) (row_word t id 2))) id ∷ l) l) its_kind goes_into
          ∙ go (covers kind c.number) refl
        where
          go : (b : Bool) → covers kind c.number ≡ b
              → cond b (local_of (bound_name kind (part s (row_word t id 1) (row_word t id 2))) id ∷ l) l
              ≡ cond b (local_of (bound_name kind (part s v.label.start v.label.length)) id ∷ []) [] ++ l
          go true q = ap (λ (o : Option Name). local_of o id ∷ l) (same_name s (label_at t id) v.label alike c.number q)
          go false q = refl

  -- The place that is come to.
  pub record Reached (left n : ℕ) (v : Tree Label) (l : List Local) : Type 0 where
    pub place : Place
    pub here : Tree Label
    pub stands : at place (relabel_tree (named s) v) ≡ some (relabel_tree (named s) here)
    pub row : row_at n place (relabel_tree (named s) v) ≡ some k
    pub read : Alike (label_at t k) here.label
    pub locals : walk t k s left (next n v.args) l ≡ located n place (relabel_tree (named s) v) ++ l

  at_end : (left n : ℕ) (v : Tree Label) (l : List Local) → Stored t rows left n v → next n v.args ≡ k → walk t k s left (next n v.args) l ≡ l → Reached left n v l
  at_end left n v l h e w = record {
    place = [];
    here = v;
    stands = refl;
    row = ap {B = Option ℕ} some (next_relabel (named s) n v.args ∙ e);
    read = subst (λ (x : ℕ). Alike (label_at t x) v.label) e (alike left n v h);
    locals = w;
  }

  -- One step, and the way from there.
  further : (left n : ℕ) (v : Tree Label) (l : List Local) (h : Stored t rows (suc left) n v) (low : n ≤ k) (below : k < next n v.args)
      → let c = chosen v.args n k low below in Reached left (tree_row n v.args c.number) c.tree (own (named s v.label) (next n v.args) c.number ++ l) → Reached (suc left) n v l
  unfolding walk
  further left n v l h low below w =
      let c = chosen v.args n k low below in
      let i = c.number in
      let id = next n v.args in
      let m = tree_row n v.args i in
      let f = named s in
      let u = relabel_tree f c.tree in
      let e : pick (relabel_tree f v).args i ≡ some u = pick_relabel f v.args i c.tree c.picked in
      let r : tree_row n (relabel_tree f v).args i ≡ m = tree_row_relabel f n v.args i in
      let own-part = own (f v.label) id i in
      record {
        place = i ∷ w.place;
        here = w.here;
        stands = ap (λ (o : Option Term). then o (at w.place)) e ∙ w.stands;
        row = ap₂ (λ (o : Option Term) (x : ℕ). then o (row_at x w.place)) e r ∙ w.row;
        read = w.read;
        locals =
            ap (λ (b : Bool). elim b as (λ _. List Local) [ true ↦ l | false ↦ walk t k s left (child_at t k id (argument_with t k id)) (entered t k s id l) ]) (ne_eqb id k (λ x. let z : id ≡ k = x in absurd (omega arith)))
            ∙ ap₂ (walk t k s left) (goes_to (suc left) n v h low below) (enters (suc left) n v h low below l)
            ∙ w.locals
            ∙ sym (append_assoc (located m w.place u) own-part l)
            ∙ ap (λ (x : List Local). x ++ l)
            (sym (ap₂ (λ (o : Option Term) (x : ℕ). maybe o [] (λ y. located x w.place y ++ own (f v.label) (next n (relabel_tree f v).args) i)) e r
            ∙ ap (λ (x : ℕ). located m w.place u ++ own (f v.label) x i) (next_relabel f n v.args)));
      }

  -- A form's arguments have one form less to open.
  inner : (left n : ℕ) (v : Tree Label) (h : Stored t rows (suc left) n v) (i : ℕ) (u : Tree Label) → pick v.args i ≡ some u → Stored t rows left (tree_row n v.args i) u
  inner left n v h i u e = stored t rows left v.args n i u e h.holds.0 h.shaped.1 (go v.args h.nested e)
    where
      go : (a : Forest Label) → Nested (suc left) (node v.label a nil) → pick a i ≡ some u → Nested left a
      go nil x y = none_some y
      go (node m b c) x y = x.0

  -- A leaf has no row but its own.
  no_room : (n : ℕ) (v : Tree Label) → Stored t rows zero n v → n ≤ k → k < next n v.args → ⊥
  no_room n v h low below = go v.args h.nested below
    where
      go : (a : Forest Label) → Nested zero (node v.label a nil) → k < next n a → ⊥
      go nil x y = omega arith
      go (node m b c) x y = x

  pub walks : (left n : ℕ) (v : Tree Label) (l : List Local) → Stored t rows left n v → n ≤ k → k ≤ next n v.args → Reached left n v l
  unfolding walk
  walks zero n v l h low high = elim (ℕ_discrete (next n v.args) k) [
    | yes e ↦ at_end zero n v l h e refl
    | no e ↦ absurd (no_room n v h low (omega arith))
  ]
  walks (suc left) n v l h low high = elim (ℕ_discrete (next n v.args) k) [
    | yes e ↦ at_end (suc left) n v l h e (ap (λ (b : Bool). elim b as (λ _. List Local) [ true ↦ l | false ↦ walk t k s left (child_at t k (next n v.args) (argument_with t k (next n v.args))) (entered t k s (next n v.args) l) ]) (eq-eqb (next n v.args) k e))
    | no e ↦
        let below : k < next n v.args = omega arith in
        let c = chosen v.args n k low below in
        further left n v l h low below (walks left (tree_row n v.args c.number) c.tree _ (inner left n v h c.number c.tree c.picked) c.low c.high)
  ]
