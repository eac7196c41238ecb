-- The index of names: one more byte, the walk from a head along the links, and one more declaration.
use Prim.Native.Nat.{ℕ, zero, suc, ◌+◌, ◌*◌, ◌/◌, ◌%◌, ◌≤◌, ◌<◌}
use mathlib.Core.Path.{◌≡◌, refl, sym, ◌∙◌, ap, subst}
use mathlib.Core.List.{List}
use mathlib.Core.Option.{Option, none, some}
use mathlib.Core.Bool.{Bool, true, false}
use native.Mathlib.Omega.{arith}
use native.Mathlib.Decide.{ℕ_discrete, dec_le}
use lib.ListN.{length, get_or, set, drop, drop_of_length-le, length-set, replicate, length-replicate, get_or-replicate, get_or-eq_default}
use lib.Seq.{get_or-set_same, get_or-set_other}
use Rattle.token.proofs.Runs.{drop_next}
use Rattle.words.specs.Words.{same_bytes}
use Rattle.words.proofs.Names.{eq_same, same_eq, same_ne, ne_same}
use Rattle.terms.specs.Label.{Name}
use Rattle.terms.specs.Resolution.{next_number, find}
use Rattle.scope.specs.Scope.{declared_names}
use Rattle.scope.specs.Index.{heads, places, all_slots, mixed, mark_of, bit_of, link_of, Way, here, further, name_at, Entered, Indexed, Open, Searched}
use Rattle.scope.specs.declared.Slot.{Slot}

module _ (x : Name) (i m : ℕ) where
  pub mixed_more : i < length x → mixed m (drop i x) ≡ mixed ((m + get_or x i 0) * 374761393 % 4294967296) (drop (i + 1) x)
  unfolding mixed
  mixed_more h = ap (mixed m) (drop_next x i h)

  pub mixed_end : length x ≤ i → mixed m (drop i x) ≡ m
  unfolding mixed
  mixed_end h = ap (mixed m) (drop_of_length-le x h)

pub marked : (x : Name) (m : ℕ) → m ≡ mixed 0 x → m / 1048576 ≡ mark_of x
unfolding mark_of
marked x m e = ap (λ (n : ℕ). n / 1048576) e

-- None of d declarations from place k on has the name.
none_named : (x : Name) (s t : List ℕ) (k d : ℕ) → ((j : ℕ) → k ≤ j → j < k + d → x ≡ name_at s t j → ⊥) → none ≡ find x (declared_names s t k d)
unfolding declared_names find
none_named x s t k zero n = refl
none_named x s t k (suc d) n =
    rw (ne_same x (name_at s t k) (n k (omega arith) (omega arith)), find, ← none_named x s t (suc k) d (λ j l h. n j (omega arith) (omega arith)))

-- None of those before place k + j has the name, and that one has it.
first_named : (x : Name) (s t : List ℕ) (j k d : ℕ) → j < d → x ≡ name_at s t (k + j) → ((i : ℕ) → k ≤ i → i < k + j → x ≡ name_at s t i → ⊥)
    → some j ≡ find x (declared_names s t k d)
unfolding declared_names find
first_named x s t zero k zero h e n = absurd (omega arith)
first_named x s t (suc j) k zero h e n = absurd (omega arith)
first_named x s t zero k (suc d) h e n = rw (eq_same x (name_at s t k) (e ∙ ap (name_at s t) (let q : k + 0 ≡ k = omega arith in q)), find)
first_named x s t (suc j) k (suc d) h e n =
    rw (ne_same x (name_at s t k) (n k (omega arith) (omega arith)), find, ← first_named x s t j (suc k) d (omega arith) (e ∙ ap (name_at s t) (let q : k + suc j ≡ suc k + j = omega arith in q)) (λ i l o. n i (omega arith) (omega arith)))

next_none : (o : Option ℕ) → next_number o ≡ none → o ≡ none
next_none none e = refl
next_none (some i) e = absurd (let z : ◌≡◌ {A = ℕ} 0 1 = cc in omega arith)

-- A name that is not found is none of theirs.
not_found : (x : Name) (s t : List ℕ) (d k : ℕ) → find x (declared_names s t k d) ≡ none → (j : ℕ) → k ≤ j → j < k + d → x ≡ name_at s t j → ⊥
unfolding declared_names find
not_found x s t zero k n j l h e = omega arith
not_found x s t (suc d) k n j l h e = by_test (same_bytes x (name_at s t k)) refl (λ m. not_found x s t d (suc k) m j)
  where
    by_test : (b : Bool) → same_bytes x (name_at s t k) ≡ b
        → (find x (declared_names s t (suc k) d) ≡ none → suc k ≤ j → j < suc k + d → x ≡ name_at s t j → ⊥) → ⊥
    by_test true q f = let z : ◌≡◌ {A = Option ℕ} (some 0) none = rw (find, q) at n in let y : ◌≡◌ {A = ℕ} 0 1 = cc in omega arith
    by_test false q f =
        elim (ℕ_discrete j k) [
          | yes p ↦ same_ne x (name_at s t k) q (e ∙ ap (name_at s t) p)
          | no p ↦ f (next_none (find x (declared_names s t (suc k) d)) (rw (find, q) at n)) (omega arith) (omega arith) e
        ]

-- Where an empty slot is filled, each walk goes as it went: none passes through it.
filled : (index : List ℕ) (slot v : ℕ) → get_or index slot 0 ≡ 0 → (at n : ℕ) → get_or index at 0 ≡ n + 1 → get_or (set index slot v) at 0 ≡ n + 1
filled index slot v z at n e = get_or-set_other index slot at v 0 (λ q. let r : get_or index at 0 ≡ 0 = ap (λ (i : ℕ). get_or index i 0) q ∙ z in omega arith) ∙ e

way_filled : {index : List ℕ} {x : Name} {k i at : ℕ} (slot v : ℕ) → get_or index slot 0 ≡ 0 → Way index x k i at → Way (set index slot v) x k i at
way_filled {index} {x} {k} {i} {at} slot v z (here e) = here (filled index slot v z at k e)
way_filled {index} {x} {k} {i} {at} slot v z (further j e w) = further j (filled index slot v z at j e) (way_filled slot v z w)

-- No walk goes on from an empty slot.
no_way : {index : List ℕ} {x : Name} {k i slot : ℕ} → get_or index slot 0 ≡ 0 → Way index x k i slot → ⊥
no_way z (here e) = omega arith
no_way z (further j e w) = omega arith

-- From a slot that holds place j the walk to another place goes on by a link of j.
way_on : {index : List ℕ} {x : Name} {k i slot : ℕ} (j : ℕ) → get_or index slot 0 ≡ j + 1 → (k ≡ j → ⊥) → Way index x k i slot → Way index x k (i + 1) (link_of j (bit_of x i))
way_on j q n (here e) = absurd (n (omega arith))
way_on {index} {x} {k} {i} j q n (further m e w) = subst (λ (y : ℕ). Way index x k (i + 1) (link_of y (bit_of x i))) (let z : m ≡ j = omega arith in z) w

-- A table that is all 0.
pub blank : (n i : ℕ) → ◌≡◌ {A = ℕ} (get_or (replicate n 0) i 0) 0
blank n i = elim (dec_le n i) [
  | yes h ↦ get_or-eq_default (replicate n 0) 0 (omega (arith, length-replicate {A = ℕ} n 0))
  | no h ↦ get_or-replicate n i 0 0 (omega arith)
]

module _ (s t : List ℕ) where
  pub indexed_none : (index : List ℕ) → ((i : ℕ) → get_or index i 0 ≡ 0) → Indexed s t 0 index
  indexed_none index z = record {
    listed = omega arith;
    entered = λ r h. record {
      found = λ k l. absurd (omega arith);
      few = λ i. omega (arith, z i);
      rising = λ i o. absurd (omega (arith, z i));
      distinct = λ j k l o. absurd (omega arith);
    };
  }

  -- The walk for x is at a slot, with i bits behind it: a declaration of that name lies ahead, and what is put into an empty slot ahead is found.
  pub record Walked (x : Name) (d : ℕ) (index : List ℕ) (i slot : ℕ) : Type 0 where
    pub ahead : (k : ℕ) → k < d → x ≡ name_at s t k → Way index x k i slot
    pub behind : (at k : ℕ) → get_or index at 0 ≡ 0 → Way (set index at (k + 1)) x k i slot → Way (set index at (k + 1)) x k 0 (mark_of x)

  module _ (x : Name) (d : ℕ) (index : List ℕ) (p : Entered s t d index) where
    pub walk_begins : Walked x d index 0 (mark_of x)
    walk_begins = record {
      ahead = λ k l e. subst (λ (y : Name). Way index y k 0 (mark_of y)) (sym e) (p.found k l);
      behind = λ at k z w. w;
    }

    module _ (i slot : ℕ) (w : Walked x d index i slot) where
      pub walk_ends : length index ≡ all_slots → d ≤ places → slot < heads + 2 * d → get_or index slot 0 ≡ 0 → Searched s t x d index (Slot.Free slot)
      walk_ends r h l z = (
        none_named x s t 0 d (λ j a o e. no_way z (w.ahead j (omega arith) e)),
        λ r h. record { free = z; low = l; opens = λ k. w.behind slot k z (here (get_or-set_same index slot (k + 1) 0 (omega arith))) },
      )

      module _ (k : ℕ) (e : get_or index slot 0 ≡ k + 1) where
        pub walk_goes_on : same_bytes x (name_at s t k) ≡ false → Walked x d index (i + 1) (link_of k (bit_of x i))
        walk_goes_on q = record {
          ahead = λ j l n. way_on k e (λ z. same_ne x (name_at s t k) q (n ∙ ap (name_at s t) z)) (w.ahead j l n);
          behind = λ at j z v. w.behind at j z (further k (filled index at (j + 1) z slot k e) v);
        }

        pub walk_hits : same_bytes x (name_at s t k) ≡ true → some k ≡ find x (declared_names s t 0 d)
        walk_hits q =
            let y : x ≡ name_at s t k = same_eq x (name_at s t k) q in
            let l : k < d = omega (arith, p.few slot) in
            first_named x s t k 0 d l (y ∙ ap (name_at s t) (let z : k ≡ 0 + k = omega arith in z))
            (λ i a o r. p.distinct i k (omega arith) l (sym y ∙ r))

  module _ (d : ℕ) (index : List ℕ) (p : Indexed s t d index) (l : d * 5 + 5 ≤ length t) (slot : ℕ) (q : Searched s t (name_at s t d) d index (Slot.Free slot)) where
    abbrev more : List ℕ
    more = set index slot (d + 1)

    module _ (r : length index ≡ all_slots) (h : d < places) where
      e : Entered s t d index
      e = p.entered r (omega arith)

      o : Open s t (name_at s t d) d index slot
      o = q.1 r (omega arith)

      word : (i : ℕ) → (i ≡ slot → get_or more i 0 ≡ d + 1) × ((i ≡ slot → ⊥) → get_or more i 0 ≡ get_or index i 0)
      word i = (
        λ z. ap (λ (j : ℕ). get_or more j 0) z ∙ get_or-set_same index slot (d + 1) 0 (omega (arith, o.low)),
        λ n. get_or-set_other index slot i (d + 1) 0 n,
      )

      entered_more : Entered s t (d + 1) more
      entered_more = record {
        found = λ k b. elim (ℕ_discrete k d) [
          | yes z ↦ subst (λ (j : ℕ). Way more (name_at s t j) j 0 (mark_of (name_at s t j))) (sym z) (o.opens d)
          | no z ↦ way_filled slot (d + 1) o.free (e.found k (omega arith))
        ];
        few = λ i. elim (ℕ_discrete i slot) [
          | yes z ↦ omega (arith, (word i).0 z)
          | no z ↦ omega (arith, (word i).1 z, e.few i)
        ];
        rising = λ i b. elim (ℕ_discrete i slot) [
          | yes z ↦ omega (arith, (word i).0 z, o.low)
          | no z ↦ omega (arith, (word i).1 z, e.rising i (omega (arith, (word i).1 z)))
        ];
        distinct = λ j k b c f. elim (ℕ_discrete k d) [
          | yes z ↦ not_found (name_at s t d) s t d 0 (sym q.0) j (omega arith) (omega arith) (ap (name_at s t) (sym z) ∙ f)
          | no z ↦ e.distinct j k b (omega arith) f
        ];
      }

    pub indexed_more : d < places → Indexed s t (d + 1) more
    indexed_more h = record { listed = omega arith; entered = λ r b. entered_more (sym (length-set index slot (d + 1)) ∙ r) h }
