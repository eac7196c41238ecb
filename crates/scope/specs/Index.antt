-- Ours: an index from the names of declarations to their places, a search tree under each head. A name's mark chooses a head; a head and a link hold a
-- place, as one more than itself, and 0 is none; from a place whose name is another one the walk goes on by one of its two links, which the next bit
-- chooses: of the number mixed from the name looked for, and then of that name.
-- Only contracts of functions that `elaborate` calls on its way cite this.
use Rattle.std.specs.Prelude.{ℕ, ◌+◌, ◌-◌, ◌*◌, ◌/◌, ◌%◌, ◌^◌, ◌<◌, ◌≤◌, ◌≡◌, List, [], ◌∷◌, cond, ltb, length, get_or, set}
use Rattle.std.proofs.Math.Option.{none, some}
use Rattle.terms.specs.Label.{Name, part}
use Rattle.terms.specs.Resolution.{find}
use Rattle.scope.specs.Scope.{declared_names}
use Rattle.scope.specs.declared.Slot.{Slot}

-- How many heads there are, and for how many places there are two links each.
abbrev pub heads : ℕ
heads = 4096

abbrev pub places : ℕ
places = 4096

abbrev pub all_slots : ℕ
all_slots = heads + 2 * places

-- A name's bytes mixed into a number of 32 bits.
unfoldable pub mixed : ℕ → Name → ℕ
mixed m [] = m
mixed m (b ∷ x) = mixed ((m + b) * 374761393 % 4294967296) x

-- The mark of a name, one for each head: names of one mark may differ.
unfoldable pub mark_of : Name → ℕ
mark_of x = mixed 0 x / 1048576

-- Bit i of a name, counted from the lowest of its last byte towards its first, and 0 then: names that differ do so in a bit.
unfoldable pub name_bit : Name → ℕ → ℕ
name_bit x i = cond (ltb (i / 8) (length x)) (get_or x (length x - 1 - i / 8) 0 / 2 ^ (i % 8) % 2) 0

-- Bit i of the walk for a name: the 20 of its number that chose no head, and then those of the name.
unfoldable pub bit_of : Name → ℕ → ℕ
bit_of x i = cond (ltb i 20) (mixed 0 x / 2 ^ i % 2) (name_bit x (i - 20))

-- The slot of the link of place k for the bit b, behind the heads.
abbrev pub link_of : ℕ → ℕ → ℕ
link_of k b = heads + 2 * k + b

-- The walk for the name x that is at a slot, with i bits behind it, comes to place k.
pub data Way (index : List ℕ) (x : Name) (k : ℕ) : ℕ → ℕ → Type 0 where
  here : {i slot : ℕ} → get_or index slot 0 ≡ k + 1 → Way index x k i slot
  further : {i slot : ℕ} (j : ℕ) → get_or index slot 0 ≡ j + 1 → Way index x k (i + 1) (link_of j (bit_of x i)) → Way index x k i slot

-- The name in the declaration record at place k.
abbrev pub name_at : List ℕ → List ℕ → ℕ → Name
name_at s declarations k = part s (get_or declarations (k * 5 + 1) 0) (get_or declarations (k * 5 + 2) 0)

module _ (s declarations : List ℕ) where
  -- The first d declarations, of which no two have one name. From a place the links go to later ones.
  pub record Entered (d : ℕ) (index : List ℕ) : Type 0 where
    pub found : (k : ℕ) → k < d → Way index (name_at s declarations k) k 0 (mark_of (name_at s declarations k))
    pub few : (slot : ℕ) → get_or index slot 0 ≤ d
    pub rising : (slot : ℕ) → 0 < get_or index slot 0 → slot + 2 < heads + 2 * get_or index slot 0
    pub distinct : (j k : ℕ) → j < k → k < d → name_at s declarations k ≡ name_at s declarations j → ⊥

  -- The first d declarations are there, and in the index. Of more than it has links for, and of few, the index says nothing.
  pub record Indexed (d : ℕ) (index : List ℕ) : Type 0 where
    pub listed : d * 5 ≤ length declarations
    pub entered : length index ≡ all_slots → d ≤ places → Entered d index

  -- The walk for the name x ends at an empty slot: what is put there is found.
  pub record Open (x : Name) (d : ℕ) (index : List ℕ) (slot : ℕ) : Type 0 where
    pub free : get_or index slot 0 ≡ 0
    pub low : slot < heads + 2 * d
    pub opens : (k : ℕ) → Way (set index slot (k + 1)) x k 0 (mark_of x)

  -- What a search for the name x among the first d declarations answers: the first place, or the slot for it.
  abbrev pub Searched : Name → ℕ → List ℕ → Slot → Type 0
  Searched x d index (Slot.Held k) = some k ≡ find x (declared_names s declarations 0 d)
  Searched x d index (Slot.Free slot) =
      (none ≡ find x (declared_names s declarations 0 d)) × (length index ≡ all_slots → d ≤ places → Open x d index slot)
