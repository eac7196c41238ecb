-- A token of a core text stands at or behind the offset that it was asked at, within the text; the end token's offset is the text's length.
use Prim.Native.Nat.{ℕ, ◌+◌, ◌-◌, ◌≤◌, ◌<◌}
use mathlib.Core.Path.{◌≡◌}
use mathlib.Core.Bool.{◌||◌}
use mathlib.Core.List.{List, [], ◌∷◌}
use native.Mathlib.Omega.{arith}
use lib.Dec.{leb, eqb}
use lib.ListN.{length, drop, length-drop}
use Rattle.token.proofs.Bounds.{Span, Within}
use Rattle.core_token.specs.CoreToken.{core_class, string_class, core_atom_from, Open, nothing, backslash, lead, string_from, core_token_from, next_core_token}
use Rattle.core_token.proofs.Outcomes.{atom_by, string_by, cond_by, test_by, here_by}

module _ (lo hi start : ℕ) (h : lo ≤ start) where
  atom_span : (l : List ℕ) (at : ℕ) → start < at → at + length l ≡ hi → Within lo hi (core_atom_from start at l)
  unfolding core_atom_from
  atom_span [] at p q = record { low = h; some = p; high = omega arith }
  atom_span (b ∷ l) at p q =
      atom_by (Within lo hi) (core_class b) start at _ (record { low = h; some = p; high = omega arith }) tt (atom_span l (at + 1) (omega arith) (omega arith))

  string_span : (l : List ℕ) (o : Open) (at : ℕ) → start < at → at + length l ≡ hi → Within lo hi (string_from start o at l)
  unfolding string_from
  string_span [] nothing at p q = tt
  string_span [] (backslash e) at p q = tt
  string_span [] (lead e) at p q = tt
  string_span (b ∷ l) nothing at p q =
      let on : (o : Open) → Within lo hi (string_from start o (at + 1) l) = λ o. string_span l o (at + 1) (omega arith) (omega arith) in
      string_by (Within lo hi) (string_class b) at _ _ _ _
      (λ _. cond_by (Within lo hi) (eqb at (start + 1)) _ _ tt (λ _. record { low = h; some = omega arith; high = omega arith }))
      (on (backslash at)) tt (on (lead at)) (on nothing)
  string_span (b ∷ l) (backslash e) at p q = test_by (Within lo hi) (eqb b 34 || eqb b 92) _ _ (string_span l nothing (at + 1) (omega arith) (omega arith)) tt
  string_span (b ∷ l) (lead e) at p q = test_by (Within lo hi) (leb b 0x9F) _ _ tt (string_span l nothing (at + 1) (omega arith) (omega arith))

-- The list stands at an offset, and ends at hi unless it is empty.
pub token_span : (l : List ℕ) (lo at hi : ℕ) → lo ≤ at → (lo ≤ hi → at ≤ hi) → length l ≡ hi - at → Within lo hi (core_token_from at l)
unfolding core_token_from
token_span [] lo at hi h k e = λ f. let g : at ≤ hi = k f in (omega arith, omega arith)
token_span (b ∷ l) lo at hi h k e =
    let one : Span lo at (at + 1) hi = record { low = h; some = omega arith; high = omega arith } in
    here_by (Within lo hi) (core_class b) at _ _ _ (token_span l lo (at + 1) hi (omega arith) (λ _. omega arith) (omega arith)) (λ _. one) one
    (λ _. string_span lo hi at h l nothing (at + 1) (omega arith) (omega arith)) (atom_span lo hi at h l (at + 1) (omega arith) (omega arith)) tt

pub bounds : (s : List ℕ) (at : ℕ) → Within at (length s) (next_core_token s at)
unfolding next_core_token
bounds s at = token_span (drop at s) at at (length s) (omega arith) (λ f. f) (length-drop at s)
