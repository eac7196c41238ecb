-- What stands between two offsets: nothing, or one byte.
use mathlib.Core.Path.{◌≡◌, refl, sym, ap, ◌∙◌}
use mathlib.Core.List.{List, [], ◌∷◌}
use mathlib.Core.Bool.{Bool, true, false}
use Prim.Native.Nat.{ℕ, ◌+◌, ◌-◌, ◌≤◌}
use native.Mathlib.Omega.{arith}
use native.Mathlib.Decide.{ℕ_discrete}
use lib.Dec.{eqb}
use lib.ListN.{length, get_or}
use borrow.Author.Tests.{eq-eqb, ne_eqb}
use Rattle.token.specs.declared.TokenKind.{TokenKind}
use Rattle.words.specs.Words.{same_bytes}
use Rattle.terms.specs.Label.{part}
use Rattle.core_layout.specs.inner.Layout.{gap}
use Rattle.core_layout.proofs.Seams.{first_byte}

two_bytes : (x y b : ℕ) (l : List ℕ) → same_bytes (x ∷ y ∷ l) (b ∷ []) ≡ false
unfolding same_bytes
two_bytes x y b l = go (eqb x b)
  where
    go : (k : Bool) → elim k as (λ _. Bool) [ true ↦ false | false ↦ false ] ≡ false
    go true = refl
    go false = refl

module _ (t : List ℕ) (a e : ℕ) (h : a ≤ e) (i : e ≤ length t) where
  empty_part : a ≡ e → part t a (e - a) ≡ []
  empty_part q = let z : e - a ≡ 0 = omega arith in ap (λ (n : ℕ). part t a n) z

  pub no_byte : eqb a e ≡ same_bytes (part t a (e - a)) []
  unfolding same_bytes
  no_byte =
      elim (ℕ_discrete a e) [
        | yes q ↦ eq-eqb a e q ∙ sym (ap (λ (l : List ℕ). same_bytes l []) (empty_part q))
        | no n ↦ ne_eqb a e n ∙ sym (ap (λ (l : List ℕ). same_bytes l []) (first_byte t a e (omega arith) i))
      ]

  pub not_one : (b : ℕ) → (e - a ≡ 1 → ⊥) → false ≡ same_bytes (part t a (e - a)) (b ∷ [])
  unfolding same_bytes
  not_one b n =
      elim (ℕ_discrete a e) [
        | yes q ↦ sym (ap (λ (l : List ℕ). same_bytes l (b ∷ [])) (empty_part q))
        | no m ↦
            sym (ap (λ (l : List ℕ). same_bytes l (b ∷ [])) (first_byte t a e (omega arith) i ∙ ap {B = List ℕ} (λ (l : List ℕ). get_or t a 0 ∷ l) (first_byte t (a + 1) e (omega arith) i))
            ∙ two_bytes (get_or t a 0) (get_or t (a + 1) 0) b (part t (a + 1 + 1) (e - (a + 1 + 1))))
      ]

  pub one_byte : (b : ℕ) → e - a ≡ 1 → eqb (get_or t a 0) b ≡ same_bytes (part t a (e - a)) (b ∷ [])
  unfolding same_bytes
  one_byte b n =
      let z : e - (a + 1) ≡ 0 = omega arith in
      sym (ap (λ (l : List ℕ). same_bytes l (b ∷ [])) (first_byte t a e (omega arith) i ∙ ap {B = List ℕ} (λ (m : ℕ). get_or t a 0 ∷ part t (a + 1) m) z) ∙ go (eqb (get_or t a 0) b))
    where
      go : (k : Bool) → elim k as (λ _. Bool) [ true ↦ true | false ↦ false ] ≡ k
      go true = refl
      go false = refl

-- The gap of a flag and a kind that are known.
pub by_gap : (l : List ℕ) {b c : Bool} {k m : TokenKind} → b ≡ c → k ≡ m → same_bytes l (gap c m) ≡ same_bytes l (gap b k)
by_gap l e f = λ i. same_bytes l (gap (sym e i) (sym f i))

-- Before any other token one space stands.
pub by_space : {b : Bool} {k : TokenKind} → b ≡ false → (k ≡ TokenKind.RParen → ⊥) → (k ≡ TokenKind.Eof → ⊥) → gap b k ≡ 32 ∷ []
by_space {k = k} e n m = ap (λ b. gap b k) e ∙ go k n m
  where
    go : (k : TokenKind) → (k ≡ TokenKind.RParen → ⊥) → (k ≡ TokenKind.Eof → ⊥) → gap false k ≡ 32 ∷ []
    go TokenKind.RParen n m = absurd (n refl)
    go TokenKind.Eof n m = absurd (m refl)
    go k n m = refl
