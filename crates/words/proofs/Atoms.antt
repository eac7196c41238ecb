-- Identifiers and numerals: `all` is std's, and the two tests by the first bytes.
use Prim.Native.Nat.{ℕ}
use mathlib.Core.Path.{◌≡◌, refl, sym, ◌∙◌}
use mathlib.Core.Bool.{Bool, true, false, ◌&&◌}
use mathlib.Core.List.{List, [], ◌∷◌}
use native.Mathlib.Omega.{arith}
use lib.ListN.{length}
use lib.Dec.{eqb}
use borrow.Author.Tests.{ne_eqb}
use Rattle.std.specs.List.{list_all}
use Rattle.token.specs.Token.{digit}
use Rattle.words.specs.Words.{all, name_start, name_byte, identifier, numeral}

all_list : (p : ℕ → Bool) (l : List ℕ) → list_all p l ≡ all p l
unfolding all
all_list p [] = refl
all_list p (b ∷ l) = by (p b) (all_list p l)
  where
    by : (t : Bool) → list_all p l ≡ all p l → (t && list_all p l) ≡ elim t as (λ _. Bool) [ true ↦ all p l | false ↦ false ]
    by true e = e
    by false e = refl

pub identifier_none : (w : List ℕ) → length w ≡ 0 → false ≡ identifier w
unfolding identifier
identifier_none [] e = refl
identifier_none (b ∷ l) e = absurd (omega arith)

module _ (w : List ℕ) (b : ℕ) (l : List ℕ) (e : w ≡ b ∷ l) where
  pub identifier_rest : true ≡ name_start b → list_all name_byte l ≡ identifier w
  unfolding identifier
  identifier_rest t = rw (e, identifier, sym t) (all_list name_byte l)

  pub identifier_not : false ≡ name_start b → false ≡ identifier w
  unfolding identifier
  identifier_not t = rw (e, identifier, sym t) refl

pub numeral_none : (w : List ℕ) → length w ≡ 0 → false ≡ numeral w
unfolding numeral
numeral_none [] e = refl
numeral_none (b ∷ l) e = absurd (omega arith)

all_one : (b : ℕ) (t : Bool) → digit b ≡ t → all digit (b ∷ []) ≡ t
unfolding all
all_one b true e = rw (e, all)
all_one b false e = rw (e, all)

-- Behind a leading 0 stands no other byte.
zero_first : (l : List ℕ) → eqb (length l) 0 ≡ numeral (48 ∷ l)
unfolding numeral
zero_first [] = refl
zero_first (c ∷ l) = ne_eqb (length (c ∷ l)) 0 (λ q. omega arith)

other_first : (b : ℕ) (l : List ℕ) → (b ≡ 48 → ⊥) → list_all digit (b ∷ l) ≡ numeral (b ∷ l)
unfolding numeral
other_first b [] n = all_list digit (b ∷ []) ∙ all_one b (digit b) refl
other_first b (c ∷ l) n = all_list digit (b ∷ c ∷ l) ∙ sym (rw (ne_eqb b 48 n, numeral) refl)

module _ (w : List ℕ) (b : ℕ) (l : List ℕ) (e : w ≡ b ∷ l) where
  pub numeral_zero : b ≡ 48 → eqb (length l) 0 ≡ numeral w
  numeral_zero z = rw (e, z) (zero_first l)

  pub numeral_all : (b ≡ 48 → ⊥) → list_all digit w ≡ numeral w
  numeral_all n = rw e (other_first b l n)
