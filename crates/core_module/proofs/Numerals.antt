-- Numerals are atoms, and a number's digits are a numeral that is worth it.
use mathlib.Core.Path.{◌≡◌, refl, sym, ◌∙◌, subst}
use mathlib.Core.List.{List, [], ◌∷◌, ◌++◌}
use mathlib.Core.Bool.{Bool, true, false, false≢true, and-eq-true_iff}
use Prim.Native.Nat.{ℕ, zero, suc, ◌+◌, ◌-◌, ◌*◌, ◌/◌, ◌%◌, ◌≤◌, ◌<◌}
use native.Mathlib.Omega.{arith}
use native.Mathlib.Decide.{dec_lt}
use lib.Dec.{leb, eqb}
use borrow.Author.Tests.{ne_eqb, leb-true, le-leb, lt-ltb, le-ltb}
use Rattle.token.specs.Token.{digit}
use Rattle.core_token.specs.declared.CoreClass.{CoreClass}
use Rattle.core_token.specs.CoreToken.{core_class}
use Rattle.words.specs.Words.{all, numeral}
use Rattle.printing.specs.Decimal.{digits, decimal, value_from}
use Rattle.core_module.proofs.Tokens.{Atoms, Wordlike}

-- What all bytes pass, each passes.
pub all_first : (p : ℕ → Bool) (b : ℕ) (l : List ℕ) → all p (b ∷ l) ≡ true → (p b ≡ true) × (all p l ≡ true)
unfolding all
all_first p b l e = go (p b) refl e
  where
    go : (c : Bool) → p b ≡ c → elim c as (λ _. Bool) [ true ↦ all p l | false ↦ false ] ≡ true → (p b ≡ true) × (all p l ≡ true)
    go true f e = (f, e)
    go false f e = absurd (false≢true e)

digit_class : (b : ℕ) → digit b ≡ true → core_class b ≡ CoreClass.Atom
unfolding core_class
digit_class b e =
    let w = (and-eq-true_iff (leb 48 b) (leb b 57)).0 e in
    let l = leb-true 48 b w.0 in
    let h = leb-true b 57 w.1 in
    simp (ne_eqb b 9 (λ q. omega arith), ne_eqb b 10 (λ q. omega arith), ne_eqb b 13 (λ q. omega arith), ne_eqb b 32 (λ q. omega arith), ne_eqb b 40 (λ q. omega arith), ne_eqb b 41 (λ q. omega arith), ne_eqb b 34 (λ q. omega arith), le-leb 33 b (omega arith), le-leb b 126 (omega arith))

digits_atoms : (l : List ℕ) → all digit l ≡ true → Atoms l
digits_atoms [] e = tt
digits_atoms (b ∷ l) e = let w = all_first digit b l e in (digit_class b w.0, digits_atoms l w.1)

pub numeral_wordlike : (l : List ℕ) → numeral l ≡ true → Wordlike l
unfolding numeral
numeral_wordlike [] e = false≢true e
numeral_wordlike (b ∷ []) e = (digit_class b e, tt)
numeral_wordlike (b ∷ c ∷ l) e = go (eqb b 48) e
  where
    go : (x : Bool) → elim x as (λ _. Bool) [ true ↦ false | false ↦ all digit (b ∷ c ∷ l) ] ≡ true → Wordlike (b ∷ c ∷ l)
    go true f = absurd (false≢true f)
    go false f = let w = all_first digit b (c ∷ l) f in (digit_class b w.0, digits_atoms (c ∷ l) w.1)

-- The digits of a number.
digits_one : (k n : ℕ) → n < 10 → digits k n ≡ (48 + n) ∷ []
unfolding digits
digits_one zero n h = refl
digits_one (suc k) n h = rw (lt-ltb n 10 h, digits) refl

digits_more : (k n : ℕ) → 10 ≤ n → digits (suc k) n ≡ digits k (n / 10) ++ ((48 + n % 10) ∷ [])
unfolding digits
digits_more k n h = rw (le-ltb n 10 h, digits) refl

digit_of : (n : ℕ) → n < 10 → digit (48 + n) ≡ true
digit_of n h = rw (le-leb 48 (48 + n) (omega arith), le-leb (48 + n) 57 (omega arith))

all_last : (p : ℕ → Bool) (l : List ℕ) (b : ℕ) → all p l ≡ true → p b ≡ true → all p (l ++ (b ∷ [])) ≡ true
unfolding all
all_last p [] b e f = rw (f, all) refl
all_last p (c ∷ l) b e f = let w = all_first p c l e in rw (w.0, all) (all_last p l b w.1 f)

value_last : (v b : ℕ) (l : List ℕ) → value_from v (l ++ (b ∷ [])) ≡ value_from v l * 10 + (b - 48)
unfolding value_from
value_last v b [] = refl
value_last v b (c ∷ l) = value_last (v * 10 + (c - 48)) b l

-- What is kept of digits: all of them are, the first is not 0 unless it is the only one, and their worth.
pub record Worth (n : ℕ) (l : List ℕ) : Type 0 where
  pub all_digits : all digit l ≡ true
  pub worth : value_from 0 l ≡ n
  pub canonical : numeral l ≡ true

-- One more digit behind a numeral that is not 0.
numeral_more : (l : List ℕ) (b : ℕ) → all digit l ≡ true → numeral l ≡ true → ¬ (value_from 0 l ≡ 0) → digit b ≡ true → numeral (l ++ (b ∷ [])) ≡ true
unfolding numeral value_from
numeral_more [] b a e n f = absurd (false≢true e)
numeral_more (c ∷ []) b a e n f =
    rw (ne_eqb c 48 (λ q. n (let z : 0 * 10 + (c - 48) ≡ 0 = omega arith in z)), numeral) (all_last digit (c ∷ []) b a f)
numeral_more (c ∷ d ∷ l) b a e n f = go (eqb c 48) refl e
  where
    go : (x : Bool) → eqb c 48 ≡ x → elim x as (λ _. Bool) [ true ↦ false | false ↦ all digit (c ∷ d ∷ l) ] ≡ true → elim (eqb c 48) as (λ _. Bool) [ true ↦ false | false ↦ all digit (c ∷ d ∷ (l ++ (b ∷ []))) ] ≡ true
    go true q g = absurd (false≢true g)
    go false q g = rw q (all_last digit (c ∷ d ∷ l) b a f)

one_worth : (k n : ℕ) → n < 10 → Worth n (digits k n)
unfolding numeral all value_from
one_worth k n g =
    subst (Worth n) (sym (digits_one k n g))
    (record { all_digits = rw (digit_of n g, all) refl; worth = let z : 0 * 10 + (48 + n - 48) ≡ n = omega arith in z; canonical = digit_of n g })

digits_worth : (k n : ℕ) → n ≤ k → Worth n (digits k n)
digits_worth zero n h = one_worth zero n (omega arith)
digits_worth (suc k) n h = go (digits_worth k (n / 10)) (dec_lt n 10)
  where
    go : (n / 10 ≤ k → Worth (n / 10) (digits k (n / 10))) → Dec (n < 10) → Worth n (digits (suc k) n)
    go ih (yes g) = one_worth (suc k) n g
    go ih (no g) =
        let w = ih (omega arith) in
        let d = digit_of (n % 10) (omega arith) in
        subst (Worth n) (sym (digits_more k n (omega arith))) (record {
          all_digits = all_last digit (digits k (n / 10)) (48 + n % 10) w.all_digits d;
          worth = value_last 0 (48 + n % 10) (digits k (n / 10)) ∙ (let z : value_from 0 (digits k (n / 10)) * 10 + (48 + n % 10 - 48) ≡ n = omega (arith, w.worth) in z);
          canonical = numeral_more (digits k (n / 10)) (48 + n % 10) w.all_digits w.canonical (λ q. omega (arith, w.worth)) d;
        })

pub decimal_worth : (n : ℕ) → Worth n (decimal n)
unfolding decimal
decimal_worth n = digits_worth n n (omega arith)
