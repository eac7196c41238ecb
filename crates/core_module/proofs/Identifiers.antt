-- Identifiers can stand in strings as they are.
use mathlib.Core.Path.{◌≡◌, refl}
use mathlib.Core.List.{List, [], ◌∷◌}
use mathlib.Core.Bool.{Bool, true, false, ◌||◌, false≢true, and-eq-true_iff}
use Prim.Native.Nat.{ℕ, ◌≤◌, ◌<◌}
use native.Mathlib.Omega.{arith}
use lib.Dec.{leb, eqb}
use lib.ListN.{length}
use borrow.Author.Tests.{ne_eqb, eqb-true, leb-true, le-ltb}
use Rattle.token.specs.Token.{digit, within}
use Rattle.core_token.specs.declared.StringClass.{StringClass}
use Rattle.core_token.specs.CoreToken.{string_class}
use Rattle.words.specs.Words.{all, name_start, name_byte, identifier}
use Rattle.core_module.proofs.Tokens.{Directs, Plain}
use Rattle.core_module.proofs.Numerals.{all_first}

-- Bytes of identifiers: none is a quote, a backslash, a control or above 7F.
either : (a b : Bool) {P : Type 0} → a || b ≡ true → (a ≡ true → P) → (b ≡ true → P) → P
either true b e f g = f refl
either false b e f g = g e

direct : (b : ℕ) → 48 ≤ b → b ≤ 122 → (b ≡ 92 → ⊥) → string_class b ≡ StringClass.Direct
unfolding string_class
direct b l h n = simp (ne_eqb b 34 (λ q. omega arith), ne_eqb b 92 n, le-ltb b 32 (omega arith), ne_eqb b 127 (λ q. omega arith), ne_eqb b 194 (λ q. omega arith))

start_direct : (b : ℕ) → name_start b ≡ true → string_class b ≡ StringClass.Direct
start_direct b e =
    either (within 65 90 b || within 97 122 b) (eqb b 95) e
    (λ f. either (within 65 90 b) (within 97 122 b) f
    (λ g. let w = (and-eq-true_iff (leb 65 b) (leb b 90)).0 g in
    let l = leb-true 65 b w.0 in
    let h = leb-true b 90 w.1 in
    direct b (omega arith) (omega arith) (λ q. omega arith))
    (λ g. let w = (and-eq-true_iff (leb 97 b) (leb b 122)).0 g in
    let l = leb-true 97 b w.0 in
    let h = leb-true b 122 w.1 in
    direct b (omega arith) (omega arith) (λ q. omega arith)))
    (λ f. let u = eqb-true b 95 f in direct b (omega arith) (omega arith) (λ q. omega arith))

name_direct : (b : ℕ) → name_byte b ≡ true → string_class b ≡ StringClass.Direct
name_direct b e =
    either (name_start b) (digit b) e (start_direct b)
    (λ g. let w = (and-eq-true_iff (leb 48 b) (leb b 57)).0 g in
    let l = leb-true 48 b w.0 in
    let h = leb-true b 57 w.1 in
    direct b (omega arith) (omega arith) (λ q. omega arith))

start_plain : (b : ℕ) → name_start b ≡ true → b < 128
start_plain b e =
    either (within 65 90 b || within 97 122 b) (eqb b 95) e
    (λ f. either (within 65 90 b) (within 97 122 b) f
    (λ g. let h = leb-true b 90 ((and-eq-true_iff (leb 65 b) (leb b 90)).0 g).1 in omega arith)
    (λ g. let h = leb-true b 122 ((and-eq-true_iff (leb 97 b) (leb b 122)).0 g).1 in omega arith))
    (λ f. let u = eqb-true b 95 f in omega arith)

name_plain : (b : ℕ) → name_byte b ≡ true → b < 128
name_plain b e = either (name_start b) (digit b) e (start_plain b) (λ g. let h = leb-true b 57 ((and-eq-true_iff (leb 48 b) (leb b 57)).0 g).1 in omega arith)

names_plain : (l : List ℕ) → all name_byte l ≡ true → Plain l
names_plain [] e = tt
names_plain (b ∷ l) e = let w = all_first name_byte b l e in (name_plain b w.0, names_plain l w.1)

names_direct : (l : List ℕ) → all name_byte l ≡ true → Directs l
names_direct [] e = tt
names_direct (b ∷ l) e = let w = all_first name_byte b l e in (name_direct b w.0, names_direct l w.1)

pub identifier_direct : (l : List ℕ) → identifier l ≡ true → (0 < length l) × Directs l × Plain l
unfolding identifier
identifier_direct [] e = absurd (false≢true e)
identifier_direct (b ∷ l) e = go (name_start b) refl e
  where
    go : (x : Bool) → name_start b ≡ x → elim x as (λ _. Bool) [ true ↦ all name_byte l | false ↦ false ] ≡ true → (0 < length (b ∷ l)) × Directs (b ∷ l) × Plain (b ∷ l)
    go true f e = (omega arith, (start_direct b f, names_direct l e), (start_plain b f, names_plain l e))
    go false f e = absurd (false≢true e)
