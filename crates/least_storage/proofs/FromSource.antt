-- What holds of whatever a reader gives, where all that it refuses comes from the source and not from a lack of room, step by step.
use Rattle.token.specs.Refusals.{number}
use Rattle.token.specs.declared.Class.{Class}
use mathlib.Core.Path.{◌≡◌, refl}
use mathlib.Core.Bool.{Bool, true, false, ◌||◌}
use Prim.Native.Nat.{ℕ}
use lib.Dec.{eqb}
use Rattle.token.specs.declared.Refusal.{Refusal}
use Rattle.surface.specs.Reader.{Position, Result, done, refused, Reader, after, ◌>>◌, require}

-- "1 malformed", 2 "for source versions other than 0 1 and 0 2", "3 reserved name", "7 more than 512 frames open in one term"
abbrev pub from_source : Class → Bool
from_source k = let c : ℕ = number k in eqb c 1 || (eqb c 2 || (eqb c 3 || eqb c 7))

abbrev pub Comes : {A : Type 0} → (A → Position → Type 0) → Result A → Type 0
Comes P (done a q) = P a q
Comes P (refused r) = from_source r.class ≡ true

pub comes_as : {A : Type 0} (P Q : A → Position → Type 0) (x : Result A) → Comes P x → ((a : A) (q : Position) → P a q → Q a q) → Comes Q x
comes_as P Q (done a q) g f = f a q g
comes_as P Q (refused r) g f = g

pub comes_after : {A B : Type 0} (P : A → Position → Type 0) (Q : B → Position → Type 0) (x : Result A) (k : A → Reader B)
    → Comes P x → ((a : A) (q : Position) → P a q → Comes Q (k a q)) → Comes Q (after x k)
comes_after P Q (done a q) k g f = f a q g
comes_after P Q (refused r) k g f = g

pub comes_require : {B : Type 0} (Q : B → Position → Type 0) (b : Bool) (r : Refusal) (k : Reader B) (q : Position) → from_source r.class ≡ true
    → (b ≡ true → Comes Q (k q)) → Comes Q ((require b r >> k) q)
comes_require Q true r k q c f = f refl
comes_require Q false r k q c f = c
