-- Readers: what stands next, or the first refusal that is met.
use Rattle.std.specs.Prelude.{Bool, true, false, ℕ}
use Rattle.token.specs.declared.Token.{Token}
use Rattle.token.specs.declared.Class.{Class}
use Rattle.token.specs.declared.Refusal.{Refusal}
pub use Rattle.token.specs.Refusals.{nowhere, at_offset}

infixl 10 ◌>>=◌ ◌>>◌
-- How far reading is: the offset, and how many rows are stored.
pub record Position : Type 0 where
  pub offset : ℕ
  pub rows : ℕ

abbrev pub start : Position
start = record { offset = 0; rows = 0 }

pub data Result (A : Type 0) : Type 0 where
  done : A → Position → Result A
  refused : Refusal → Result A

abbrev pub Reader : Type 0 → Type 0
Reader A = Position → Result A

-- One reader after another: the first refusal is the result.
abbrev pub after : {A B : Type 0} → Result A → (A → Reader B) → Result B
after (done a p) k = k a p
after (refused r) k = refused r

abbrev pub ◌>>=◌ : {A B : Type 0} → Reader A → (A → Reader B) → Reader B
◌>>=◌ r k = λ p. after (r p) k

abbrev pub ◌>>◌ : {A B : Type 0} → Reader A → Reader B → Reader B
◌>>◌ r k = λ p. after (r p) (λ a. k)

abbrev pub pure : {A : Type 0} → A → Reader A
pure a = λ p. done a p

abbrev pub refuse : {A : Type 0} → Refusal → Reader A
refuse r = λ p. refused r

abbrev pub position : Reader Position
position = λ p. done p p

abbrev pub move_to : Position → Reader (Unit {0})
move_to q = λ p. done tt q

-- A test that must hold, and the refusal where it does not.
abbrev pub require : Bool → Refusal → Reader (Unit {0})
require true r = pure tt
require false r = refuse r

-- At the first byte of a token.
abbrev pub at_token : Class → Token → Refusal
at_token c t = at_offset c t.start
