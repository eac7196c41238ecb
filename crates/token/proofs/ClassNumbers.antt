-- What a byte's class number says of its class.
use Prim.Native.Nat.{ℕ, ◌≤◌, ◌<◌}
use mathlib.Core.Path.{◌≡◌, refl, sym, ◌∙◌, ap}
use mathlib.Core.List.{List}
use mathlib.Core.Bool.{Bool, true, false, ◌||◌, cond}
use native.Mathlib.Omega.{arith}
use lib.Dec.{eqb}
use lib.ListN.{get_or}
use borrow.Author.Tests.{ne_eqb, eqb-true}
use Rattle.token.specs.Token.{byte_class, letter, digit, layout_byte, atom_byte}
use Rattle.token.specs.Classes.{class_number, class_of, ClassTable}
use Rattle.token.specs.declared.ByteClass.{ByteClass}
use Rattle.token.specs.declared.ByteClass.TheVariants.{Layout, Comment, LParen, RParen, Atom, Refused}

-- The number that a class gives, where the byte begins a name or is a digit.
abbrev numbered : ByteClass → Bool → Bool → ℕ
numbered k x y = elim k [ Layout ↦ 0 | Comment ↦ 1 | LParen ↦ 2 | RParen ↦ 3 | Refused ↦ 4 | Atom ↦ cond x 7 (cond y 6 5) ]

class_of_numbered : (k : ByteClass) (x y : Bool) → class_of (numbered k x y) ≡ k
unfolding class_of
class_of_numbered Layout x y = refl
class_of_numbered Comment x y = refl
class_of_numbered LParen x y = refl
class_of_numbered RParen x y = refl
class_of_numbered Refused x y = refl
class_of_numbered Atom true y = refl
class_of_numbered Atom false true = refl
class_of_numbered Atom false false = refl

pub number_class : (b : ℕ) → class_of (class_number b) ≡ byte_class b
unfolding class_number
number_class b = class_of_numbered (byte_class b) (letter b || eqb b 95) (digit b)

-- Entry b of the table has the class of byte b.
pub entry_class : (t : List ℕ) → ClassTable t → (b : ℕ) → b < 256 → class_of (get_or t b 0) ≡ byte_class b
entry_class t table b h = ap class_of (table.entry b h) ∙ number_class b

module _ (b : ℕ) where
  pub numbered_class : (n : ℕ) → class_number b ≡ n → byte_class b ≡ class_of n
  numbered_class n e = sym (number_class b) ∙ ap class_of e

  pub layout_class : class_number b ≡ 0 → byte_class b ≡ Layout
  unfolding class_of
  layout_class e = numbered_class 0 e

  pub comment_class : class_number b ≡ 1 → byte_class b ≡ Comment
  unfolding class_of
  comment_class e = numbered_class 1 e

  pub open_class : class_number b ≡ 2 → byte_class b ≡ LParen
  unfolding class_of
  open_class e = numbered_class 2 e

  pub close_class : class_number b ≡ 3 → byte_class b ≡ RParen
  unfolding class_of
  close_class e = numbered_class 3 e

  pub refused_class : class_number b ≡ 4 → byte_class b ≡ Refused
  unfolding class_of
  refused_class e = numbered_class 4 e

  pub atom_class : 5 ≤ class_number b → byte_class b ≡ Atom
  unfolding class_of
  atom_class h =
      let n = class_number b in
      sym (number_class b)
      ∙ simp (ne_eqb n 0 (λ q. omega arith), ne_eqb n 1 (λ q. omega arith), ne_eqb n 2 (λ q. omega arith), ne_eqb n 3 (λ q. omega arith), ne_eqb n 4 (λ q. omega arith))

  -- The number of each class.
  pub layout_number : byte_class b ≡ Layout → class_number b ≡ 0
  unfolding class_number
  layout_number e = rw (e, class_number)

  pub comment_number : byte_class b ≡ Comment → class_number b ≡ 1
  unfolding class_number
  comment_number e = rw (e, class_number)

  pub open_number : byte_class b ≡ LParen → class_number b ≡ 2
  unfolding class_number
  open_number e = rw (e, class_number)

  pub close_number : byte_class b ≡ RParen → class_number b ≡ 3
  unfolding class_number
  close_number e = rw (e, class_number)

  pub refused_number : byte_class b ≡ Refused → class_number b ≡ 4
  unfolding class_number
  refused_number e = rw (e, class_number)

  pub atom_number : byte_class b ≡ Atom → 5 ≤ class_number b
  unfolding class_number
  atom_number e = rw (e, class_number) (least (letter b || eqb b 95) (digit b))
    where
      least : (x y : Bool) → 5 ≤ cond x 7 (cond y 6 5)
      least true y = omega arith
      least false true = omega arith
      least false false = omega arith

-- What the numbers from 6 on say of a name's bytes.
in_name : (k : ByteClass) (x y : Bool) → 6 ≤ numbered k x y → (x || y) ≡ true
in_name Layout x y h = absurd (omega arith)
in_name Comment x y h = absurd (omega arith)
in_name LParen x y h = absurd (omega arith)
in_name RParen x y h = absurd (omega arith)
in_name Refused x y h = absurd (omega arith)
in_name Atom true y h = refl
in_name Atom false true h = refl
in_name Atom false false h = absurd (omega arith)

begins_name : (k : ByteClass) (x y : Bool) → 7 ≤ numbered k x y → x ≡ true
begins_name Layout x y h = absurd (omega arith)
begins_name Comment x y h = absurd (omega arith)
begins_name LParen x y h = absurd (omega arith)
begins_name RParen x y h = absurd (omega arith)
begins_name Refused x y h = absurd (omega arith)
begins_name Atom true y h = refl
begins_name Atom false true h = absurd (omega arith)
begins_name Atom false false h = absurd (omega arith)

module _ (b : ℕ) where
  pub name_byte : 6 ≤ class_number b → ((letter b || eqb b 95) || digit b) ≡ true
  unfolding class_number
  name_byte h = in_name (byte_class b) (letter b || eqb b 95) (digit b) h

  pub name_start : 7 ≤ class_number b → (letter b || eqb b 95) ≡ true
  unfolding class_number
  name_start h = begins_name (byte_class b) (letter b || eqb b 95) (digit b) h

-- The class of either parenthesis is given by one byte.
abbrev classes : Bool → Bool → Bool → Bool → Bool → ByteClass
classes l c o p a = cond l Layout (cond c Comment (cond o LParen (cond p RParen (cond a Atom Refused))))

apart : ◌≡◌ {A = ℕ} 0 1 → ⊥
apart z = omega arith

open_third : (l c o p a : Bool) → classes l c o p a ≡ LParen → o ≡ true
open_third true c o p a e = absurd (apart cc)
open_third false true o p a e = absurd (apart cc)
open_third false false true p a e = refl
open_third false false false true a e = absurd (apart cc)
open_third false false false false true e = absurd (apart cc)
open_third false false false false false e = absurd (apart cc)

close_fourth : (l c o p a : Bool) → classes l c o p a ≡ RParen → p ≡ true
close_fourth true c o p a e = absurd (apart cc)
close_fourth false true o p a e = absurd (apart cc)
close_fourth false false true p a e = absurd (apart cc)
close_fourth false false false true a e = refl
close_fourth false false false false true e = absurd (apart cc)
close_fourth false false false false false e = absurd (apart cc)

pub open_byte : (b : ℕ) → byte_class b ≡ LParen → b ≡ 40
unfolding byte_class
open_byte b e = eqb-true b 40 (open_third (layout_byte b) (eqb b 59) (eqb b 40) (eqb b 41) (atom_byte b) e)

pub close_byte : (b : ℕ) → byte_class b ≡ RParen → b ≡ 41
unfolding byte_class
close_byte b e = eqb-true b 41 (close_fourth (layout_byte b) (eqb b 59) (eqb b 40) (eqb b 41) (atom_byte b) e)
