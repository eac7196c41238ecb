-- The bytes of the lines of a head, token by token. They store no row.
use Rattle.token.specs.Token.{Lexed}
use mathlib.Core.List.{List}
use Prim.Native.Nat.{ℕ, ◌+◌, ◌≤◌}
use native.Mathlib.Omega.{arith}
use lib.ListN.{length}
use mathlib.Core.Path.{◌≡◌}
use Rattle.token.specs.declared.Token.{Token}
use Rattle.surface.specs.Reader.{Position, Result, Reader, after}
use Rattle.surface.specs.Reading.{opening, closing, word, natural}
use Rattle.least_storage.proofs.FromSource.{Comes, comes_as, comes_after}
use Rattle.least_storage.proofs.TokenBytes.{Spread, Ahead, AtomAhead, opening_ahead, closing_ahead, word_ahead, natural_ahead}

-- From p to q there are n bytes and more.
pub record Line (hi n : ℕ) (p q : Position) : Type 0 where
  pub bytes : p.offset + n ≤ q.offset
  pub high : q.offset ≤ hi
  pub rows : q.rows ≡ p.rows

-- The same, with what holds of that which is read.
abbrev pub LineOf : {A : Type 0} → (A → Type 0) → (hi n : ℕ) → Position → A → Position → Type 0
LineOf Q hi n p a q = Q a × Line hi n p q

abbrev pub Any : {A : Type 0} → A → Type 0
Any a = Unit {0}

pub line_after : {A B : Type 0} (P : A → Type 0) (Q : B → Type 0) (hi m n : ℕ) (p : Position) (x : Result A) (k : A → Reader B) → Comes (LineOf P hi m p) x
    → ((a : A) (q : Position) → P a → q.offset ≤ hi → Comes (LineOf Q hi n q) (k a q)) → Comes (LineOf Q hi (m + n) p) (after x k)
line_after P Q hi m n p x k g f =
    comes_after (LineOf P hi m p) (LineOf Q hi (m + n) p) x k g
    (λ a q w. let v = w.1 in comes_as (LineOf Q hi n q) (LineOf Q hi (m + n) p) (k a q) (f a q w.0 v.high)
    (λ b r u. let y = u.1 in (u.0, record { bytes = omega arith; high = y.high; rows = omega arith })))

pub line_end : {A : Type 0} (Q : A → Type 0) (hi : ℕ) (p : Position) (a : A) → Q a → p.offset ≤ hi → LineOf Q hi 0 p a p
line_end Q hi p a q h = (q, record { bytes = omega arith; high = h; rows = omega arith })

ahead_line : (hi : ℕ) (p : Position) (t : Token) (q : Position) → Ahead hi p t q → LineOf Any hi 1 p t q
ahead_line hi p t q a = (tt, record { bytes = omega arith; high = omega arith; rows = a.rows })

module _ (next : ℕ → Lexed) (hi : ℕ) (S : Spread next hi) (p : Position) where
  pub atom_line : (r : Reader Token) → Comes (AtomAhead next hi p) (r p) → Comes (LineOf Any hi 1 p) (r p)
  atom_line r g = comes_as (AtomAhead next hi p) (LineOf Any hi 1 p) (r p) g (λ t q a. ahead_line hi p t q a.ahead)

  pub opening_line : Comes (LineOf Any hi 1 p) (opening next p)
  opening_line = comes_as (Ahead hi p) (LineOf Any hi 1 p) (opening next p) (opening_ahead next hi S p) (ahead_line hi p)

  pub closing_line : Comes (LineOf Any hi 1 p) (closing next p)
  closing_line = comes_as (Ahead hi p) (LineOf Any hi 1 p) (closing next p) (closing_ahead next hi S p) (ahead_line hi p)

  pub natural_line : (s : List ℕ) → Comes (LineOf Any hi 1 p) (natural next s p)
  natural_line s = atom_line (natural next s) (natural_ahead next hi S p s)

  pub word_line : (s w : List ℕ) → Comes (LineOf Any hi (length w) p) (word next s w p)
  word_line s w =
      comes_as (λ t q. AtomAhead next hi p t q × (t.start + length w ≤ t.end)) (LineOf Any hi (length w) p) (word next s w p) (word_ahead next hi S p s w)
      (λ t q a. let b = a.0.ahead in let n = a.1 in (tt, record { bytes = omega arith; high = omega arith; rows = b.rows }))
