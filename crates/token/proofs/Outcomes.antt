-- What a byte's class makes of an atom and of a token: what holds of each outcome holds of what is given.
use Prim.Native.Nat.{ℕ, ◌+◌}
use mathlib.Core.Path.{◌≡◌, refl}
use mathlib.Core.Bool.{false}
use mathlib.Core.List.{List, [], ◌∷◌}
use lib.ListN.{drop}
use Rattle.token.specs.Token.{token, malformed, byte_class, layout_end, atom_from, token_here, next_token, Lexed}
use Rattle.token.specs.declared.ByteClass.{ByteClass}
use Rattle.token.specs.declared.ByteClass.TheVariants.{Layout, Comment, LParen, RParen, Atom, Refused}
use Rattle.token.specs.declared.TokenKind.{TokenKind}

-- What a byte of some class makes inside an atom that goes on as o, and where a token starts that is o if it is an atom.
abbrev in_atom : ByteClass → ℕ → ℕ → Lexed → Lexed
in_atom k start at o =
    elim k as (λ _. Lexed) [
      | Layout ↦ token TokenKind.Atom start at
      | Comment ↦ token TokenKind.Atom start at
      | LParen ↦ token TokenKind.Atom start at
      | RParen ↦ token TokenKind.Atom start at
      | Atom ↦ o
      | Refused ↦ malformed at
    ]

abbrev at_token : ByteClass → ℕ → Lexed → Lexed
at_token k at o =
    elim k as (λ _. Lexed) [
      | Layout ↦ malformed at
      | Comment ↦ malformed at
      | LParen ↦ token TokenKind.LParen at (at + 1)
      | RParen ↦ token TokenKind.RParen at (at + 1)
      | Atom ↦ o
      | Refused ↦ malformed at
    ]

-- Inside an atom, where it goes on as o or, in another source, as u.
pub atom_both : (R : Lexed → Lexed → Type 0) (k : ByteClass) (start at : ℕ) (o u : Lexed)
    → R (token TokenKind.Atom start at) (token TokenKind.Atom start at) → R (malformed at) (malformed at) → R o u
    → R (in_atom k start at o) (in_atom k start at u)
atom_both R Layout start at o u a m h = a
atom_both R Comment start at o u a m h = a
atom_both R LParen start at o u a m h = a
atom_both R RParen start at o u a m h = a
atom_both R Atom start at o u a m h = h
atom_both R Refused start at o u a m h = m

pub atom_by : (P : Lexed → Type 0) (k : ByteClass) (start at : ℕ) (o : Lexed) → P (token TokenKind.Atom start at) → P (malformed at) → P o
    → P (in_atom k start at o)
atom_by P k start at o a m h = atom_both (λ x y. P x) k start at o o a m h

-- Where a token starts.
pub here_both : (R : Lexed → Lexed → Type 0) (k : ByteClass) (at : ℕ) (o u : Lexed) → R (malformed at) (malformed at)
    → (k ≡ LParen → R (token TokenKind.LParen at (at + 1)) (token TokenKind.LParen at (at + 1)))
    → (k ≡ RParen → R (token TokenKind.RParen at (at + 1)) (token TokenKind.RParen at (at + 1))) → R o u
    → R (at_token k at o) (at_token k at u)
here_both R Layout at o u m l r h = m
here_both R Comment at o u m l r h = m
here_both R LParen at o u m l r h = l refl
here_both R RParen at o u m l r h = r refl
here_both R Atom at o u m l r h = h
here_both R Refused at o u m l r h = m

pub here_by : (P : Lexed → Type 0) (k : ByteClass) (at : ℕ) (o : Lexed) → P (malformed at)
    → (k ≡ LParen → P (token TokenKind.LParen at (at + 1))) → (k ≡ RParen → P (token TokenKind.RParen at (at + 1))) → P o
    → P (at_token k at o)
here_by P k at o m l r h = here_both (λ x y. P x) k at o o m l r h

-- What holds of each sort of token, and of each refusal, holds of the token that is given.
module _ (P : Lexed → Type 0) (opens : (a e : ℕ) → P (token TokenKind.LParen a e)) (closes : (a e : ℕ) → P (token TokenKind.RParen a e))
    (atom : (a e : ℕ) → P (token TokenKind.Atom a e)) (ends : (a e : ℕ) → P (token TokenKind.Eof a e)) (refused : (p : ℕ) → P (malformed p)) where
  every_atom : (l : List ℕ) (start at : ℕ) → P (atom_from start at l)
  unfolding atom_from
  every_atom [] start at = atom start at
  every_atom (b ∷ l) start at = atom_by P (byte_class b) start at _ (atom start at) (refused at) (every_atom l start (at + 1))

  every_here : (l : List ℕ) (at : ℕ) → P (token_here at l)
  unfolding token_here
  every_here [] at = ends at at
  every_here (b ∷ l) at = here_by P (byte_class b) at _ (refused at) (λ k. opens at (at + 1)) (λ k. closes at (at + 1)) (every_atom l at (at + 1))

  pub every_token : (s : List ℕ) (at : ℕ) → P (next_token s at)
  unfolding next_token
  every_token s at = let p : ℕ = layout_end false at (drop at s) in every_here (drop p s) p
