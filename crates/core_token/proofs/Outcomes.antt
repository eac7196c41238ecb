-- What a byte's class makes of an atom, a string and a token: what holds of each outcome holds of what is given.
use Prim.Native.Nat.{ℕ, ◌+◌}
use mathlib.Core.Path.{◌≡◌, refl}
use mathlib.Core.Bool.{Bool, true, false, cond, ◌||◌}
use mathlib.Core.List.{List, [], ◌∷◌}
use lib.Dec.{leb, eqb}
use lib.ListN.{drop}
use Rattle.token.specs.Token.{token, malformed, Lexed}
use Rattle.token.specs.declared.TokenKind.{TokenKind}
use Rattle.core_token.specs.CoreToken.{core_class, string_class, core_atom_from, Open, nothing, backslash, lead, string_from, core_token_from, next_core_token}
use Rattle.core_token.specs.declared.CoreClass.{CoreClass}
use Rattle.core_token.specs.declared.CoreClass.TheVariants.{Layout, LParen, RParen, Quote, Atom, Refused}
use Rattle.core_token.specs.declared.StringClass.{StringClass}
use Rattle.core_token.specs.declared.StringClass.TheVariants.{Quote as InQuote, Backslash, Control, Lead, Direct}

module _ (P : Lexed → Type 0) where
  -- Inside an atom.
  pub atom_by : (k : CoreClass) (start at : ℕ) (o : Lexed) → P (token TokenKind.Atom start at) → P (malformed at) → P o
      → P (elim k as (λ _. Lexed) [
        | Layout ↦ token TokenKind.Atom start at
        | LParen ↦ token TokenKind.Atom start at
        | RParen ↦ token TokenKind.Atom start at
        | Quote ↦ token TokenKind.Atom start at
        | Atom ↦ o
        | Refused ↦ malformed at
      ])
  atom_by Layout start at o a m h = a
  atom_by LParen start at o a m h = a
  atom_by RParen start at o a m h = a
  atom_by Quote start at o a m h = a
  atom_by Atom start at o a m h = h
  atom_by Refused start at o a m h = m

  -- Inside a string, where nothing stands open.
  pub string_by : (k : StringClass) (at : ℕ) (q b l d : Lexed) → (k ≡ InQuote → P q) → P b → P (malformed at) → P l → P d
      → P (elim k as (λ _. Lexed) [ InQuote ↦ q | Backslash ↦ b | Control ↦ malformed at | Lead ↦ l | Direct ↦ d ])
  string_by InQuote at q b l d hq hb hc hl hd = hq refl
  string_by Backslash at q b l d hq hb hc hl hd = hb
  string_by Control at q b l d hq hb hc hl hd = hc
  string_by Lead at q b l d hq hb hc hl hd = hl
  string_by Direct at q b l d hq hb hc hl hd = hd

  -- By a test.
  pub cond_by : (t : Bool) (x y : Lexed) → P x → (t ≡ false → P y) → P (cond t x y)
  cond_by true x y hx hy = hx
  cond_by false x y hx hy = hy refl

  pub test_by : (t : Bool) (x y : Lexed) → P x → P y → P (elim t as (λ _. Lexed) [ true ↦ x | false ↦ y ])
  test_by true x y hx hy = hx
  test_by false x y hx hy = hy

  -- Where a token may start.
  pub here_by : (k : CoreClass) (at : ℕ) (n q a : Lexed) → P n → (k ≡ LParen → P (token TokenKind.LParen at (at + 1)))
      → P (token TokenKind.RParen at (at + 1)) → (k ≡ Quote → P q) → P a → P (malformed at)
      → P (elim k as (λ _. Lexed) [
        | Layout ↦ n
        | LParen ↦ token TokenKind.LParen at (at + 1)
        | RParen ↦ token TokenKind.RParen at (at + 1)
        | Quote ↦ q
        | Atom ↦ a
        | Refused ↦ malformed at
      ])
  here_by Layout at n q a hn hl hr hq ha hm = hn
  here_by LParen at n q a hn hl hr hq ha hm = hl refl
  here_by RParen at n q a hn hl hr hq ha hm = hr
  here_by Quote at n q a hn hl hr hq ha hm = hq refl
  here_by Atom at n q a hn hl hr hq ha hm = ha
  here_by Refused at n q a hn hl hr hq ha hm = hm

-- What holds of each sort of token, and of each refusal, holds of the token that is given.
module _ (P : Lexed → Type 0) (string : (a e : ℕ) → P (token TokenKind.String a e)) (refused : (p : ℕ) → P (malformed p)) where
  pub every_string : (l : List ℕ) (start : ℕ) (o : Open) (at : ℕ) → P (string_from start o at l)
  unfolding string_from
  every_string [] start nothing at = refused start
  every_string [] start (backslash e) at = refused e
  every_string [] start (lead e) at = refused start
  every_string (b ∷ l) start nothing at =
      string_by P (string_class b) at _ _ _ _ (λ _. cond_by P (eqb at (start + 1)) _ _ (refused start) (λ _. string start (at + 1)))
      (every_string l start (backslash at) (at + 1)) (refused at) (every_string l start (lead at) (at + 1)) (every_string l start nothing (at + 1))
  every_string (b ∷ l) start (backslash e) at = test_by P (eqb b 34 || eqb b 92) _ _ (every_string l start nothing (at + 1)) (refused e)
  every_string (b ∷ l) start (lead e) at = test_by P (leb b 0x9F) _ _ (refused e) (every_string l start nothing (at + 1))

  module _ (opens : (a e : ℕ) → P (token TokenKind.LParen a e)) (closes : (a e : ℕ) → P (token TokenKind.RParen a e))
      (atom : (a e : ℕ) → P (token TokenKind.Atom a e)) (ends : (a e : ℕ) → P (token TokenKind.Eof a e)) where
    every_atom : (l : List ℕ) (start at : ℕ) → P (core_atom_from start at l)
    unfolding core_atom_from
    every_atom [] start at = atom start at
    every_atom (b ∷ l) start at = atom_by P (core_class b) start at _ (atom start at) (refused at) (every_atom l start (at + 1))

    every_here : (l : List ℕ) (at : ℕ) → P (core_token_from at l)
    unfolding core_token_from
    every_here [] at = ends at at
    every_here (b ∷ l) at =
        here_by P (core_class b) at _ _ _ (every_here l (at + 1)) (λ _. opens at (at + 1)) (closes at (at + 1))
        (λ _. every_string l at nothing (at + 1)) (every_atom l at (at + 1)) (refused at)

    pub every_token : (s : List ℕ) (at : ℕ) → P (next_core_token s at)
    unfolding next_core_token
    every_token s at = every_here (drop at s) at
