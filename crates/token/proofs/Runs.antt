-- One more byte of a run: the definitions at `drop i s`, by what stands at i.
use Prim.Native.Nat.{ℕ, ◌+◌, ◌≤◌, ◌<◌}
use mathlib.Core.Path.{◌≡◌, refl}
use mathlib.Core.Bool.{Bool, true, false}
use mathlib.Core.List.{List, ◌∷◌}
use native.Mathlib.Numerals.{add-one}
use lib.ListN.{length, get_or, drop, drop_of_length-le}
use lib.Seq.{drop-cons}
use Rattle.token.specs.Token.{byte_class, layout_end, atom_from, token_here, next_token, token, malformed}
use Rattle.token.specs.declared.ByteClass.{ByteClass}
use Rattle.token.specs.declared.ByteClass.TheVariants.{Layout, Comment, LParen, RParen, Atom, Refused}
use Rattle.token.specs.declared.TokenKind.{TokenKind}

pub drop_next : (s : List ℕ) (i : ℕ) → i < length s → drop i s ≡ get_or s i 0 ∷ drop (i + 1) s
drop_next s i h = rw (add-one, drop-cons s i 0)

module _ (s : List ℕ) (i : ℕ) (h : i < length s) where
  pub layout_blank : byte_class (get_or s i 0) ≡ Layout → layout_end false i (drop i s) ≡ layout_end false (i + 1) (drop (i + 1) s)
  unfolding layout_end
  layout_blank e = rw (drop_next s i h, e, layout_end)

  pub layout_comment : byte_class (get_or s i 0) ≡ Comment → layout_end false i (drop i s) ≡ layout_end true (i + 1) (drop (i + 1) s)
  unfolding layout_end
  layout_comment e = rw (drop_next s i h, e, layout_end)

  -- a byte that is no layout ends it
  pub layout_stop : (k : ByteClass) → byte_class (get_or s i 0) ≡ k → (k ≡ Layout → ⊥) → (k ≡ Comment → ⊥) → layout_end false i (drop i s) ≡ i
  unfolding layout_end
  layout_stop Layout e n m = absurd (n refl)
  layout_stop Comment e n m = absurd (m refl)
  layout_stop LParen e n m = rw (drop_next s i h, e, layout_end)
  layout_stop RParen e n m = rw (drop_next s i h, e, layout_end)
  layout_stop Atom e n m = rw (drop_next s i h, e, layout_end)
  layout_stop Refused e n m = rw (drop_next s i h, e, layout_end)

  pub atom_word : (start : ℕ) → byte_class (get_or s i 0) ≡ Atom → atom_from start i (drop i s) ≡ atom_from start (i + 1) (drop (i + 1) s)
  unfolding atom_from
  atom_word start e = rw (drop_next s i h, e, atom_from)

  pub atom_other : (start : ℕ) → byte_class (get_or s i 0) ≡ Refused → atom_from start i (drop i s) ≡ malformed i
  unfolding atom_from
  atom_other start e = rw (drop_next s i h, e, atom_from)

  pub atom_stop : (start : ℕ) (k : ByteClass) → byte_class (get_or s i 0) ≡ k → (k ≡ Atom → ⊥) → (k ≡ Refused → ⊥) → atom_from start i (drop i s) ≡ token TokenKind.Atom start i
  unfolding atom_from
  atom_stop start Layout e n m = rw (drop_next s i h, e, atom_from)
  atom_stop start Comment e n m = rw (drop_next s i h, e, atom_from)
  atom_stop start LParen e n m = rw (drop_next s i h, e, atom_from)
  atom_stop start RParen e n m = rw (drop_next s i h, e, atom_from)
  atom_stop start Atom e n m = absurd (n refl)
  atom_stop start Refused e n m = absurd (m refl)

  pub here_open : byte_class (get_or s i 0) ≡ LParen → token_here i (drop i s) ≡ token TokenKind.LParen i (i + 1)
  unfolding token_here
  here_open e = rw (drop_next s i h, e, token_here)

  pub here_close : byte_class (get_or s i 0) ≡ RParen → token_here i (drop i s) ≡ token TokenKind.RParen i (i + 1)
  unfolding token_here
  here_close e = rw (drop_next s i h, e, token_here)

  pub here_word : byte_class (get_or s i 0) ≡ Atom → token_here i (drop i s) ≡ atom_from i (i + 1) (drop (i + 1) s)
  unfolding token_here
  here_word e = rw (drop_next s i h, e, token_here)

  pub here_none : (k : ByteClass) → byte_class (get_or s i 0) ≡ k → (k ≡ LParen → ⊥) → (k ≡ RParen → ⊥) → (k ≡ Atom → ⊥) → token_here i (drop i s) ≡ malformed i
  unfolding token_here
  here_none Layout e n m w = rw (drop_next s i h, e, token_here)
  here_none Comment e n m w = rw (drop_next s i h, e, token_here)
  here_none LParen e n m w = absurd (n refl)
  here_none RParen e n m w = absurd (m refl)
  here_none Atom e n m w = absurd (w refl)
  here_none Refused e n m w = rw (drop_next s i h, e, token_here)

pub here_end : (s : List ℕ) (i : ℕ) → length s ≤ i → token_here i (drop i s) ≡ token TokenKind.Eof i i
unfolding token_here
here_end s i h = rw (drop_of_length-le s h)

-- the token after the layout, where the layout's end is known
pub next_at : (s : List ℕ) (at p : ℕ) → p ≡ layout_end false at (drop at s) → next_token s at ≡ token_here p (drop p s)
unfolding next_token
next_at s at p e = rw e

pub layout_over : (s : List ℕ) (i : ℕ) (c : Bool) → length s ≤ i → layout_end c i (drop i s) ≡ i
unfolding layout_end
layout_over s i true h = rw (drop_of_length-le s h)
layout_over s i false h = rw (drop_of_length-le s h)

pub atom_end : (s : List ℕ) (start i : ℕ) → length s ≤ i → atom_from start i (drop i s) ≡ token TokenKind.Atom start i
unfolding atom_from
atom_end s start i h = rw (drop_of_length-le s h)
