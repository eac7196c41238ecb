-- One more byte of a run: the definitions at `drop i s`, by what stands at i.
use Prim.Native.Nat.{ℕ, ◌+◌, ◌≤◌, ◌<◌}
use mathlib.Core.Path.{◌≡◌, refl}
use mathlib.Core.Bool.{true, false, ◌||◌}
use mathlib.Core.List.{List}
use lib.Dec.{eqb}
use lib.ListN.{length, get_or, drop, drop_of_length-le}
use borrow.Author.Tests.{le-leb, lt-leb}
use Rattle.token.specs.Token.{token, malformed}
use Rattle.token.specs.declared.TokenKind.{TokenKind}
use Rattle.token.proofs.Runs.{drop_next}
use Rattle.core_token.specs.CoreToken.{core_class, string_class, core_atom_from, nothing, backslash, lead, closed, string_from, core_token_from, next_core_token}
use Rattle.core_token.specs.declared.CoreClass.{CoreClass}
use Rattle.core_token.specs.declared.StringClass.{StringClass}

module _ (s : List ℕ) (i : ℕ) (h : i < length s) where
  -- Where a token starts.
  pub next_blank : core_class (get_or s i 0) ≡ CoreClass.Layout → next_core_token s i ≡ next_core_token s (i + 1)
  unfolding next_core_token core_token_from
  next_blank e = rw (drop_next s i h, e, core_token_from)

  pub next_open : core_class (get_or s i 0) ≡ CoreClass.LParen → next_core_token s i ≡ token TokenKind.LParen i (i + 1)
  unfolding next_core_token core_token_from
  next_open e = rw (drop_next s i h, e, core_token_from)

  pub next_close : core_class (get_or s i 0) ≡ CoreClass.RParen → next_core_token s i ≡ token TokenKind.RParen i (i + 1)
  unfolding next_core_token core_token_from
  next_close e = rw (drop_next s i h, e, core_token_from)

  pub next_quote : core_class (get_or s i 0) ≡ CoreClass.Quote → next_core_token s i ≡ string_from i nothing (i + 1) (drop (i + 1) s)
  unfolding next_core_token core_token_from
  next_quote e = rw (drop_next s i h, e, core_token_from)

  pub next_word : core_class (get_or s i 0) ≡ CoreClass.Atom → next_core_token s i ≡ core_atom_from i (i + 1) (drop (i + 1) s)
  unfolding next_core_token core_token_from
  next_word e = rw (drop_next s i h, e, core_token_from)

  pub next_refused : core_class (get_or s i 0) ≡ CoreClass.Refused → next_core_token s i ≡ malformed i
  unfolding next_core_token core_token_from
  next_refused e = rw (drop_next s i h, e, core_token_from)

  module _ (start : ℕ) where
    -- Inside an atom.
    pub atom_word : core_class (get_or s i 0) ≡ CoreClass.Atom → core_atom_from start i (drop i s) ≡ core_atom_from start (i + 1) (drop (i + 1) s)
    unfolding core_atom_from
    atom_word e = rw (drop_next s i h, e, core_atom_from)

    pub atom_refused : core_class (get_or s i 0) ≡ CoreClass.Refused → core_atom_from start i (drop i s) ≡ malformed i
    unfolding core_atom_from
    atom_refused e = rw (drop_next s i h, e, core_atom_from)

    pub atom_stop : (k : CoreClass) → core_class (get_or s i 0) ≡ k → (k ≡ CoreClass.Atom → ⊥) → (k ≡ CoreClass.Refused → ⊥) → core_atom_from start i (drop i s) ≡ token TokenKind.Atom start i
    unfolding core_atom_from
    atom_stop CoreClass.Layout e n m = rw (drop_next s i h, e, core_atom_from)
    atom_stop CoreClass.LParen e n m = rw (drop_next s i h, e, core_atom_from)
    atom_stop CoreClass.RParen e n m = rw (drop_next s i h, e, core_atom_from)
    atom_stop CoreClass.Quote e n m = rw (drop_next s i h, e, core_atom_from)
    atom_stop CoreClass.Atom e n m = absurd (n refl)
    atom_stop CoreClass.Refused e n m = absurd (m refl)

    -- Inside a string.
    pub string_direct : string_class (get_or s i 0) ≡ StringClass.Direct → string_from start nothing i (drop i s) ≡ string_from start nothing (i + 1) (drop (i + 1) s)
    unfolding string_from
    string_direct e = rw (drop_next s i h, e, string_from)

    pub string_quote : string_class (get_or s i 0) ≡ StringClass.Quote → string_from start nothing i (drop i s) ≡ closed start i
    unfolding string_from
    string_quote e = rw (drop_next s i h, e, string_from)

    pub string_control : string_class (get_or s i 0) ≡ StringClass.Control → string_from start nothing i (drop i s) ≡ malformed i
    unfolding string_from
    string_control e = rw (drop_next s i h, e, string_from)

    pub string_backslash : string_class (get_or s i 0) ≡ StringClass.Backslash → string_from start nothing i (drop i s) ≡ string_from start (backslash i) (i + 1) (drop (i + 1) s)
    unfolding string_from
    string_backslash e = rw (drop_next s i h, e, string_from)

    pub string_lead : string_class (get_or s i 0) ≡ StringClass.Lead → string_from start nothing i (drop i s) ≡ string_from start (lead i) (i + 1) (drop (i + 1) s)
    unfolding string_from
    string_lead e = rw (drop_next s i h, e, string_from)

    -- Behind a backslash or a lead that stands at e.
    module _ (e : ℕ) where
      pub escape_good : (eqb (get_or s i 0) 34 || eqb (get_or s i 0) 92) ≡ true → string_from start (backslash e) i (drop i s) ≡ string_from start nothing (i + 1) (drop (i + 1) s)
      unfolding string_from
      escape_good q = rw (drop_next s i h, q, string_from)

      pub escape_bad : (eqb (get_or s i 0) 34 || eqb (get_or s i 0) 92) ≡ false → string_from start (backslash e) i (drop i s) ≡ malformed e
      unfolding string_from
      escape_bad q = rw (drop_next s i h, q, string_from)

      pub lead_good : 159 < get_or s i 0 → string_from start (lead e) i (drop i s) ≡ string_from start nothing (i + 1) (drop (i + 1) s)
      unfolding string_from
      lead_good q = rw (drop_next s i h, lt-leb (get_or s i 0) 159 q, string_from)

      pub lead_bad : get_or s i 0 ≤ 159 → string_from start (lead e) i (drop i s) ≡ malformed e
      unfolding string_from
      lead_bad q = rw (drop_next s i h, le-leb (get_or s i 0) 159 q, string_from)

-- At the end.
module _ (s : List ℕ) (i : ℕ) (h : length s ≤ i) where
  pub next_end : next_core_token s i ≡ token TokenKind.Eof i i
  unfolding next_core_token core_token_from
  next_end = rw (drop_of_length-le s h)

  module _ (start : ℕ) where
    pub atom_end : core_atom_from start i (drop i s) ≡ token TokenKind.Atom start i
    unfolding core_atom_from
    atom_end = rw (drop_of_length-le s h)

    pub string_end : string_from start nothing i (drop i s) ≡ malformed start
    unfolding string_from
    string_end = rw (drop_of_length-le s h)

    pub escape_end : (e : ℕ) → string_from start (backslash e) i (drop i s) ≡ malformed e
    unfolding string_from
    escape_end e = rw (drop_of_length-le s h)

    -- a lead at the end leaves the string open
    pub lead_end : (e : ℕ) → string_from start (lead e) i (drop i s) ≡ string_from start nothing i (drop i s)
    unfolding string_from
    lead_end e = rw (drop_of_length-le s h)
