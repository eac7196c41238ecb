-- One byte that tells the next token, or that there is more layout.
use Prim.Native.Nat.{ℕ, ◌+◌, ◌<◌}
use mathlib.Core.Path.{◌≡◌, ap}
use mathlib.Core.List.{List}
use lib.ListN.{length, get_or}
use Rattle.token.specs.Token.{token}
use Rattle.token.specs.declared.TokenKind.{TokenKind}
use Rattle.core_token.specs.CoreToken.{core_class, next_core_token}
use Rattle.core_token.proofs.Runs.{next_blank, next_open, next_close}

module _ (s : List ℕ) (at : ℕ) (h : at < length s) where
  pub open_next : get_or s at 0 ≡ 40 → next_core_token s at ≡ token TokenKind.LParen at (at + 1)
  unfolding core_class
  open_next e = next_open s at h (ap core_class e)

  pub close_next : get_or s at 0 ≡ 41 → next_core_token s at ≡ token TokenKind.RParen at (at + 1)
  unfolding core_class
  close_next e = next_close s at h (ap core_class e)

  pub space_next : get_or s at 0 ≡ 32 → next_core_token s at ≡ next_core_token s (at + 1)
  unfolding core_class
  space_next e = next_blank s at h (ap core_class e)
