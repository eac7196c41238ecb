-- The words of a row: its kind, six fields, and the offset of its term.
use mathlib.Core.Path.{◌≡◌, sym, ap, ◌∙◌}
use mathlib.Core.List.{List, [], ◌∷◌, ◌++◌}
use Prim.Native.Nat.{ℕ, suc, ◌+◌, ◌<◌}
use native.Mathlib.Omega.{arith}
use lib.ListN.{length, get_or, take, length-append, get_or-append}
use lib.Seq.{get_or-append-add, take_at}
use Rattle.terms.specs.Rows.{pad, row}
use Rattle.terms.proofs.Tables.{length_pad, getD_pad}

module _ (k : ℕ) (fields : List ℕ) (offset : ℕ) where
  pub length_row : length (row k fields offset) ≡ 8
  length_row = omega (arith, length-append (pad 6 fields) (offset ∷ []), length_pad 6 fields)

  pub row_field : (j : ℕ) → j < 6 → get_or (row k fields offset) (suc j) 0 ≡ get_or fields j 0
  row_field j h = get_or-append (pad 6 fields) (offset ∷ []) 0 j (omega (arith, length_pad 6 fields)) ∙ getD_pad 6 fields j h

  pub row_offset : get_or (row k fields offset) 7 0 ≡ offset
  row_offset = ap (λ (n : ℕ). get_or (pad 6 fields ++ (offset ∷ [])) (n + 0) 0) (sym (length_pad 6 fields)) ∙ get_or-append-add (pad 6 fields) (offset ∷ []) 0 0

-- The fields without the offset behind them.
pub six_fields : (fields : List ℕ) (offset : ℕ) → take 6 (pad 6 fields ++ (offset ∷ [])) ≡ pad 6 fields
six_fields fields offset = take_at (pad 6 fields) (offset ∷ []) 6 (length_pad 6 fields)
