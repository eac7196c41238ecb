-- `lines::put_row` meets its contract.
use Prim.Native.Nat.{ℕ, ◌*◌}
use mathlib.Core.Path.{◌≡◌, ◌∙◌, ap}
use mathlib.Core.List.{List, [], ◌∷◌}
use lib.ListN.{get_or}
use Rattle.text.specs.Text.{decimal}
use Rattle.text.proofs.Writing.{piece, ensured, same_text, ◌then◌}
use Rattle.lines.specs.Listing.{row_line, kind_word, row_fields}
use Rattle.lines.proofs.Rows.{first_word, fields_from}
use Rattle.lines.proofs.put_row.Goals as goal

pub returns : goal.returns
unfolding row_line
returns c =
    let whole = let kind = c.word_at in
    let row = c.rows_from-row in
    let a = c.args in
    let i = a.k * 8 in
    let e : kind.result ≡ get_or a.core.now i 0 = kind.ensures ∙ ap (λ (l : List ℕ). get_or l 0 0) row.ensures ∙ first_word a.core.now i in
    let f = ap (λ (l : List ℕ). row_fields a.s.now l 0) row.ensures ∙ fields_from a.core.now i a.s.now in
    ensured a.out.now a.at _
    (piece (decimal a.k) (c.put_decimal-pos.ensures.out_after, c.put_decimal-pos.ensures.value)
    then (piece (32 ∷ []) (c.put_byte-pos.ensures.out_after, c.put_byte-pos.ensures.value) then same_text (ap kind_word e) (piece (kind_word kind.result) (c.put_kind_word-pos.ensures.out_after, c.put_kind_word-pos.ensures.value)))
    then same_text f (piece (row_fields a.s.now row.result.now 0) (c.put_fields-pos.ensures.out_after, c.put_fields-pos.ensures.value))
    then piece (10 ∷ []) (c.put_byte.ensures.out_after, c.put_byte.ensures.value)) in record { out_after = whole.0; value = whole.1 }
