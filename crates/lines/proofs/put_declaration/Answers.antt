-- `lines::put_declaration` meets its contract.
use Prim.Native.Nat.{ℕ, ◌+◌, ◌*◌}
use mathlib.Core.List.{List, [], ◌∷◌}
use mathlib.Core.Path.{◌≡◌, ap, ap₂, ◌∙◌}
use lib.Seq.{get_or-drop}
use lib.ListN.{get_or}
use Rattle.terms.specs.Label.{part}
use Rattle.text.proofs.Writing.{piece, ensured, same_text, ◌then◌}
use Rattle.text.specs.Text.{decimal}
use Rattle.lines.specs.Listing.{spaced, declaration_word, declaration_rows, declaration_line}
use Rattle.lines.proofs.Rows.{first_word, rows_from}
use Rattle.lines.proofs.put_declaration.Goals as goal

pub returns : goal.returns
unfolding declaration_line
returns c =
    let whole = let kind = c.word_at in
    let row = c.rows_from-declaration in
    let a = c.args in
    let s = a.s.now in
    let ds = a.declarations.now in
    let i = a.k * 5 in
    let w : (j : ℕ) → get_or row.result.now j 0 ≡ get_or ds (i + j) 0 = λ j. ap (λ (l : List ℕ). get_or l j 0) row.ensures ∙ get_or-drop i ds j 0 in
    let e : kind.result ≡ get_or ds i 0 = kind.ensures ∙ ap (λ (l : List ℕ). get_or l 0 0) row.ensures ∙ first_word ds i in
    let n = ap₂ (λ (x y : ℕ). spaced (part s x y)) (w 1) (w 2) in
    let f = ap (λ (l : List ℕ). declaration_rows l 0) row.ensures ∙ rows_from ds i in
    ensured a.out.now a.at _
    (piece (decimal a.k) (c.put_decimal-pos.ensures.out_after, c.put_decimal-pos.ensures.value)
    then (piece (32 ∷ []) (c.put_byte-pos.ensures.out_after, c.put_byte-pos.ensures.value) then same_text (ap declaration_word e) (piece (declaration_word kind.result) (c.put_declaration_word-pos.ensures.out_after, c.put_declaration_word-pos.ensures.value)))
    then same_text n (piece (spaced (part s (get_or row.result.now 1 0) (get_or row.result.now 2 0))) (c.put_span-pos.ensures.out_after, c.put_span-pos.ensures.value))
    then same_text f (piece (declaration_rows row.result.now 0) (c.put_declaration_rows-end.ensures.out_after, c.put_declaration_rows-end.ensures.value))
    then piece (10 ∷ []) (c.put_byte.ensures.out_after, c.put_byte.ensures.value)) in record { out_after = whole.0; value = whole.1 }
