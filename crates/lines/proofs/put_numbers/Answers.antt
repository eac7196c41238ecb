-- `lines::put_numbers` meets its contract.
use Rattle.std.proofs.Common.{◌≡◌, ◌∙◌, ℕ, sym, ap, arith}
use Rattle.text.specs.Text.{decimal}
use Rattle.text.proofs.Writing.{piece, ensured, same_text, put_start, put_length, ◌then◌}
use Rattle.lines.specs.Listing.{numbers, spaced}
use Rattle.lines.proofs.Rows.{numbers_more}
use Rattle.lines.proofs.put_numbers.Goals as goal

pub loop-j-init : goal.loop-j-init
unfolding numbers
loop-j-init c = put_start c.args.out.now c.args.at c.min-pos.ensures

pub loop-j-preserved : goal.loop-j-preserved
loop-j-preserved c =
    let a = c.args in
    let l = c.loop-j in
    same_text (sym (numbers_more a.t.now a.i l.j))
    (l.invariant then same_text (ap (λ (x : ℕ). spaced (decimal x)) (c.from.ensures ∙ c.word_at-word.ensures)) (piece (spaced (decimal c.from.result)) (c.put_number-pos.ensures.out_after, c.put_number-pos.ensures.value)))

pub shape_of-out : goal.shape_of-out
shape_of-out c = put_length c.loop-j.invariant

pub returns : goal.returns
returns c =
    let a = c.args in
    let l = c.loop-j in
    let e : l.j ≡ a.n = omega arith in
    let whole = ensured a.out.now a.at _ (same_text (ap (λ (x : ℕ). numbers x a.t.now a.i) e) l.invariant) in
    record { out_after = whole.0; value = whole.1 }
