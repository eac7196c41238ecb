-- `lines::put_declarations` meets its contract.
use Rattle.std.proofs.Common.{◌≡◌, ℕ, sym, ap, arith}
use Rattle.text.proofs.Writing.{piece, ensured, same_text, put_start, put_length, ◌then◌}
use Rattle.lines.specs.Listing.{declaration_lines, declaration_line}
use Rattle.lines.proofs.Rows.{declaration_lines_more}
use Rattle.lines.proofs.put_declarations.Goals as goal

pub loop-k-init : goal.loop-k-init
unfolding declaration_lines
loop-k-init c = put_start c.args.out.now c.args.at c.min-pos.ensures

pub loop-k-preserved : goal.loop-k-preserved
loop-k-preserved c =
    let a = c.args in
    let l = c.loop-k in
    same_text (sym (declaration_lines_more a.s.now a.declarations.now l.k))
    (l.invariant then piece (declaration_line a.s.now a.declarations.now l.k) (c.put_declaration-pos.ensures.out_after, c.put_declaration-pos.ensures.value))

pub shape_of-out : goal.shape_of-out
shape_of-out c = put_length c.loop-k.invariant

pub returns : goal.returns
returns c =
    let a = c.args in
    let l = c.loop-k in
    let e : l.k ≡ a.count = omega arith in
    let whole = ensured a.out.now a.at _ (same_text (ap (λ (x : ℕ). declaration_lines a.s.now a.declarations.now x 0) e) l.invariant) in
    record { out_after = whole.0; value = whole.1 }
