-- `lines::put_listing` meets its contract.
use Rattle.text.proofs.Writing.{piece, put_behind, ◌then◌}
use Rattle.lines.specs.Listing.{first_line, row_lines, declaration_lines, listing}
use Rattle.lines.proofs.put_listing.Goals as goal

pub returns : goal.returns
unfolding listing
returns c =
    let a = c.args in
    let b =
    put_behind {out = a.out.now}
    (piece (first_line a.rows a.count) (c.put_first_line-pos.ensures.out_after, c.put_first_line-pos.ensures.value)
    then piece (row_lines a.s.now a.core.now a.rows 0) (c.put_rows-pos.ensures.out_after, c.put_rows-pos.ensures.value)
    then piece (declaration_lines a.s.now a.declarations.now a.count 0) (c.put_declarations.ensures.out_after, c.put_declarations.ensures.value)) in
    record { out_after = b.content; value = b.offset }
