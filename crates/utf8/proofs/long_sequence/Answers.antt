-- `utf8::long_sequence` meets its contract, by the lines of the table.
use native.Mathlib.Omega.{arith}
use lib.ListN.{get_or}
use Rattle.utf8.proofs.Sequences.{no_first, cut_off, line_of_three, line_of_four, no_line_high}
use Rattle.utf8.proofs.long_sequence.Goals as goal

pub returns-in_default : goal.returns-in_default
returns-in_default c =
    let a = c.args in
    let p = c.requires in
    cut_off a.s.now a.at _ (line_of_three (get_or a.s.now a.at 0) p.least (omega arith)) (omega arith) (omega arith)

pub returns-in_default-2 : goal.returns-in_default-2
returns-in_default-2 c =
    let a = c.args in
    let p = c.requires in
    cut_off a.s.now a.at _ (line_of_four (get_or a.s.now a.at 0) (omega arith) (omega arith)) (omega arith) (omega arith)

pub returns-in_default-3 : goal.returns-in_default-3
returns-in_default-3 c =
    let a = c.args in
    let p = c.requires in
    no_first a.s.now a.at (no_line_high (get_or a.s.now a.at 0) (omega arith) p.greatest) (omega arith)
