-- `utf8::three` meets its contract.
use mathlib.Core.Path.{refl}
use mathlib.Core.Bool.{true, false}
use Rattle.utf8.proofs.Sequences.{line_of_three, of_three}
use Rattle.utf8.proofs.three.Goals as goal
use Rattle.utf8.proofs.three.Goals.{else-is_second-via-then-is_second+else-between, else-is_second-via-else-is_second}

pub returns-then-between : goal.returns-then-between
returns-then-between c =
    let p = c.requires in
    of_three _ _ true true true (line_of_three _ p.least p.greatest) p.inside c.if-is_second.ensures c.if-between.ensures

pub returns-else-is_second : goal.returns-else-is_second
returns-else-is_second c =
    let p = c.requires in
    let line = line_of_three _ p.least p.greatest in
    elim c.else-is_second.branch [
      | else-is_second-via-then-is_second+else-between w ↦ of_three _ _ true false true line p.inside w.if-is_second.ensures w.if-between.ensures
      | else-is_second-via-else-is_second w ↦ of_three _ _ false _ true line p.inside w.if-is_second.ensures refl
    ]
