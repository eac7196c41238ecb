-- `utf8::four` meets its contract.
use mathlib.Core.Path.{refl}
use mathlib.Core.Bool.{true, false}
use Rattle.utf8.proofs.Sequences.{line_of_four, of_four}
use Rattle.utf8.proofs.four.Goals as goal
use Rattle.utf8.proofs.four.Goals.{else-is_second-via-then-is_second+then-between+else-between-2, else-is_second-via-then-is_second+else-between, else-is_second-via-else-is_second}

pub returns-then-between-2 : goal.returns-then-between-2
returns-then-between-2 c =
    let p = c.requires in
    of_four _ _ true true true (line_of_four _ p.least p.greatest) p.inside c.if-is_second.ensures c.if-between.ensures c.if-between-2.ensures

pub returns-else-is_second : goal.returns-else-is_second
returns-else-is_second c =
    let p = c.requires in
    let line = line_of_four _ p.least p.greatest in
    elim c.else-is_second.branch [
      | else-is_second-via-then-is_second+then-between+else-between-2 w ↦ of_four _ _ true true false line p.inside w.if-is_second.ensures w.if-between.ensures w.if-between-2.ensures
      | else-is_second-via-then-is_second+else-between w ↦ of_four _ _ true false _ line p.inside w.if-is_second.ensures w.if-between.ensures refl
      | else-is_second-via-else-is_second w ↦ of_four _ _ false _ _ line p.inside w.if-is_second.ensures refl refl
    ]
