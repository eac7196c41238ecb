-- The cycle of calls of `plain::read_term` and `plain::read_arguments`: the measure is twice the unread bytes, and one more for the
-- arguments, which begin with a term at the same byte.
use Rattle.std.proofs.Common.{◌-◌, ◌+◌, ◌*◌, length}
use Rattle.plain.proofs.Answers.{Arguments}
use Rattle.plain.proofs.+read_arguments_read_term.Given as goal

abbrev pub decreases-read_arguments : goal.decreases-read_arguments
decreases-read_arguments l = 2 * (length l.input.now.bytes.now - l.at) + 1

abbrev pub decreases-read_term : goal.decreases-read_term
decreases-read_term l = 2 * (length l.input.now.bytes.now - l.at)

abbrev pub invariant-read_arguments-loop-len : goal.invariant-read_arguments-loop-len
invariant-read_arguments-loop-len l =
    Arguments l.input.format l.input.bytes.now l.limit l.initial.table l.at l.rows l.left l.arity l.label l.table l.args l.len l.from l.stored l.frames
