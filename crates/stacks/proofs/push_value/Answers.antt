-- `push_value` meets its contract.
use Rattle.stacks.proofs.Pushing.{value_pushed}
use Rattle.stacks.proofs.push_value.Goals as goal

pub returns : goal.returns
returns c =
    let a = c.args in
    value_pushed a.work.now c.requires.1 a.v a.value c.requires.0
