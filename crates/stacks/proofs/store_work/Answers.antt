-- `store_work` meets its contract.
use Rattle.stacks.proofs.Pushing.{work_pushed}
use Rattle.stacks.proofs.store_work.Goals as goal

pub returns : goal.returns
returns c =
    let a = c.args in
    work_pushed a.work.now c.requires.1 a.t a.op a.a a.b c.requires.0
