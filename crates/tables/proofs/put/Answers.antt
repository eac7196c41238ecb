-- `tables::put` meets its contract.
use Rattle.std.proofs.Common.{◌+◌, ◌∙◌, arith, rules}
use lib.ListN.{length-set}
use Rattle.tables.proofs.Storing.{store_more}
use Rattle.tables.proofs.put.Goals as goal

pub loop-i-preserved : goal.loop-i-preserved
loop-i-preserved c = (
  store_more c.args.t.now c.args.at c.args.words.now (omega arith) c.loop-i.t c.loop-i.i (search rules) c.loop-i.invariant.0,
  length-set c.loop-i.t (c.args.at + c.loop-i.i) _ ∙ c.loop-i.invariant.1,
)
