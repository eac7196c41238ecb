-- `loader::clear_all` meets its contract.
use Rattle.loader.proofs.clear_all.Goals as goal

pub returns : goal.returns
returns c = record { surface_after = c.clear.ensures; core_after = c.clear-2.ensures; declarations_after = c.clear-3.ensures; work_after = c.clear-4.ensures }
