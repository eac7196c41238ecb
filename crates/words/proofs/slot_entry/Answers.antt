-- `words::slot_entry` meets its contract: each arm is the entry of its slot.
use native.Mathlib.Omega.{arith}
use Rattle.words.proofs.Slots.{entry_behind}
use Rattle.words.proofs.slot_entry.Goals as goal

pub returns-in_default : goal.returns-in_default
returns-in_default c = entry_behind _ (omega arith)
