-- `core_loader::told` meets its contract.
use mathlib.Core.Path.{ap}
use Rattle.token.specs.declared.Class.{Class}
use Rattle.core_loader.proofs.told.Goals as goal

pub returns : goal.returns
returns c = ap (λ (k : Class). record { class = k; place = c.args.refusal.place }) c.told_class.ensures
