-- `expects::unnamed` meets its contract.
use Rattle.expects.proofs.CoreForms.{unnamed_other}
use Rattle.expects.proofs.unnamed.Goals as goal

pub returns-in_default : goal.returns-in_default
returns-in_default c = unnamed_other _ c.in_default.not-WithName c.in_default.not-Binding
