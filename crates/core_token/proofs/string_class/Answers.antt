-- `core_token::string_class` meets its contract.
use mathlib.Core.Path.{sym, ap}
use native.Mathlib.Omega.{arith}
use Rattle.core_token.specs.CoreToken.{string_class}
use Rattle.core_token.proofs.Classes.{low_control, other_direct}
use Rattle.core_token.proofs.string_class.Goals as goal

pub returns-in-34 : goal.returns-in-34
unfolding string_class
returns-in-34 c = ap string_class (sym c.in-34.is)

pub returns-in-92 : goal.returns-in-92
unfolding string_class
returns-in-92 c = ap string_class (sym c.in-92.is)

pub returns-in-194 : goal.returns-in-194
unfolding string_class
returns-in-194 c = ap string_class (sym c.in-194.is)

pub returns-in-93-to-126 : goal.returns-in-93-to-126
returns-in-93-to-126 c = other_direct _ (omega arith) (λ q. omega arith) (λ q. omega arith) (λ q. omega arith) (λ q. omega arith)

pub returns-in_default : goal.returns-in_default
returns-in_default c = other_direct _ (omega arith) (λ q. omega arith) (λ q. omega arith) (λ q. omega arith) (λ q. omega arith)

pub returns-in_default-2 : goal.returns-in_default-2
returns-in_default-2 c = other_direct _ (omega arith) (λ q. omega arith) (λ q. omega arith) (λ q. omega arith) (λ q. omega arith)

pub returns-in-127 : goal.returns-in-127
unfolding string_class
returns-in-127 c = ap string_class (sym c.in-127.is)

pub returns-in-0-to-31 : goal.returns-in-0-to-31
returns-in-0-to-31 c = low_control _ (omega arith)
