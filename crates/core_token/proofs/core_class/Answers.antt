-- `core_token::core_class` meets its contract.
use mathlib.Core.Path.{sym, ap}
use mathlib.Core.Logic.{⊎_elim}
use native.Mathlib.Omega.{arith}
use Rattle.core_token.specs.CoreToken.{core_class}
use Rattle.core_token.proofs.Classes.{nine_ten, low_refused, high_refused, range_atom}
use Rattle.core_token.proofs.core_class.Goals as goal

pub returns-in-34 : goal.returns-in-34
unfolding core_class
returns-in-34 c = ap core_class (sym c.in-34.is)

pub returns-in-40 : goal.returns-in-40
unfolding core_class
returns-in-40 c = ap core_class (sym c.in-40.is)

pub returns-in-41 : goal.returns-in-41
unfolding core_class
returns-in-41 c = ap core_class (sym c.in-41.is)

pub returns-in-42-to-126 : goal.returns-in-42-to-126
returns-in-42-to-126 c = range_atom _ (omega arith) (omega arith) (λ q. omega arith) (λ q. omega arith) (λ q. omega arith) (λ q. omega arith)

pub returns-in_default : goal.returns-in_default
returns-in_default c = low_refused _ (omega arith) (λ q. omega arith) (λ q. omega arith) (λ q. omega arith) (λ q. omega arith)

pub returns-in_default-2 : goal.returns-in_default-2
returns-in_default-2 c = low_refused _ (omega arith) (λ q. grind arith) (λ q. grind arith) (λ q. grind arith) (λ q. grind arith)

pub returns-in_default-3 : goal.returns-in_default-3
returns-in_default-3 c = high_refused _ (omega arith)

pub returns-in-33-to-39 : goal.returns-in-33-to-39
returns-in-33-to-39 c = range_atom _ (omega arith) (omega arith) (λ q. omega arith) (λ q. omega arith) (λ q. omega arith) (λ q. omega arith)

pub returns-in-33-to-39-2 : goal.returns-in-33-to-39-2
returns-in-33-to-39-2 c = range_atom _ (omega arith) (omega arith) (λ q. grind arith) (λ q. grind arith) (λ q. grind arith) (λ q. grind arith)

pub returns-in-9 : goal.returns-in-9
unfolding core_class
returns-in-9 c = ⊎_elim (λ q. ap core_class (sym q)) (λ q. ap core_class (sym q)) c.in-9.is

pub returns-in-9-2 : goal.returns-in-9-2
returns-in-9-2 c = nine_ten _ (omega arith) (omega arith)
