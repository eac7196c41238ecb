-- `token::class_table` meets its contract: the test of the whole table is computed.
use mathlib.Core.Path.{refl}
use Rattle.token.specs.Token.{byte_class}
use Rattle.token.specs.Classes.{class_number}
use Rattle.token.proofs.ClassTable.{all_right, class_table}
use Rattle.token.proofs.byte_classes.class_table.Goals as goal

pub returns : goal.returns
unfolding all_right class_number byte_class
returns c = class_table _ refl refl
