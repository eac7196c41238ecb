-- `Classes::new` meets the table's rule: the test of the whole table is computed.
use mathlib.Core.Path.{refl}
use Rattle.token.specs.Token.{byte_class}
use Rattle.token.specs.Classes.{class_number}
use Rattle.token.proofs.ClassTable.{all_right, class_table}
use Rattle.token.proofs.byte_classes.Classes.new.Goals as goal

pub invariant_of-result : goal.invariant_of-result
unfolding all_right class_number byte_class
invariant_of-result c = record { right = class_table _ refl refl }
