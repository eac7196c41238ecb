-- `Input::word_at` meets its contract.
use mathlib.Core.Path.{refl}
use Rattle.expects.proofs.Input.word_at.Goals as goal

pub returns-then-at-end : goal.returns-then-at-end
returns-then-at-end c = let x = c.name_end-end.ensures c.if-at-end.true in record { kind = refl; start = refl; some = c.if-at-end.true; of_source = x.0; name = x.1 }
