-- `words::is_reserved` meets its contract.
use Prim.Native.Nat.{ℕ}
use mathlib.Core.Path.{ap}
use mathlib.Core.Bool.{not}
use lib.Dec.{eqb}
use Rattle.words.specs.Words.{reserved}
use Rattle.words.proofs.is_reserved.Goals as goal

pub returns : goal.returns
unfolding reserved
returns c = ap (λ (k : ℕ). not (eqb k 0)) c.word_index.ensures
