-- `expects::kind_at` meets its contract: the words from 7 on stand in the order of their kinds.
use Prim.Native.Nat.{◌-◌}
use mathlib.Core.Path.{refl, sym, ap}
use native.Mathlib.Omega.{arith}
use Rattle.words.specs.Words.{same_bytes, reserved_words}
use Rattle.terms.specs.Forms.{forms, form_of_word}
use Rattle.expects.specs.FormOfWord.{form_at, kind_of}
use Rattle.expects.proofs.Indices.{same_value}
use Rattle.expects.proofs.kind_at.Goals as goal

pub returns-then-k-eq6 : goal.returns-then-k-eq6
unfolding form_at forms form_of_word same_bytes reserved_words
returns-then-k-eq6 c = ap (λ k. kind_of (form_at k)) (sym c.if-k-eq6.true)

pub returns-else-k-eq6 : goal.returns-else-k-eq6
unfolding form_at forms form_of_word same_bytes reserved_words
returns-else-k-eq6 c = same_value (λ k. k - 4) (λ k. kind_of (form_at k)) 7 21 c.args.k refl (omega arith) (omega arith)
