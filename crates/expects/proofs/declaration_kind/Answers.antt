-- `expects::declaration_kind` meets its contract: the words of declarations stand in the order of their kinds.
use Prim.Native.Nat.{◌-◌}
use mathlib.Core.Path.{refl, ◌∙◌}
use native.Mathlib.Omega.{arith}
use Rattle.words.specs.Words.{same_bytes, reserved_words}
use Rattle.words.proofs.Reserved.{word}
use Rattle.surface.specs.Reading.{declaration_kind}
use Rattle.expects.proofs.Indices.{index_low, same_value, kind_by_index}
use Rattle.expects.proofs.declaration_kind.Goals as goal

pub returns-then-k-lt3 : goal.returns-then-k-lt3
unfolding declaration_kind same_bytes reserved_words
returns-then-k-lt3 c = same_value (λ k. 0) (λ k. declaration_kind (word k)) 0 3 _ refl (omega arith) c.if-k-lt3.true ∙ kind_by_index _ _ c.word_index-k.ensures

pub returns-then-k-gt5 : goal.returns-then-k-gt5
unfolding declaration_kind same_bytes reserved_words
returns-then-k-gt5 c = same_value (λ k. 0) (λ k. declaration_kind (word k)) 6 22 _ refl c.if-k-gt5.true (index_low _ _ c.word_index-k.ensures) ∙ kind_by_index _ _ c.word_index-k.ensures

pub returns : goal.returns
unfolding declaration_kind same_bytes reserved_words
returns c = same_value (λ k. k - 2) (λ k. declaration_kind (word k)) 3 3 _ refl c.if-k-lt3.false (omega arith) ∙ kind_by_index _ _ c.word_index-k.ensures
