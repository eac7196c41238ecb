-- `core_layout::is_gap` meets its contract: the gap by the flag and the kind.
use mathlib.Core.Path.{refl, sym, ap, ◌∙◌}
use Rattle.core_layout.proofs.Gaps.{by_gap, by_space}
use Rattle.words.specs.Words.{same_bytes}
use Rattle.core_layout.proofs.is_gap.Goals as goal

pub returns-then-tight : goal.returns-then-tight
returns-then-tight c = c.is_nothing.ensures ∙ by_gap _ c.if-tight.true refl

pub returns-in-RParen : goal.returns-in-RParen
returns-in-RParen c = c.is_nothing-in-RParen.ensures ∙ by_gap _ c.if-tight.false c.in-RParen.is

pub returns-in-Eof : goal.returns-in-Eof
returns-in-Eof c = c.is_byte.ensures ∙ by_gap _ c.if-tight.false c.in-Eof.is

pub returns-in_default-2 : goal.returns-in_default-2
returns-in_default-2 c = c.is_byte-in_default-2.ensures ∙ ap (same_bytes _) (sym (by_space c.if-tight.false c.in_default-2.not-RParen c.in_default-2.not-Eof))
