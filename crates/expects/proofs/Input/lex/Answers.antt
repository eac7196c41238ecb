-- `expects::lex` meets its contract.
use Rattle.core_text.specs.TextReading.{text_edition}
use Rattle.expects.specs.declared.Format.{Format}
use Rattle.expects.proofs.Formats.{lexes, tokens_by}
use Rattle.expects.proofs.Input.lex.Goals as goal

pub returns-in-Core01 : goal.returns-in-Core01
unfolding text_edition
returns-in-Core01 c = tokens_by _ Format.Core01 c.in-Core01.is _ _ _ c.next_core_token.ensures

pub returns-in_default : goal.returns-in_default
returns-in_default c = lexes c.args.self.now.format c.in_default.not-Core01 _ _ _ c.next_token_by.ensures
