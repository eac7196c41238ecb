-- `Input::parse_identifier` meets its contract.
use mathlib.Core.Path.{sym, ap, ◌∙◌}
use Rattle.expects.specs.Formats.{edition}
use Rattle.expects.proofs.Identifiers.{word_name, word_within, name_behind}
use Rattle.expects.proofs.Input.parse_identifier.Goals as goal

pub text-requires : goal.text-requires
text-requires c = word_within c.args.self.now.format _ c.blank_end-start.result _ c.in-Some.ensures

pub returns-in-Some : goal.returns-in-Some
returns-in-Some c = word_name c.args.self.now.format c.args.self.now.bytes.now c.blank_end-start.result c.in-Some.t c.in-Some.ensures c.args.at c.blank_end-start.ensures (ap (edition c.args.self.now.format).reserved (sym c.text.ensures) ∙ sym c.is_reserved.ensures ∙ c.if-not-is_reserved.true)

pub returns-in_default : goal.returns-in_default
returns-in_default c = name_behind (edition c.args.self.now.format) _ _ _ c.blank_end-start.ensures c.tested_identifier.result c.tested_identifier.ensures
