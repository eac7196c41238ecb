-- `record_list::ask_list` meets its contract: the list holds 256 used records, and its words are handed out.
use Rattle.std.proofs.Common.{replicate}
use mathlib.Core.Path.{subst}
use Rattle.surface.specs.Tables.{tables}
use Rattle.records.specs.declared.Declaration.{Declaration}
use Rattle.record_loader.specs.Recorded.{list_words}
use Rattle.record_loader.specs.Replies.{Replies}
use Rattle.record_list.specs.Left.{useds}
use Rattle.record_list.proofs.ask_list.Goals as goal

pub returns : goal.returns
unfolding useds
returns c =
    let a = c.args in
    let k = c.ask_records-reply in
    record {
      list = k.new.declarations;
      replies = subst (λ (d : Declaration). Replies a.s.now a.question (tables a.surface.now a.core.now (list_words (replicate 256 d)) a.work.now) a.text.now k.result (tables k.new.surface k.new.core (list_words k.new.declarations) k.new.work) k.new.text) c.used_record-list.ensures k.ensures;
      words_out = c.write_words.ensures;
    }
