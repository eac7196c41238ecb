-- `record_loader::ask_records` meets its contract: what is asked over words is asked over the list, which is left as its words would be.
use mathlib.Core.Path.{◌≡◌, sym, subst}
use mathlib.Core.List.{List}
use Prim.Native.Nat.{ℕ, ◌≤◌}
use native.Mathlib.Omega.{arith}
use Rattle.std.proofs.Math.ListN.{length, replicate}
use Rattle.std.proofs.lemmas.List.{length-replicate}
use Rattle.surface.specs.Tables.{tables}
use Rattle.records.specs.declared.Declaration.{Declaration}
use Rattle.records.specs.Records.{records_of}
use Rattle.record_loader.specs.declared.Question.{Question}
use Rattle.record_loader.specs.declared.Reply.{Reply}
use Rattle.record_loader.specs.Recorded.{list_words, front}
use Rattle.record_loader.specs.Replies.{Replies}
use Rattle.record_loader.proofs.Replying.{replies_left}
use Rattle.record_loader.proofs.ask_records.Goals as goal

-- The same about any words that were lent for the list, and what is written back.
over_list : (s surface core words words₁ work text : List ℕ) (list list₁ : List Declaration) (question : Question) (r : Reply) (surface₁ core₁ work₁ text₁ : List ℕ)
    → (length words ≤ 65535 → Replies s question (tables surface core (front (length list) words words) work) text r (tables surface₁ core₁ (front (length list) words words₁) work₁) text₁)
    → length words₁ ≡ length words → list₁ ≡ records_of words₁ (length list) → length words ≡ 65535
    → Replies s question (tables surface core (list_words list) work) text r (tables surface₁ core₁ (list_words list₁) work₁) text₁
over_list s surface core words words₁ work text list list₁ question r surface₁ core₁ work₁ text₁ asked kept left l =
    subst (λ t. Replies s question (tables surface core (list_words list) work) text r (tables surface₁ core₁ (list_words t) work₁) text₁) (sym left)
    (replies_left s surface core words words₁ work list l kept text r surface₁ core₁ work₁ text₁ question (asked (omega (arith, l))))

pub returns : goal.returns
returns c =
    let a = c.args in
    let k = c.ask_words-reply in
    over_list a.s.now a.surface.now a.core.now (replicate 65535 0) k.new.words a.work.now a.text.now a.declarations.now c.write_records.new.list a.question k.result k.new.surface k.new.core k.new.work k.new.text
    k.ensures k.auto.words c.write_records.ensures (length-replicate {A = ℕ} 65535 0)
