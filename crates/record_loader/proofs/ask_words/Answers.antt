-- `record_loader::ask_words` meets its contract: each question is lent the front of the words.
use mathlib.Core.Path.{refl, sym, subst}
use mathlib.Core.List.{List, ◌++◌}
use Prim.Native.Nat.{ℕ, ◌≤◌}
use native.Mathlib.Omega.{arith}
use lib.ListN.{length, take, drop}
use Rattle.surface.specs.Tables.{Tables, tables}
use Rattle.core_module.specs.CoreText.{ReadsCore, ReadsCanonical}
use Rattle.record_loader.specs.Recorded.{front}
use Rattle.record_loader.proofs.Fronts.{within, taken, left}
use Rattle.record_loader.proofs.Short.{all_read, all_besides}
use Rattle.record_loader.specs.declared.Question.{Question}
use Rattle.record_loader.specs.declared.Reply.{Reply}
use Rattle.record_loader.specs.Replies.{Replies}
use Rattle.record_loader.proofs.ask_words.Goals as goal

pub slice_bounds-load-end : goal.slice_bounds-load-end
slice_bounds-load-end c =
    let a = c.args in
    within a.count _ a.words.now c.word_limit-limit.ensures

pub slice_bounds-load-end-in-Load : goal.slice_bounds-load-end-in-Load
slice_bounds-load-end-in-Load c =
    let a = c.args in
    taken a.count _ a.words.now c.word_limit-limit.ensures

pub slice_bounds-parse_surface-end : goal.slice_bounds-parse_surface-end
slice_bounds-parse_surface-end c =
    let a = c.args in
    within a.count _ a.words.now c.word_limit-limit.ensures

pub slice_bounds-parse_surface-end-in-Parse : goal.slice_bounds-parse_surface-end-in-Parse
slice_bounds-parse_surface-end-in-Parse c =
    let a = c.args in
    taken a.count _ a.words.now c.word_limit-limit.ensures

pub slice_bounds-depends-end : goal.slice_bounds-depends-end
slice_bounds-depends-end c =
    let a = c.args in
    within a.count _ a.words.now c.word_limit-limit.ensures

pub slice_bounds-depends-end-in-Depends : goal.slice_bounds-depends-end-in-Depends
slice_bounds-depends-end-in-Depends c =
    let a = c.args in
    taken a.count _ a.words.now c.word_limit-limit.ensures

pub slice_bounds-print-end : goal.slice_bounds-print-end
slice_bounds-print-end c =
    let a = c.args in
    within a.count _ a.words.now c.word_limit-limit.ensures

pub slice_bounds-print-end-in-Print : goal.slice_bounds-print-end-in-Print
slice_bounds-print-end-in-Print c =
    let a = c.args in
    taken a.count _ a.words.now c.word_limit-limit.ensures

pub slice_bounds-read_core-end : goal.slice_bounds-read_core-end
slice_bounds-read_core-end c =
    let a = c.args in
    within a.count _ a.words.now c.word_limit-limit.ensures

pub slice_bounds-read_core-end-in-ReadCore : goal.slice_bounds-read_core-end-in-ReadCore
slice_bounds-read_core-end-in-ReadCore c =
    let a = c.args in
    taken a.count _ a.words.now c.word_limit-limit.ensures

pub slice_bounds-read_canonical-end : goal.slice_bounds-read_canonical-end
slice_bounds-read_canonical-end c =
    let a = c.args in
    within a.count _ a.words.now c.word_limit-limit.ensures

pub slice_bounds-read_canonical-end-in-ReadCanonical : goal.slice_bounds-read_canonical-end-in-ReadCanonical
slice_bounds-read_canonical-end-in-ReadCanonical c =
    let a = c.args in
    taken a.count _ a.words.now c.word_limit-limit.ensures

pub slice_bounds-binder-end : goal.slice_bounds-binder-end
slice_bounds-binder-end c =
    let a = c.args in
    within a.count _ a.words.now c.word_limit-limit.ensures

pub slice_bounds-binder-end-in-Binder : goal.slice_bounds-binder-end-in-Binder
slice_bounds-binder-end-in-Binder c =
    let a = c.args in
    taken a.count _ a.words.now c.word_limit-limit.ensures

pub returns-in-Load : goal.returns-in-Load
returns-in-Load c short =
    let a = c.args in
    let k = c.load-a in
    let w = c.word_limit-limit in
    let after : List ℕ → Tables = λ y. tables k.new.surface k.new.core y k.new.work in
    subst (λ (q : Question). Replies a.s.now q (tables a.surface.now a.core.now (front a.count a.words.now a.words.now) a.work.now) a.text.now (Reply.Loaded k.result) (after (front a.count a.words.now (k.new.declarations ++ drop w.result a.words.now))) a.text.now) (sym c.in-Load.is)
    (left a.count w.result a.words.now w.ensures k.new.declarations k.auto.declarations
    (λ x y. Replies a.s.now Question.Load (tables a.surface.now a.core.now x a.work.now) a.text.now (Reply.Loaded k.result) (after y) a.text.now)
    (refl, (k.ensures, refl)))

pub returns-in-Parse : goal.returns-in-Parse
returns-in-Parse c short =
    let a = c.args in
    let k = c.parse_surface-m in
    let w = c.word_limit-limit in
    let after : List ℕ → Tables = λ y. tables k.new.surface a.core.now y k.new.work in
    subst (λ (q : Question). Replies a.s.now q (tables a.surface.now a.core.now (front a.count a.words.now a.words.now) a.work.now) a.text.now (Reply.Parsed k.result) (after (front a.count a.words.now (k.new.declarations ++ drop w.result a.words.now))) a.text.now) (sym c.in-Parse.is)
    (left a.count w.result a.words.now w.ensures k.new.declarations k.auto.declarations
    (λ x y. Replies a.s.now Question.Parse (tables a.surface.now a.core.now x a.work.now) a.text.now (Reply.Parsed k.result) (after y) a.text.now)
    (refl, (k.ensures, refl, refl)))

pub returns-in-Depends : goal.returns-in-Depends
returns-in-Depends c short =
    let a = c.args in
    let k = c.depends-d in
    let w = c.word_limit-limit in
    let after : List ℕ → Tables = λ y. tables k.new.surface k.new.core y k.new.work in
    subst (λ (q : Question). Replies a.s.now q (tables a.surface.now a.core.now (front a.count a.words.now a.words.now) a.work.now) a.text.now (Reply.Depends k.result) (after (front a.count a.words.now (k.new.declarations ++ drop w.result a.words.now))) a.text.now) (sym c.in-Depends.is)
    (left a.count w.result a.words.now w.ensures k.new.declarations k.auto.declarations
    (λ x y. Replies a.s.now (Question.Depends c.in-Depends.i c.in-Depends.j) (tables a.surface.now a.core.now x a.work.now) a.text.now (Reply.Depends k.result) (after y) a.text.now)
    (refl, (k.ensures, refl)))

pub returns-in-Print : goal.returns-in-Print
returns-in-Print c short =
    let a = c.args in
    let k = c.print-p in
    let w = c.word_limit-limit in
    let after : List ℕ → Tables = λ y. tables k.new.surface k.new.core y k.new.work in
    subst (λ (q : Question). Replies a.s.now q (tables a.surface.now a.core.now (front a.count a.words.now a.words.now) a.work.now) a.text.now (Reply.Printed k.result) (after (front a.count a.words.now (k.new.declarations ++ drop w.result a.words.now))) k.new.text) (sym c.in-Print.is)
    (left a.count w.result a.words.now w.ensures k.new.declarations k.auto.declarations
    (λ x y. Replies a.s.now Question.Print (tables a.surface.now a.core.now x a.work.now) a.text.now (Reply.Printed k.result) (after y) k.new.text)
    (refl, k.ensures))

pub returns-in-ReadCore : goal.returns-in-ReadCore
returns-in-ReadCore c short =
    let a = c.args in
    let k = c.read_core-a in
    let w = c.word_limit-limit in
    let after : List ℕ → Tables = λ y. tables a.surface.now k.new.core y k.new.work in
    let lent = tables a.surface.now a.core.now (take w.result a.words.now) a.work.now in
    let fits : length lent.declarations ≤ 65535 = omega (arith, short, taken a.count w.result a.words.now w.ensures, within a.count w.result a.words.now w.ensures) in
    subst (λ (q : Question). Replies a.s.now q (tables a.surface.now a.core.now (front a.count a.words.now a.words.now) a.work.now) a.text.now (Reply.Read k.result) (after (front a.count a.words.now (k.new.declarations ++ drop w.result a.words.now))) a.text.now) (sym c.in-ReadCore.is)
    (left a.count w.result a.words.now w.ensures k.new.declarations k.auto.declarations
    (λ x y. Replies a.s.now Question.ReadCore (tables a.surface.now a.core.now x a.work.now) a.text.now (Reply.Read k.result) (after y) a.text.now)
    (refl, (all_read lent (after k.new.declarations) fits k.auto.declarations (λ x y. ReadsCore a.s.now x k.result y) k.ensures, all_besides lent (after k.new.declarations) fits k.auto.declarations refl, refl)))

pub returns-in-ReadCanonical : goal.returns-in-ReadCanonical
returns-in-ReadCanonical c short =
    let a = c.args in
    let k = c.read_canonical-a in
    let w = c.word_limit-limit in
    let after : List ℕ → Tables = λ y. tables a.surface.now k.new.core y k.new.work in
    let lent = tables a.surface.now a.core.now (take w.result a.words.now) a.work.now in
    let fits : length lent.declarations ≤ 65535 = omega (arith, short, taken a.count w.result a.words.now w.ensures, within a.count w.result a.words.now w.ensures) in
    subst (λ (q : Question). Replies a.s.now q (tables a.surface.now a.core.now (front a.count a.words.now a.words.now) a.work.now) a.text.now (Reply.Read k.result) (after (front a.count a.words.now (k.new.declarations ++ drop w.result a.words.now))) a.text.now) (sym c.in-ReadCanonical.is)
    (left a.count w.result a.words.now w.ensures k.new.declarations k.auto.declarations
    (λ x y. Replies a.s.now Question.ReadCanonical (tables a.surface.now a.core.now x a.work.now) a.text.now (Reply.Read k.result) (after y) a.text.now)
    (refl, (all_read lent (after k.new.declarations) fits k.auto.declarations (λ x y. ReadsCanonical a.s.now x k.result y) k.ensures, all_besides lent (after k.new.declarations) fits k.auto.declarations refl, refl)))

pub returns-in-Binder : goal.returns-in-Binder
returns-in-Binder c short =
    let a = c.args in
    let k = c.binder-b in
    let w = c.word_limit-limit in
    let after : List ℕ → Tables = λ y. tables k.new.surface k.new.core y k.new.work in
    subst (λ (q : Question). Replies a.s.now q (tables a.surface.now a.core.now (front a.count a.words.now a.words.now) a.work.now) a.text.now (Reply.Bound k.result) (after (front a.count a.words.now (k.new.declarations ++ drop w.result a.words.now))) a.text.now) (sym c.in-Binder.is)
    (left a.count w.result a.words.now w.ensures k.new.declarations k.auto.declarations
    (λ x y. Replies a.s.now (Question.Binder c.in-Binder.row) (tables a.surface.now a.core.now x a.work.now) a.text.now (Reply.Bound k.result) (after y) a.text.now)
    (refl, (k.ensures, refl)))
