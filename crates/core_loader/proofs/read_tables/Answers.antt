-- `core_loader::read_tables` meets its contract.
use Rattle.token.specs.declared.Class.{Class}
use Rattle.std.specs.Prelude.{Err}
use mathlib.Core.Path.{sym, ap, ◌∙◌}
use mathlib.Core.List.{[]}
use native.Mathlib.Omega.{arith}
use Rattle.utf8.specs.Utf8.{valid_length}
use Rattle.surface.specs.Reader.{nowhere, at_offset}
use Rattle.surface.specs.Tables.{tables, lengths}
use Rattle.core_loader.proofs.Tests.{text_area, text_long, text_broken, text_marked, text_whole}
use Rattle.core_loader.proofs.Stored.{stops, stored}
use Rattle.core_loader.proofs.read_tables.Goals as goal

pub returns-then-work-lt16384 : goal.returns-then-work-lt16384
returns-then-work-lt16384 c =
    let whole = let a = c.args in
    let z = lengths (tables [] a.core.now a.declarations.now a.work.now) in
    stops _ _ _ _ _ _ (nowhere Class.WorkShort) (text_area a.t.now z (omega arith)) (ap Err c.nowhere.ensures) in record { stores_text = whole.0; counts_text = whole.1 }

pub returns-then-t-gt4294967295 : goal.returns-then-t-gt4294967295
returns-then-t-gt4294967295 c =
    let whole = let a = c.args in
    let z = lengths (tables [] a.core.now a.declarations.now a.work.now) in
    stops _ _ _ _ _ _ (nowhere Class.LongSource) (text_long a.t.now z (omega arith) (omega arith)) (ap Err c.nowhere-then-t-gt4294967295.ensures) in record { stores_text = whole.0; counts_text = whole.1 }

pub returns-then-valid-t : goal.returns-then-valid-t
returns-then-valid-t c =
    let whole = let a = c.args in
    let z = lengths (tables [] a.core.now a.declarations.now a.work.now) in
    let v = c.valid_up_to-valid.ensures in
    stops _ _ _ _ _ _ (at_offset Class.CoreText (valid_length a.t.now)) (text_broken a.t.now z (omega arith) (omega arith) (λ h. c.if-valid-t.true (v ∙ h)))
    (ap Err (c.at.ensures ∙ ap (at_offset Class.CoreText) v)) in record { stores_text = whole.0; counts_text = whole.1 }

pub returns-then-starts_with_mark : goal.returns-then-starts_with_mark
returns-then-starts_with_mark c =
    let whole = let a = c.args in
    let z = lengths (tables [] a.core.now a.declarations.now a.work.now) in
    let v = sym c.valid_up_to-valid.ensures ∙ c.if-valid-t.false in
    stops _ _ _ _ _ _ (at_offset Class.CoreText 0) (text_marked a.t.now z (omega arith) (omega arith) v (sym c.starts_with_mark.ensures ∙ c.if-starts_with_mark.true))
    (ap Err c.at-then-starts_with_mark.ensures) in record { stores_text = whole.0; counts_text = whole.1 }

pub returns : goal.returns
returns c =
    let whole = let k = c.read_text-read in
    let a = c.args in
    let z = lengths (tables [] a.core.now a.declarations.now a.work.now) in
    let v = sym c.valid_up_to-valid.ensures ∙ c.if-valid-t.false in
    stored a.t.now a.core.now a.declarations.now a.work.now k.new.table k.new.list k.auto.list
    (text_whole a.t.now z (omega arith) (omega arith) v (sym c.starts_with_mark.ensures ∙ c.if-starts_with_mark.false))
    k.result (k.ensures (omega arith) (omega arith)) c.judge.result c.judge.ensures in record { stores_text = whole.0; counts_text = whole.1 }
