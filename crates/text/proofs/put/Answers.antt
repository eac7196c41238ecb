-- `text::put` meets its contract.
use Rattle.std.proofs.Common.{ℕ, ◌∙◌, sym, ap, arith}
use native.Mathlib.Nat.{add-zero}
use lib.Seq.{sets}
use Rattle.text.proofs.Putting.{put_start, put_more, put_all}
use Rattle.text.proofs.Writing.{sets_out}
use Rattle.text.proofs.put.Goals as goal

pub returns-then-out-at : goal.returns-then-out-at
returns-then-out-at c =
    let a = c.args in
    record { out_after = sym (sets_out a.bytes.now a.out.now a.at (omega arith)); value = omega arith }

pub loop-byte-init : goal.loop-byte-init
loop-byte-init c =
    let a = c.args in
    let s = put_start a.out.now a.at a.bytes.now in
    (ap (λ (k : ℕ). sets a.out.now k a.bytes.now) (sym (add-zero a.at)), omega (arith, c.if-out-at.false), s.2, s.3)

pub loop-byte-preserved : goal.loop-byte-preserved
loop-byte-preserved c =
    let k = c.put_byte-behind in
    let l = c.loop-byte in
    let a = c.args in
    let m = put_more a.out.now a.at a.bytes.now l.out l.behind l.byte-index k.new.out (omega arith) l.invariant k.ensures.out_after in
    (m.0, k.ensures.value ∙ m.1, m.2, m.3)

pub returns : goal.returns
returns c =
    let l = c.loop-byte in
    let a = c.args in
    let whole = put_all a.out.now a.at a.bytes.now l.out l.behind l.byte-index (omega arith) l.invariant in
    record { out_after = whole.0; value = whole.1 }
