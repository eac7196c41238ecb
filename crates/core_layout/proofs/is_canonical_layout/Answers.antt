-- `core_layout::is_canonical_layout` meets its contract. The loop's invariant: the layout of the whole text is that of the tokens from here on.
-- The measure is what is left of the text.
use mathlib.Core.Path.{sym, ◌∙◌}
use native.Mathlib.Omega.{arith}
use borrow.Author.Tests.{not-true, not-false}
use Rattle.core_layout.proofs.Scan.{end_is, open_is, scan_start, scan_refused, scan_token, scan_gap, scan_end, scan_less, scan_on}
use Rattle.core_layout.proofs.is_canonical_layout.Goals as goal

pub loop-token-init : goal.loop-token-init
loop-token-init c = scan_start _

pub returns-in_default : goal.returns-in_default
returns-in_default c = sym (scan_refused _ _ _ c.loop-token.invariant _ (sym c.next_core_token.ensures ∙ c.in_default.is))

pub is_gap-requires : goal.is_gap-requires
is_gap-requires c = scan_token _ _ _ c.loop-token.invariant _ (sym c.next_core_token.ensures ∙ c.in-Ok.is)

pub returns-then-not-is_gap : goal.returns-then-not-is_gap
returns-then-not-is_gap c = sym (scan_gap _ _ _ c.loop-token.invariant _ (sym c.next_core_token.ensures ∙ c.in-Ok.is) (sym c.is_gap.ensures ∙ not-true _ c.if-not-is_gap.true-raw))

pub returns-then-eq : goal.returns-then-eq
returns-then-eq c = sym (scan_end _ _ _ c.loop-token.invariant _ (sym c.next_core_token.ensures ∙ c.in-Ok.is) (sym c.is_gap.ensures ∙ not-false _ c.if-not-is_gap.false-raw) (sym (end_is _) ∙ sym c.eq.ensures ∙ c.if-eq.true))

pub loop-token-smaller : goal.loop-token-smaller
loop-token-smaller c =
    let b = scan_less _ _ _ c.loop-token.invariant _ (sym c.next_core_token.ensures ∙ c.in-Ok.is) (sym (end_is _) ∙ sym c.eq.ensures ∙ c.if-eq.false) in
    omega (arith, b.0, b.1)

pub loop-token-preserved : goal.loop-token-preserved
loop-token-preserved c =
    rw (c.eq-tight.ensures ∙ open_is _) (scan_on _ _ _ c.loop-token.invariant _ (sym c.next_core_token.ensures ∙ c.in-Ok.is) (sym (end_is _) ∙ sym c.eq.ensures ∙ c.if-eq.false)
    (sym c.is_gap.ensures ∙ not-false _ c.if-not-is_gap.false-raw))
