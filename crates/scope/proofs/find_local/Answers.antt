-- `find_local` meets its contract: the names passed are other names.
use Prim.Native.Nat.{ℕ, ◌+◌, ◌-◌, ◌*◌}
use mathlib.Core.Path.{◌≡◌, sym, ◌∙◌, ap, subst}
use native.Mathlib.Omega.{arith}
use lib.ListN.{get_or}
use Rattle.terms.specs.Label.{Name}
use Rattle.terms.specs.Lookup.{lookup}
use Rattle.scope.specs.Scope.{in_scope}
use Rattle.scope.proofs.Search.{longer}
use Rattle.scope.proofs.Locals.{Passed, hit, miss, passed_all, bound_other, bound_arrow, bound_so, innermost, no_local}
use Rattle.scope.proofs.find_local.Goals as goal
use Rattle.scope.proofs.find_local.Goals.{else-x-n-via-then-x-n+then-is_name+else-work-d-ne-ARROW, else-x-n-via-then-x-n+else-is_name, else-x-n-via-else-x-n}

pub returns-then-work-d-ne-ARROW : goal.returns-then-work-d-ne-ARROW
returns-then-work-d-ne-ARROW c =
    let x = c.atom-x in
    let a = c.args in
    hit x.result.now _ _ _ c.loop-count.invariant _ _ (innermost a.s.now a.work.now (a.depth - c.loop-count.count) (omega arith)) (bound_so (get_or a.work.now (1536 + (a.depth - c.loop-count.count - 1)) 0) x.result.now _ c.if-work-d-ne-ARROW.true (sym c.is_name.ensures ∙ c.if-is_name.true)) _ (omega arith)
    ∙ ap (λ (v : Name). lookup v (in_scope a.s.now a.work.now a.depth)) x.ensures

pub loop-count-preserved : goal.loop-count-preserved
loop-count-preserved c =
    let x = c.atom-x.result.now in
    let a = c.args in
    let k = c.loop-count.count in
    let q : a.depth - k - 1 ≡ a.depth - (k + 1) = omega arith in
    subst (λ (d : ℕ). Passed x (in_scope a.s.now a.work.now a.depth) (k + 1) (in_scope a.s.now a.work.now d)) q
    (miss x _ _ _ c.loop-count.invariant _ _ (innermost a.s.now a.work.now (a.depth - c.loop-count.count) (omega arith))
    (elim c.else-x-n.branch [
      | else-x-n-via-then-x-n+then-is_name+else-work-d-ne-ARROW w ↦ bound_arrow (get_or a.work.now (1536 + (a.depth - c.loop-count.count - 1)) 0) x _ w.if-work-d-ne-ARROW.false
      | else-x-n-via-then-x-n+else-is_name w ↦ bound_other (get_or a.work.now (1536 + (a.depth - c.loop-count.count - 1)) 0) x _ (sym w.is_name.ensures ∙ w.if-is_name.false)
      | else-x-n-via-else-x-n w ↦ bound_other (get_or a.work.now (1536 + (a.depth - c.loop-count.count - 1)) 0) x _ (longer x a.s.now (get_or a.work.now ((a.depth - c.loop-count.count - 1) * 2) 0) _ w.if-x-n.false)
    ]) _ (omega arith))

pub returns : goal.returns
returns c =
    let x = c.atom-x in
    let a = c.args in
    passed_all x.result.now _ _ _ c.loop-count.invariant (no_local a.s.now a.work.now (a.depth - c.loop-count.count) (omega arith))
    ∙ ap (λ (v : Name). lookup v (in_scope a.s.now a.work.now a.depth)) x.ensures
