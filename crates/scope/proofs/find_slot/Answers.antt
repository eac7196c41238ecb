-- `find_slot` meets its contract: what has the name lies ahead of the slot where the walk is, and slots rise on the way.
use Prim.Native.Nat.{ℕ, ◌+◌, ◌-◌, ◌*◌}
use mathlib.Core.Path.{◌≡◌, sym, ◌∙◌, subst}
use native.Mathlib.Omega.{arith}
use lib.ListN.{get_or}
use Rattle.scope.specs.Index.{heads}
use Rattle.scope.proofs.Index.{marked, Walked, walk_begins, walk_ends, walk_goes_on, walk_hits}
use Rattle.scope.proofs.find_slot.Goals as goal

pub loop-d-init : goal.loop-d-init
loop-d-init c =
    let a = c.args in
    let m = c.mix-m.ensures in (
      omega arith,
      omega arith,
      subst (Walked a.s.now a.declarations.now a.x.now a.d a.index.now 0) (sym (marked _ _ m.0))
          (walk_begins a.s.now a.declarations.now a.x.now a.d a.index.now (c.requires.2.entered c.requires.1 c.requires.0)),
    )

pub returns-then-e-eq0 : goal.returns-then-e-eq0
returns-then-e-eq0 c =
    let a = c.args in
    walk_ends a.s.now a.declarations.now a.x.now a.d a.index.now (c.requires.2.entered c.requires.1 c.requires.0) c.loop-d.i c.loop-d.slot c.loop-d.invariant.2 c.requires.1 c.requires.0 c.loop-d.invariant.1 c.if-e-eq0.true

pub returns-then-is_name : goal.returns-then-is_name
returns-then-is_name c =
    let a = c.args in
    walk_hits a.s.now a.declarations.now a.x.now a.d a.index.now (c.requires.2.entered c.requires.1 c.requires.0) c.loop-d.i c.loop-d.slot c.loop-d.invariant.2 _ (let z : get_or a.index.now c.loop-d.slot 0 ≡ get_or a.index.now c.loop-d.slot 0 - 1 + 1 = omega arith in z)
    (sym c.is_name.ensures ∙ c.if-is_name.true)

pub loop-d-preserved : goal.loop-d-preserved
loop-d-preserved c =
    let a = c.args in
    let e = c.requires.2.entered c.requires.1 c.requires.0 in
    let z : get_or a.index.now c.loop-d.slot 0 ≡ get_or a.index.now c.loop-d.slot 0 - 1 + 1 = omega arith in (
      omega (arith, e.few c.loop-d.slot, e.rising c.loop-d.slot (omega arith)),
      omega (arith, e.few c.loop-d.slot),
      subst (λ (b : ℕ). Walked a.s.now a.declarations.now a.x.now a.d a.index.now (c.loop-d.i + 1) (heads + 2 * (get_or a.index.now c.loop-d.slot 0 - 1) + b)) (sym c.bit.ensures.0)
          (walk_goes_on a.s.now a.declarations.now a.x.now a.d a.index.now e c.loop-d.i c.loop-d.slot c.loop-d.invariant.2 _ z (sym c.is_name.ensures ∙ c.if-is_name.false)),
    )
