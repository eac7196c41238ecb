-- `loader::load_tables` meets its contract.
use Rattle.std.proofs.lemmas.Result.{err_from_is_err_and}
use Rattle.loader.proofs.Stored.{refused_stores, resolved_stores}
use Rattle.loader.proofs.load_tables.Goals as goal

pub returns-in_err-read : goal.returns-in_err-read
returns-in_err-read g c =
    let a = c.args in
    let k = c.parse in
    let p = err_from_is_err_and c.from_residual.result c.from_residual.ensures.1 in
    let whole = refused_stores a.s.now a.surface.now a.core.now a.declarations.now a.work.now k.new.surface k.new.declarations k.result k.ensures _ a.core.now c.in_err-read.was in
    rw (p.1, p.2) (record { stores = whole.0; counts = whole.1 })

pub returns : goal.returns
returns g c =
    let a = c.args in
    let k = c.parse in
    let v = c.resolve in
    let whole = resolved_stores a.s.now a.surface.now a.core.now a.declarations.now a.work.now k.new.surface k.new.declarations k.result k.ensures
    k.new.work k.auto.work _ _ c.in_ok-read.was v.result v.new.core v.ensures in
    record { stores = whole.0; counts = whole.1 }
