-- `loader::parse` meets its contract.
use Rattle.std.proofs.lemmas.Result.{err_from_is_err_and}
use mathlib.Core.Path.{refl}
use mathlib.Core.List.{[]}
use native.Mathlib.Omega.{arith}
use Rattle.loader.specs.Leaving.{lengths_of}
use Rattle.loader.proofs.Parsing.{stops, same_reads}
use Rattle.loader.proofs.parse.Goals as goal

pub returns-in_err-test_source : goal.returns-in_err-test_source
returns-in_err-test_source g c =
    let a = c.args in
    let z = lengths_of a.surface.now [] a.declarations.now a.work.now in
    let p = err_from_is_err_and c.from_residual.result c.from_residual.ensures.1 in
    rw (p.1, p.2) (stops _ _ _ _ _ _ _ (c.in_err-test_source.ensures z refl) refl)

pub returns : goal.returns
returns g c =
    let a = c.args in
    let z = lengths_of a.surface.now [] a.declarations.now a.work.now in
    let tests = c.in_ok-test_source.ensures in
    same_reads _ _ _ _ _ _ _ (tests.reads z refl) (c.read_module.ensures (omega (arith, tests.short)) (omega (arith, tests.area)))
