-- `core_reader::theory_line` meets its contract.
use mathlib.Core.Path.{sym, ap, ◌∙◌}
use mathlib.Core.Bool.{Bool, ◌&&◌}
use native.Mathlib.Omega.{arith}
use Rattle.std.proofs.lemmas.Result.{err_from_is_err_and}
use Rattle.expects.proofs.Ahead.{names_got}
use Rattle.core_reader.proofs.Lines.{tag_core, names_core, theory_refused, unnamed, version_refused, theory_got}
use Rattle.core_reader.proofs.theory_line.Goals as goal

pub is_theory-requires : goal.is_theory-requires
is_theory-requires c =
    let a = names_got c.args.input.now.format _ _ _ c.parse_name.ensures _ _ c.in_ok-name.was 0 in
    record { order = a.order; high = omega (arith, a.inside, a.ahead.high) }

pub returns-in_err-w : goal.returns-in_err-w
returns-in_err-w c = let p = err_from_is_err_and c.from_residual.result c.from_residual.ensures.1 in rw (p.1, p.2) (theory_refused _ _ _ (tag_core _ _ _ _ _ c.requires c.expect_tag.ensures) _ c.in_err-w.was)

pub returns-in_err-name : goal.returns-in_err-name
returns-in_err-name c = let p = err_from_is_err_and c.from_residual-in_err-name.result c.from_residual-in_err-name.ensures.1 in rw (p.1, p.2) (unnamed _ _ _ (tag_core _ _ _ _ _ c.requires c.expect_tag.ensures) _ c.in_ok-w.was _ (names_core _ _ _ _ c.requires c.parse_name.ensures) _ c.in_err-name.was)

pub returns-in_err-supported : goal.returns-in_err-supported
returns-in_err-supported c = let p = err_from_is_err_and c.from_residual-in_err-supported.result c.from_residual-in_err-supported.ensures.1 in rw (p.1, p.2) (version_refused _ _ _ (tag_core _ _ _ _ _ c.requires c.expect_tag.ensures) _ c.in_ok-w.was _ (names_core _ _ _ _ c.requires c.parse_name.ensures) _ _ c.in_ok-name.was c.read_version.result c.read_version.ensures _ c.in_err-supported.was)

pub returns-then-is_theory : goal.returns-then-is_theory
returns-then-is_theory c =
    theory_got _ _ _ (tag_core _ _ _ _ _ c.requires c.expect_tag.ensures) _ c.in_ok-w.was _ (names_core _ _ _ _ c.requires c.parse_name.ensures) _ _ c.in_ok-name.was c.read_version.result c.read_version.ensures _ _ c.in_ok-supported.was
    _ (ap (λ (b : Bool). b && c.in_ok-supported.supported) (sym c.if-is_theory.true ∙ c.is_theory.ensures))

pub returns-else-is_theory : goal.returns-else-is_theory
returns-else-is_theory c =
    theory_got _ _ _ (tag_core _ _ _ _ _ c.requires c.expect_tag.ensures) _ c.in_ok-w.was _ (names_core _ _ _ _ c.requires c.parse_name.ensures) _ _ c.in_ok-name.was c.read_version.result c.read_version.ensures _ _ c.in_ok-supported.was
    _ (c.if-is_theory.false ∙ ap (λ (b : Bool). b && c.in_ok-supported.supported) (sym c.if-is_theory.false ∙ c.is_theory.ensures))
