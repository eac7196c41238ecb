-- `core_reader::read_version` meets its contract.
use Rattle.std.proofs.lemmas.Result.{err_from_is_err_and}
use Rattle.expects.proofs.Ahead.{natural_inside, inside_got}
use Rattle.core_reader.proofs.Lines.{natural_core, closing_core, major_refused, minor_refused, unclosed, version_got}
use Rattle.core_reader.proofs.read_version.Goals as goal

pub is_version-requires : goal.is_version-requires
is_version-requires c = record {
  major = inside_got _ _ _ (natural_inside c.args.input.now.format _ _ _ c.parse_natural.ensures) c.in_ok-major.was;
  minor = inside_got _ _ _ (natural_inside c.args.input.now.format _ _ _ c.parse_natural-2.ensures) c.in_ok-minor.was;
}

pub returns-in_err-major : goal.returns-in_err-major
returns-in_err-major c = let p = err_from_is_err_and c.from_residual.result c.from_residual.ensures.1 in rw (p.1, p.2) (major_refused _ _ _ (natural_core _ _ _ _ c.requires c.parse_natural.ensures) _ c.in_err-major.was)

pub returns-in_err-minor : goal.returns-in_err-minor
returns-in_err-minor c = let p = err_from_is_err_and c.from_residual-in_err-minor.result c.from_residual-in_err-minor.ensures.1 in rw (p.1, p.2) (minor_refused _ _ _ (natural_core _ _ _ _ c.requires c.parse_natural.ensures) _ c.in_ok-major.was _ (natural_core _ _ _ _ c.requires c.parse_natural-2.ensures) _ c.in_err-minor.was)

pub returns-in_err-close : goal.returns-in_err-close
returns-in_err-close c = let p = err_from_is_err_and c.from_residual-in_err-close.result c.from_residual-in_err-close.ensures.1 in rw (p.1, p.2) (unclosed _ _ _ (natural_core _ _ _ _ c.requires c.parse_natural.ensures) _ c.in_ok-major.was _ (natural_core _ _ _ _ c.requires c.parse_natural-2.ensures) _ c.in_ok-minor.was _ (closing_core _ _ _ _ c.requires c.expect_rparen.ensures) _ c.in_err-close.was)

pub returns : goal.returns
returns c = version_got _ _ _ (natural_core _ _ _ _ c.requires c.parse_natural.ensures) _ c.in_ok-major.was _ (natural_core _ _ _ _ c.requires c.parse_natural-2.ensures) _ c.in_ok-minor.was _ (closing_core _ _ _ _ c.requires c.expect_rparen.ensures) _ c.in_ok-close.was _ c.is_version.ensures
