-- `surface_line` meets its contract.
use Rattle.std.proofs.lemmas.Result.{err_from_is_err_and}
use Rattle.expects.proofs.Ahead.{natural_inside, inside_got}
use Rattle.expects.proofs.Identifiers.{tag_own, natural_own}
use Rattle.expects.proofs.Lines.{surface_refused, major_refused, minor_refused, surface_got}
use Rattle.expects.proofs.surface_line.Goals as goal

pub close_version-requires : goal.close_version-requires
close_version-requires c = record { major = inside_got _ _ _ (natural_inside c.args.input.now.format _ _ _ c.parse_natural.ensures) c.in_ok-major.was; minor = inside_got _ _ _ (natural_inside c.args.input.now.format _ _ _ c.parse_natural-2.ensures) c.in_ok-minor.was }

pub returns-in_err-w : goal.returns-in_err-w
returns-in_err-w c = let p = err_from_is_err_and c.from_residual.result c.from_residual.ensures.1 in rw (p.1, p.2) (λ q. surface_refused _ _ (tag_own c.args.input.now.format _ _ _ q _ c.expect_tag.ensures) _ c.in_err-w.was)

pub returns-in_err-major : goal.returns-in_err-major
returns-in_err-major c = let p = err_from_is_err_and c.from_residual-in_err-major.result c.from_residual-in_err-major.ensures.1 in rw (p.1, p.2) (λ q. major_refused _ _ (tag_own c.args.input.now.format _ _ _ q _ c.expect_tag.ensures) _ c.in_ok-w.was _ (natural_own c.args.input.now.format _ _ q _ c.parse_natural.ensures) _ c.in_err-major.was)

pub returns-in_err-minor : goal.returns-in_err-minor
returns-in_err-minor c = let p = err_from_is_err_and c.from_residual-in_err-minor.result c.from_residual-in_err-minor.ensures.1 in rw (p.1, p.2) (λ q. minor_refused _ _ (tag_own c.args.input.now.format _ _ _ q _ c.expect_tag.ensures) _ c.in_ok-w.was _ (natural_own c.args.input.now.format _ _ q _ c.parse_natural.ensures) _ c.in_ok-major.was _ (natural_own c.args.input.now.format _ _ q _ c.parse_natural-2.ensures) _ c.in_err-minor.was)

pub returns : goal.returns
returns c = λ q. surface_got _ _ (tag_own c.args.input.now.format _ _ _ q _ c.expect_tag.ensures) _ c.in_ok-w.was _ (natural_own c.args.input.now.format _ _ q _ c.parse_natural.ensures) _ c.in_ok-major.was _ (natural_own c.args.input.now.format _ _ q _ c.parse_natural-2.ensures) _ c.in_ok-minor.was _ (c.close_version.ensures q)
