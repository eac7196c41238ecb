-- `expect_kind` meets its contract.
use mathlib.Core.Path.{refl, sym, ap}
use denote.Enum.Bare.{same_true, same_false}
use Rattle.std.specs.Prelude.{Ok}
use Rattle.expects.proofs.Tokens.{kind_got, kind_not, kind_number_inj}
use Rattle.expects.specs.Tokens.{kind_number}
use Rattle.token.specs.contracts.TokenKind.{the_type}
use Rattle.expects.proofs.expect_kind.Goals as goal

pub returns-then-eq : goal.returns-then-eq
returns-then-eq c = λ next at q. kind_got next c.args.wanted at (Ok c.args.t) q c.args.t refl (ap kind_number (same_true the_type _ _ _ (sym c.if-eq.ensures)))

pub returns : goal.returns
returns c = λ next at q. kind_not next c.args.wanted at (Ok c.args.t) q c.args.t refl (λ e. same_false the_type _ _ (sym c.if-eq.ensures) (kind_number_inj _ _ e)) c.at.result c.at.ensures
