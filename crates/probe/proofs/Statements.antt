-- The numbers of a token: a byte is refused with 1 at its offset, wherever it stands.
use Rattle.token.specs.Token.{Lexed}
use mathlib.Core.Path.{◌≡◌, refl}
use Rattle.token.proofs.Outcomes.{every_token}
use Rattle.surface.specs.Reports.{report_token}
use Rattle.probe.specs.Numbers.{kind_number, start_number, end_number}
use Rattle.probe.specs.Statements.{told, TokenReports}

abbrev Told : Lexed → Type 0
Told l = report_token l ≡ told (kind_number l) (start_number l) (end_number l)

pub token_reports : TokenReports
token_reports = every_token Told (λ a e. refl) (λ a e. refl) (λ a e. refl) (λ a e. refl) (λ p. refl)
