-- The number and values of what `parse_surface` answers: by its promise they are what reading gives. Either reader leaves what the one
-- definition gives.
use mathlib.Core.Path.{◌≡◌, refl, sym, ap, ◌∙◌}
use mathlib.Core.List.{List}
use Rattle.terms.specs.Label.{Declaration}
use Rattle.surface.specs.Reader.{start, Result, done, refused}
use Rattle.surface.specs.Tables.{Lengths, lengths}
use Rattle.surface.specs.Loading.{parsing, load}
use Rattle.surface.specs.Statements.{loading_reports}
use Rattle.loader.specs.Parsed.{Parsed, parsed, parse, report_read}
use Rattle.loader.specs.Statements.{ParseReports, EitherReader}

reports : (z : Lengths) (o : Result (List Declaration)) → report_read (parsed z o).answer ≡ loading_reports o
reports z (refused r) = refl
reports z (done ds p) = refl

pub parse_reports : ParseReports
unfolding parse
parse_reports s before a after e = ap (λ (o : Parsed). report_read o.answer) e ∙ reports (lengths before) (parsing s (lengths before) start)

pub either_reader : EitherReader
either_reader s before₁ before₂ after₁ after₂ e = (λ a b h k. h ∙ ap (load s) e ∙ sym k, λ a b h k. h ∙ ap (parse s) e ∙ sym k)
