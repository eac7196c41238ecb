-- The statements of dependence/specs/Statements.antt, proved.
use Rattle.token.specs.declared.Class.{Class}
use mathlib.Core.Path.{◌≡◌, refl, sym, ap, ◌∙◌, subst}
use mathlib.Core.Logic.{◌↔◌}
use mathlib.Core.Bool.{◌&&◌}
use mathlib.Core.List.{List, []}
use mathlib.Core.Option.{Option, none, some}
use Prim.Native.Nat.{ℕ}
use native.Mathlib.Omega.{arith}
use lib.Dec.{ltb}
use lib.ListN.{length}
use Rattle.terms.specs.Label.{Declaration}
use Rattle.terms.specs.Resolution.{CoreDeclaration, resolve_module}
use Rattle.surface.specs.Tables.{Lengths, Tables, lengths, Left}
use Rattle.surface.specs.Reader.{Position, start, Result, done, refused, nowhere}
use Rattle.surface.specs.Reports.{accepted}
use Rattle.surface.proofs.Steps.{after_elim, require_elim, done_inj}
use Rattle.surface.specs.Loading.{loading}
use Rattle.dependence.specs.Answer.{Dependence}
use Rattle.dependence.specs.Depends.{itself}
use Rattle.dependence.specs.First.{first_mention}
use Rattle.dependence.specs.Asks.{asking, shown, answer_of, ask, report_dependence}
use Rattle.dependence.specs.Statements.{Accepted, NamesEarlier, ShowsUpwards, DependsOnEarlier, ShowsRule, ShowsExactly, FirstExactly, NoneExactly, Says, AnswersExactly, TypeFirst, MentionQualifies, row_values, asking_reports, AskReports}
use Rattle.dependence.proofs.Counted.{either_own}
use Rattle.dependence.proofs.Earlier.{Earlier, loaded_earlier}
use Rattle.dependence.proofs.Showing as showing
use Rattle.dependence.proofs.First as first

accepted_earlier : (m : List CoreDeclaration) → Accepted m → Earlier m
accepted_earlier m a = subst Earlier (sym a.5) (loaded_earlier a.0 a.1 a.2 a.3 a.4)

pub names_earlier : NamesEarlier
names_earlier m a i p r h = accepted_earlier m a i p r (either_own m i p r h)

pub shows_upwards : ShowsUpwards
shows_upwards m a j k h = showing.shows_upwards m j (accepted_earlier m a) k h

pub depends_on_earlier : DependsOnEarlier
depends_on_earlier m a i j h = first.depends_earlier m (accepted_earlier m a) i j h

pub shows_rule : ShowsRule
shows_rule m a j k = showing.shows_rule m j (accepted_earlier m a) k

pub shows_exactly : ShowsExactly
shows_exactly m a j k = showing.shows_exactly m j (accepted_earlier m a) k k (omega arith)

pub first_exactly : FirstExactly
first_exactly m a i j r = first.shown_exactly m (accepted_earlier m a) i j (some r)

pub none_exactly : NoneExactly
none_exactly m a i j = first.shown_exactly m (accepted_earlier m a) i j none

-- A question that is not refused is about an accepted source.
asked_earlier : (s : List ℕ) (z : Lengths) (i j : ℕ) (ds : List Declaration) (q : Position) → asking s z i j start ≡ done ds q → Earlier (resolve_module s [] ds)
unfolding asking
asked_earlier s z i j ds q e =
    after_elim (loading s z start) _ ds q e (λ ds₁ q₁ f₁ e₁.
    require_elim (ltb i (length ds₁) && ltb j (length ds₁)) (nowhere Class.NoDeclaration) q₁ _ ds q e₁ (λ _ e₂.
    subst (λ (l : List Declaration). Earlier (resolve_module s [] l)) (done_inj e₂).0 (loaded_earlier s z ds₁ q₁ f₁)))

pub answers_exactly : AnswersExactly
unfolding ask
answers_exactly s i j before a after h ds q e b =
    let m = resolve_module s [] ds in
    let f : a ≡ shown (first_mention m i j) = ap (λ (o : Left Dependence Tables). o.answer) h ∙ ap (answer_of s i j) e in
    subst (λ (x : Dependence). (x ≡ b) ↔ Says m i j b) (sym f) (first.says_exactly m (asked_earlier s (lengths before) i j ds q e) i j b)

pub type_first : TypeFirst
type_first = first.type_first

pub mention_qualifies : MentionQualifies
mention_qualifies m i j r h = (j, h, itself refl)

shown_reports : (o : Option ℕ) → report_dependence (shown o) ≡ accepted (row_values o)
shown_reports none = refl
shown_reports (some r) = refl

answer_reports : (s : List ℕ) (i j : ℕ) (o : Result (List Declaration)) → report_dependence (answer_of s i j o) ≡ asking_reports s i j o
answer_reports s i j (refused r) = refl
answer_reports s i j (done ds p) = shown_reports (first_mention (resolve_module s [] ds) i j)

pub ask_reports : AskReports
unfolding ask
ask_reports s i j before a after h =
    ap (λ (o : Left Dependence Tables). report_dependence o.answer) h ∙ answer_reports s i j (asking s (lengths before) i j start)
