-- DEMAND 3 in the answer of `same`: the same core exactly if the two sources agree, a place k exactly if they part at k.
use Prim.Native.Nat.{ℕ, zero, suc}
use mathlib.Core.Path.{◌≡◌, refl, sym, ap, ◌∙◌, subst, subst₂}
use mathlib.Core.Logic.{inl, inr}
use mathlib.Core.List.{List, [], ◌∷◌, map}
use Rattle.std.specs.Prelude.{Ok, Err, Some, None}
use Rattle.terms.specs.Label.{Declaration, NamedDeclaration, named_declaration}
use Rattle.terms.specs.Agreement.{AgreeModule}
use Rattle.surface.specs.Answer.{Answer, loaded}
use Rattle.surface.specs.Grammar.{Derives}
use Rattle.surface.specs.Loading.{Lengths, load}
use Rattle.surface.specs.SameCore.{Accepts}
use Rattle.surface.specs.Agreement.{Agreement}
use Rattle.surface.proofs.CompleteModule.{unique}
use Rattle.surface.proofs.Demand.{by_definition}
use Rattle.same.specs.Answer.{Comparison}
use Rattle.same.specs.Comparison.{PartAt, Parting, Compares, SameAnswers, Tables, SameAsked, report_comparison}
use Rattle.same.specs.Statements.{AnswersExactly, SameCoreExactly, OneAnswer, ComparingReports, CompareReports}

-- Two modules part at one place only, and only if they do not agree.
part_once : (j k : ℕ) (l m : List NamedDeclaration) → PartAt j l m → PartAt k l m → j ≡ k
part_once zero zero l m p q = refl
part_once zero (suc k) [] m p q = absurd q
part_once zero (suc k) (d ∷ l) [] p q = absurd q
part_once zero (suc k) (d ∷ l) (e ∷ m) p q = absurd (p q.0)
part_once (suc j) zero [] m p q = absurd p
part_once (suc j) zero (d ∷ l) [] p q = absurd p
part_once (suc j) zero (d ∷ l) (e ∷ m) p q = absurd (q p.0)
part_once (suc j) (suc k) [] m p q = absurd p
part_once (suc j) (suc k) (d ∷ l) [] p q = absurd p
part_once (suc j) (suc k) (d ∷ l) (e ∷ m) p q = ap suc (part_once j k l m p.1 q.1)

no_part : (k : ℕ) (l m : List NamedDeclaration) → AgreeModule l m → PartAt k l m → ⊥
no_part zero [] [] a p = p
no_part zero [] (e ∷ m) a p = a
no_part zero (d ∷ l) [] a p = a
no_part zero (d ∷ l) (e ∷ m) a p = p a.0
no_part (suc k) [] m a p = p
no_part (suc k) (d ∷ l) [] a p = p
no_part (suc k) (d ∷ l) (e ∷ m) a p = no_part k l m a.1 p.1

module _ (s t : List ℕ) where
  -- A source is one module only, so what is said of two modules is said of the two sources.
  moved : (P : List NamedDeclaration → List NamedDeclaration → Type 0) (a b c d : List Declaration)
      → Derives s a → Derives s c → Derives t b → Derives t d
      → P (map (named_declaration s) a) (map (named_declaration t) b) → P (map (named_declaration s) c) (map (named_declaration t) d)
  moved P a b c d f g h j p =
      subst₂ (λ (x y : List Declaration). P (map (named_declaration s) x) (map (named_declaration t) y)) (unique s a c f g) (unique t b d h j) p

  agree_or_part : (k : ℕ) → Agreement s t → Parting k s t → ⊥
  agree_or_part k a p =
      no_part k _ _ (moved AgreeModule a.one a.other p.one p.other a.one_derives p.one_derives a.other_derives p.other_derives a.agree) p.part

  one_parting : (j k : ℕ) → Parting j s t → Parting k s t → j ≡ k
  one_parting j k p q =
      part_once j k _ _ (moved (PartAt j) p.one p.other q.one q.other p.one_derives q.one_derives p.other_derives q.other_derives p.part) q.part

  -- What is promised for two loaded sources leaves one answer.
  pub one_answer : (a b : Comparison) → Compares s t a → Compares s t b → a ≡ b
  one_answer (Ok None) (Ok None) p q = refl
  one_answer (Ok None) (Ok (Some k)) p q = absurd (agree_or_part k p q)
  one_answer (Ok None) (Err r) p q = absurd q
  one_answer (Ok (Some j)) (Ok None) p q = absurd (agree_or_part j q p)
  one_answer (Ok (Some j)) (Ok (Some k)) p q = ap (λ (k : ℕ). Ok (Some k)) (one_parting j k p q)
  one_answer (Ok (Some j)) (Err r) p q = absurd q
  one_answer (Err r) b p q = absurd p

  -- The answer is determined, refusals too.
  determined : (b c : Answer) (a d : Comparison) → SameAnswers s t b c a → SameAnswers s t b c d → a ≡ d
  determined (Err r) c a d p q = p ∙ sym q
  determined (Ok l) (Err r) a d p q = p ∙ sym q
  determined (Ok l) (Ok m) a d p q = one_answer a d p q

pub nothing_free : OneAnswer
nothing_free s t y z a b x w u v p q =
    (determined s t (load s y).answer (load t z).answer a b p.answers q.answers, p.first_left ∙ sym q.first_left, p.second_left ∙ sym q.second_left)

compares : (s t : List ℕ) (y z : Lengths) (a : Comparison) (x w : Tables) → SameAsked s t y z a x w → Accepts (load s y) → Accepts (load t z) → Compares s t a
compares s t y z a x w p f g = subst₂ (λ (b c : Answer). SameAnswers s t b c a) f.2 g.2 p.answers

pub answers_exactly : AnswersExactly
answers_exactly s t y z a x w p f g b =
    let c = compares s t y z a x w p f g in
    (λ e. subst (Compares s t) e c, λ h. one_answer s t a b c h)

pub same_core_exactly : SameCoreExactly
same_core_exactly s t y z a x w p f g =
    let d = by_definition s t y z f g in
    let h = answers_exactly s t y z a x w p f g (Ok None) in
    (λ e. d.1 (h.0 e), λ c. h.1 (d.0 c))

module _ (s t : List ℕ) where
  both_report : (a : Comparison) (i j l m : ℕ) → Compares s t a → ComparingReports s t (loaded i j) (loaded l m) (report_comparison a)
  both_report (Ok None) i j l m h = inl (refl, h)
  both_report (Ok (Some k)) i j l m h = inr (k, refl, h)
  both_report (Err r) i j l m h = absurd h

  reports : (b c : Answer) (a : Comparison) → SameAnswers s t b c a → ComparingReports s t b c (report_comparison a)
  reports (Err r) c a h = ap report_comparison h
  reports (Ok l) (Err r) a h = ap report_comparison h
  reports (Ok l) (Ok m) a h = both_report a l.rows l.declarations m.rows m.declarations h

pub compare_reports : CompareReports
compare_reports s t y z a x w p = reports s t (load s y).answer (load t z).answer a p.answers
