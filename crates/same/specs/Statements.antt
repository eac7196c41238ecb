-- Headline statements about calls of `same`; same/proofs/Exactly.antt has the proofs.
use Rattle.std.specs.Prelude.{◌≡◌, ◌↔◌, ◌⊎◌, List, [], ◌∷◌, ℕ, Ok, Err, None}
use Rattle.surface.specs.Answer.{Answer}
use Rattle.surface.specs.Reports.{Report, accepted}
use Rattle.surface.specs.Tables.{Lengths, Tables}
use Rattle.surface.specs.Loading.{load}
use Rattle.surface.specs.SameCore.{SameCore, Accepts}
use Rattle.surface.specs.Agreement.{Agreement}
use Rattle.same.specs.Answer.{Comparison}
use Rattle.same.specs.Comparison.{Parting, Compares, SameAsked, report_comparison, report_refused}

-- Of any call whose two sources are loaded, with tables of any lengths: `None` exactly if the two sources agree, `Some k` exactly if they part
-- at k.
abbrev pub AnswersExactly : Type 0
AnswersExactly =
    (s t : List ℕ) (y z : Lengths) (a : Comparison) (x w : Tables) → SameAsked s t y z a x w → Accepts (load s y) → Accepts (load t z)
    → (b : Comparison) → (a ≡ b) ↔ Compares s t b

-- .. and so `None` exactly if what the two loads leave is the same core: demand 3 in the answer.
abbrev pub SameCoreExactly : Type 0
SameCoreExactly =
    (s t : List ℕ) (y z : Lengths) (a : Comparison) (x w : Tables) → SameAsked s t y z a x w → Accepts (load s y) → Accepts (load t z)
    → (a ≡ Ok None) ↔ SameCore s (load s y) t (load t z)

-- Nothing is left free: two calls for the same sources, with tables of the same lengths, give the same answer and leave the same tables.
abbrev pub OneAnswer : Type 0
OneAnswer =
    (s t : List ℕ) (y z : Lengths) (a b : Comparison) (x w u v : Tables) → SameAsked s t y z a x w → SameAsked s t y z b u v → (a ≡ b) × (x ≡ u) × (w ≡ v)

-- The number and values of an answer, by what loading the two sources answers: 0 and no value if they agree, 0 and the place where they part,
-- or the refusal, the first source's coming first.
abbrev pub ComparingReports : List ℕ → List ℕ → Answer → Answer → Report → Type 0
ComparingReports s t (Err r) b n = n ≡ report_refused 1 r
ComparingReports s t (Ok l) (Err r) n = n ≡ report_refused 2 r
ComparingReports s t (Ok l) (Ok m) n =
    ((n ≡ accepted []) × Agreement s t) ⊎ ((k : ℕ) × (n ≡ accepted (k ∷ [])) × Parting k s t)

abbrev pub CompareReports : Type 0
CompareReports =
    (s t : List ℕ) (y z : Lengths) (a : Comparison) (x w : Tables) → SameAsked s t y z a x w
    → ComparingReports s t (load s y).answer (load t z).answer (report_comparison a)
