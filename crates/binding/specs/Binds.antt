-- Document 02, Req 04, "Go to the binder", and Req 10: what binds the reference at a row. "the definition of scope is the measure".
use Rattle.token.specs.declared.Class.{Class}
use Rattle.std.specs.Prelude.{◌≡◌, List, [], ◌∷◌, map, cond, ℕ, ◌+◌, take, Ok, Err}
use Rattle.std.proofs.Math.Option.{some}
use Rattle.terms.specs.Forms.{ref}
use Rattle.terms.specs.Tree.{Place, maybe, pick, at, relabel}
use Rattle.terms.specs.Label.{Name, Term, Terms, Declaration, trees, named, declared_name}
use Rattle.terms.specs.Agreement.{BoundBy, Free}
use Rattle.terms.specs.Resolution.{find, covers}
use Rattle.terms.specs.RowAt.{entry, tree_row, row_at, declaration_row}
use Rattle.surface.specs.Reader.{start, Result, done, refused, nowhere}
use Rattle.surface.specs.Tables.{Lengths, Tables, lengths, blank}
use Rattle.surface.specs.Reports.{Report, accepted, report_refusal}
use Rattle.surface.specs.Loading.{loading, load}
use Rattle.binding.specs.declared.Binder.{Binder}
use Rattle.binding.specs.Answer.{Binding}

-- How many pi, sigma, lam and arrow terms there are in whose codomain or body the place p of t stands. Req 10, of an arrow: "in the codomain it
-- counts as one binder that no name reaches". So it counts here, and by `BoundBy` it is never what binds.
abbrev pub binders_around : Place → Term → ℕ
binders_around [] t = 0
binders_around (i ∷ p) t = maybe (pick t.args i) 0 (λ u. binders_around p u + cond (covers t.label.kind i) 1 0)

-- "the number of binders in scope there inside its innermost same-named binder": how many of them stand inside the one at q, from which p goes on.
abbrev pub between : Place → Place → Term → ℕ
between q [] t = 0
between [] (i ∷ p) t = maybe (pick t.args i) 0 (binders_around p)
between (j ∷ q) (i ∷ p) t = maybe (pick t.args i) 0 (between q p)

-- The type of a declaration, and behind it the body if there is one.
abbrev pub parts : List ℕ → Declaration → Terms
parts s d = relabel (named s) (trees d)

-- The term whose row is k, in a module that was read: it stands at a place of the type (part 0) or body (part 1) of a declaration.
pub record Standing (s : List ℕ) (ds : List Declaration) (k : ℕ) : Type 0 where
  pub number : ℕ
  pub declaration : Declaration
  pub declared : entry ds number ≡ some declaration
  pub part : ℕ
  pub whole : Term
  pub is_part : pick (parts s declaration) part ≡ some whole
  pub first : ℕ
  pub starts : tree_row (declaration_row 0 ds number) (parts s declaration) part ≡ first
  pub place : Place
  pub here : Term
  pub stands : at place whole ≡ some here
  pub row : row_at first place whole ≡ some k

abbrev pub IsRef : {s : List ℕ} {ds : List Declaration} {k : ℕ} → Standing s ds k → Type 0
IsRef w = w.here.label.kind ≡ ref

abbrev pub name_of : {s : List ℕ} {ds : List Declaration} {k : ℕ} → Standing s ds k → Name
name_of w = w.here.label.name

-- "beside its count, the surface row of the binding form": the term with row k is a reference, what binds it stands at q, whose row is `row`,
-- and so many binders stand around it inside that one.
pub record Bound (s : List ℕ) (ds : List Declaration) (k count row : ℕ) : Type 0 where
  pub term : Standing s ds k
  pub is_ref : IsRef term
  pub q : Place
  pub bound : BoundBy term.whole (name_of term) term.place q
  pub its_row : row_at term.first q term.whole ≡ some row
  pub counted : count ≡ between q term.place term.whole

-- "or the declaration's place when it is global": the term with row k is a reference, nothing in its type or body binds it, and the earlier
-- declaration of its name has this place.
pub record Unbound (s : List ℕ) (ds : List Declaration) (k place : ℕ) : Type 0 where
  pub term : Standing s ds k
  pub is_ref : IsRef term
  pub free : Free term.whole (name_of term) term.place
  pub earlier : find (name_of term) (map (declared_name s) (take term.number ds)) ≡ some place

-- What is promised of the answer for row k. "12 is also given, after loading, when the row is no reference": no term with this row is one.
abbrev pub Answers : List ℕ → ℕ → Result (List Declaration) → Binding → Type 0
Answers s k (refused r) b = b ≡ Err r
Answers s k (done ds p) (Ok (Binder.Local count row)) = Bound s ds k count row
Answers s k (done ds p) (Ok (Binder.Global place)) = Unbound s ds k place
Answers s k (done ds p) (Err r) = (r ≡ nowhere Class.NoDeclaration) × ((w : Standing s ds k) → IsRef w → ⊥)

-- "leaving the tables as loading does"; after a refusal, 12 included, they are all 0.
abbrev pub left : List ℕ → Lengths → Binding → Tables
left s z (Ok (Binder.Local count row)) = (load s z).tables
left s z (Ok (Binder.Global place)) = (load s z).tables
left s z (Err r) = blank z

-- The promise of `binder`: a call for the source s and the row k, with such tables before it, gives this answer and leaves these tables.
abbrev pub AsksBinder : List ℕ → ℕ → Tables → Binding → Tables → Type 0
AsksBinder s k before b after = Answers s k (loading s (lengths before) start) b × (after ≡ left s (lengths before) b)

-- Its number and values: two for a local, one for a global.
abbrev pub report_binding : Binding → Report
report_binding (Ok (Binder.Local count row)) = accepted (count ∷ row ∷ [])
report_binding (Ok (Binder.Global place)) = accepted (place ∷ [])
report_binding (Err r) = report_refusal r
