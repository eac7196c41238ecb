-- The parts of reading a module that have functions of their own.
use Rattle.reader.specs.Answers.{DeclarationRead, DeclarationsRead, Stepped, declaration_read, declarations_read}
use Rattle.term_rows.specs.TermRows.{TermRead, read_term}
use Rattle.std.specs.Prelude.{◌≡◌, List, ℕ, suc, ◌+◌, ◌*◌, ◌-◌, ◌≤◌, ◌<◌, max, length, Ok, Err}
use Rattle.std.proofs.Math.Option.{Option}
use Rattle.token.specs.declared.Token.{Token}
use Rattle.terms.specs.Label.{Label, Declaration}
use Rattle.terms.specs.Tree.{Tree}
use Rattle.terms.specs.Rows.{joined, read_records}
use Rattle.surface.specs.Reader.{Result, done, refused}
use Rattle.surface.specs.Sizes.{frames_of, deepest}
use Rattle.tables.specs.Tables.{with_words}
use Rattle.rows.specs.Places.{stored_at}
use Rattle.expects.specs.declared.Format.{Format}
use Rattle.expects.specs.Expects.{position_at}
use Rattle.reader.specs.ModuleWords.{one_body, named_declaration, one_declaration, all_declarations, format_rows, forest_words, body_trees, body_row}
use Rattle.reader.specs.Reads.{Holds, ModuleInside, Declares}
use Rattle.reader.specs.declared.Limits.{Limits}
use Rattle.reader.specs.declared.ModuleStep.{ModuleStep}

-- The answer for a body behind n rows: its rows stand behind the rows, in a table that holds as many as there is room for.
abbrev pub BodyReads : Format → ℕ → Result (Option (Tree Label)) → ℕ → List ℕ → TermRead → List ℕ → Type 0
BodyReads f limit (done b q) n table r table₁ =
    (r ≡ Ok (read_term (body_row n b) q.rows q.offset (frames_of (body_trees b)))) × (Holds 8 limit table → table₁ ≡ with_words table (n * 8) (forest_words f n (body_trees b)))
BodyReads f limit (refused x) n table r table₁ = r ≡ Err x

-- r is the answer for the body of a declaration of a kind.
abbrev pub ReadsBody : Format → Limits → List ℕ → List ℕ → List ℕ → ℕ → ℕ → ℕ → TermRead → List ℕ → Type 0
ReadsBody f limits s table work kind at n r table₁ =
    ModuleInside limits.rows s work at n → (j : ℕ) → kind ≡ suc j → BodyReads f limits.rows (one_body f s limits.rows j (position_at at n)) n table r table₁

-- The answer for a declaration's end: its record is stored once its parenthesis is read, and not before.
abbrev pub Finishes : Result Token → ℕ → ℕ → List ℕ → List ℕ → DeclarationRead → List ℕ → Type 0
Finishes (done c q) k frames list words r list₁ = (r ≡ declaration_read q.rows q.offset frames) × (list₁ ≡ stored_at 5 list k words)
Finishes (refused x) k frames list words r list₁ = (r ≡ Err x) × (list₁ ≡ list)

-- r is the answer for a declaration of a kind behind its word. The word itself plays no part any more.
abbrev pub ReadsNamed : Format → Limits → List ℕ → List ℕ → List ℕ → List ℕ → ℕ → ℕ → ℕ → ℕ → DeclarationRead → List ℕ → List ℕ → Type 0
ReadsNamed f limits s table list work kind at n k r table₁ list₁ =
    ModuleInside limits.rows s work at n → k < limits.declarations → (t : Token) (j : ℕ) → kind ≡ suc j
    → Declares f limits (named_declaration f s limits.rows t (suc j) (position_at at n)) n k table list r table₁ list₁

-- r is the answer for a declaration behind its parenthesis.
abbrev pub ReadsDeclaration : Format → Limits → List ℕ → List ℕ → List ℕ → List ℕ → ℕ → ℕ → ℕ → DeclarationRead → List ℕ → List ℕ → Type 0
ReadsDeclaration f limits s table list work at n k r table₁ list₁ =
    ModuleInside limits.rows s work at n → k < limits.declarations
    → Declares f limits (one_declaration f s limits.rows (position_at at n)) n k table list r table₁ list₁

-- The answer for the declarations that stand behind n rows and k declarations, in which h frames were open at most: the words of their rows
-- and records stand behind those.
abbrev pub ReadsFrom : Format → Limits → ℕ → ℕ → ℕ → Result (List Declaration) → List ℕ → List ℕ → DeclarationsRead → List ℕ → List ℕ → Type 0
ReadsFrom f limits n k h (done ds q) table list r table₁ list₁ =
    (r ≡ declarations_read q.rows (k + length ds) q.offset (max h (deepest ds))) × (Holds 8 limits.rows table → table₁ ≡ with_words table (n * 8) (joined (format_rows f n ds)))
    × (Holds 5 limits.declarations list → list₁ ≡ with_words list (k * 5) (joined (read_records n ds)))
ReadsFrom f limits n k h (refused x) table list r table₁ list₁ = r ≡ Err x

-- The declarations that are left at an offset behind n rows and k declarations.
abbrev pub left : Format → Limits → List ℕ → ℕ → ℕ → ℕ → Result (List Declaration)
left f limits s at n k = all_declarations f s limits.rows (limits.declarations - k) (position_at at n)

-- A declaration was read, in which so many frames were open at most: the answer for what is left then is the answer for what was left before.
pub record Went (f : Format) (limits : Limits) (s table list : List ℕ) (at n k at₁ n₁ frames : ℕ) (table₁ list₁ work₁ : List ℕ) : Type 0 where
  pub inside : ModuleInside limits.rows s work₁ at₁ n₁
  pub same : (h : ℕ) (r : DeclarationsRead) (table₂ list₂ : List ℕ)
      → ReadsFrom f limits n₁ (k + 1) (max h frames) (left f limits s at₁ n₁ (k + 1)) table₁ list₁ r table₂ list₂ → ReadsFrom f limits n k h (left f limits s at n k) table list r table₂ list₂

-- A declaration, as what stood next.
abbrev pub as_step : DeclarationRead → Stepped
as_step (Ok d) = Ok (ModuleStep.Declared d)
as_step (Err r) = Err r

-- What stands next behind n rows and k declarations.
abbrev pub ModuleStepped : Format → Limits → List ℕ → List ℕ → List ℕ → ℕ → ℕ → ℕ → Stepped → List ℕ → List ℕ → List ℕ → Type 0
ModuleStepped f limits s table list at n k (Ok (ModuleStep.Declared d)) table₁ list₁ work₁ = Went f limits s table list at n k d.next d.rows d.frames table₁ list₁ work₁
ModuleStepped f limits s table list at n k (Ok (ModuleStep.End at₁)) table₁ list₁ work₁ =
    (h : ℕ) → ReadsFrom f limits n k h (left f limits s at n k) table list (declarations_read n k at₁ h) table₁ list₁
ModuleStepped f limits s table list at n k (Err x) table₁ list₁ work₁ = left f limits s at n k ≡ refused x

abbrev pub Steps : Format → Limits → List ℕ → List ℕ → List ℕ → List ℕ → ℕ → ℕ → ℕ → Stepped → List ℕ → List ℕ → List ℕ → Type 0
Steps f limits s table list work at n k r table₁ list₁ work₁ =
    ModuleInside limits.rows s work at n → k ≤ limits.declarations → ModuleStepped f limits s table list at n k r table₁ list₁ work₁

-- A declaration is read only where there is room for its record.
abbrev pub HasRoom : Limits → ℕ → Stepped → Type 0
HasRoom limits k (Ok (ModuleStep.Declared d)) = k < limits.declarations
HasRoom limits k (Ok (ModuleStep.End at)) = Unit {0}
HasRoom limits k (Err x) = Unit {0}

-- r is the answer for the declarations from an offset on, where no row and no declaration is stored.
abbrev pub ReadsDeclarations : Format → Limits → List ℕ → List ℕ → List ℕ → List ℕ → ℕ → DeclarationsRead → List ℕ → List ℕ → Type 0
ReadsDeclarations f limits s table list work from r table₁ list₁ =
    ModuleInside limits.rows s work from 0 → ReadsFrom f limits 0 0 0 (left f limits s from 0 0) table list r table₁ list₁
