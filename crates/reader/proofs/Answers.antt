-- What `read_declarations` answers, for its callers: the declarations that were read, what the tables hold then, and where reading goes on.
use Rattle.reader.specs.Answers.{DeclarationsRead, declarations_read}
use Rattle.std.specs.Prelude.{Err}
use mathlib.Core.Path.{◌≡◌, sym, ◌∙◌, ap}
use mathlib.Core.List.{List}
use Prim.Native.Nat.{ℕ, ◌+◌, ◌-◌, ◌≤◌, max}
use native.Mathlib.Omega.{arith}
use lib.ListN.{length}
use Rattle.token.specs.declared.Refusal.{Refusal}
use Rattle.terms.specs.Label.{Declaration}
use Rattle.terms.specs.Rows.{joined, read_records}
use Rattle.surface.specs.Reader.{Result, done, refused}
use Rattle.surface.specs.Sizes.{deepest}
use Rattle.tables.specs.Tables.{with_words}
use Rattle.expects.specs.declared.Format.{Format}
use Rattle.expects.specs.Expects.{position_at}
use Rattle.reader.specs.declared.Limits.{Limits}
use Rattle.reader.specs.declared.AllDeclarations.{AllDeclarations}
use Rattle.reader.specs.ModuleWords.{all_declarations, format_rows}
use Rattle.reader.specs.Parts.{ReadsFrom, left, ReadsDeclarations}
use Rattle.reader.specs.Reads.{Holds, ModuleInside}
use Rattle.reader.proofs.Ahead.{AllOnward, all_onward}

-- Reading may begin at any offset within a source, where no row is stored.
pub inside_first : (limit : ℕ) (s work : List ℕ) (from : ℕ) → length s ≤ 4294967295 → 5632 ≤ length work → from ≤ length s → ModuleInside limit s work from 0
inside_first limit s work from a b w = record { source = a; area = b; within = w; few = omega arith; stored = omega arith }

-- The declarations from an offset on, where nothing is stored.
abbrev pub all_from : Format → Limits → List ℕ → ℕ → Result (List Declaration)
all_from format limits s from = all_declarations format s limits.rows limits.declarations (position_at from 0)

-- The declarations that were read from an offset on, up to `at`: n rows and k records are stored for them, and h frames were open at most.
pub record AllRead (format : Format) (limits : Limits) (s table list : List ℕ) (from n k at h : ℕ) (table₁ list₁ : List ℕ) : Type 0 where
  pub declarations : List Declaration
  pub read : all_from format limits s from ≡ done declarations (position_at at n)
  pub count : k ≡ length declarations
  pub frames : h ≡ deepest declarations
  pub rows : Holds 8 limits.rows table → table₁ ≡ with_words table 0 (joined (format_rows format 0 declarations))
  pub records : Holds 5 limits.declarations list → list₁ ≡ with_words list 0 (joined (read_records 0 declarations))
  pub onward : AllOnward s limits.rows (position_at from 0) declarations (position_at at n)

-- An answer r, and the tables with it.
module _ (format : Format) (limits : Limits) (s table list work : List ℕ) (from : ℕ) (inside : ModuleInside limits.rows s work from 0)
    (r : DeclarationsRead) (table₁ list₁ : List ℕ) (h : ReadsDeclarations format limits s table list work from r table₁ list₁) where
  all_left : left format limits s from 0 0 ≡ all_from format limits s from
  all_left = ap (λ (i : ℕ). all_declarations format s limits.rows i (position_at from 0)) (let z : limits.declarations - 0 ≡ limits.declarations = omega arith in z)

  pub all_refused : (x : Refusal) → r ≡ Err x → all_from format limits s from ≡ refused x
  all_refused x e = sym all_left ∙ by (left format limits s from 0 0) (h inside)
    where
      by : (y : Result (List Declaration)) → ReadsFrom format limits 0 0 0 y table list r table₁ list₁ → y ≡ refused x
      by (done ds q) g = absurd (let z : ◌≡◌ {A = ℕ} 0 1 = cc g.0 in omega arith)
      by (refused z) g = ap refused (cc)

  pub all_read : (n k at h : ℕ) → r ≡ declarations_read n k at h → AllRead format limits s table list from n k at h table₁ list₁
  all_read n k at m e = by (left format limits s from 0 0) (sym all_left) (h inside)
    where
      by : (y : Result (List Declaration)) → all_from format limits s from ≡ y → ReadsFrom format limits 0 0 0 y table list r table₁ list₁ → AllRead format limits s table list from n k at m table₁ list₁
      by (refused z) i g = absurd (let z : ◌≡◌ {A = ℕ} 0 1 = cc in omega arith)
      by (done ds q) i g =
          let is : ◌≡◌ {A = AllDeclarations} (record { rows = q.rows; declarations = 0 + length ds; next = q.offset; frames = max 0 (deepest ds) }) (record { rows = n; declarations = k; next = at; frames = m }) = cc g.0 in
          let read : all_from format limits s from ≡ done ds (position_at at n) = i ∙ (λ j. done ds (position_at (is j).next (is j).rows)) in
          let c : 0 + length ds ≡ k = λ j. (is j).declarations in
          let f : max 0 (deepest ds) ≡ m = λ j. (is j).frames in
          record {
            declarations = ds;
            read = read;
            count = omega arith;
            frames = omega arith;
            rows = g.1;
            records = g.2;
            onward = all_onward format s limits.rows (position_at from 0) (position_at at n) limits.declarations ds inside.within inside.stored read;
          }
