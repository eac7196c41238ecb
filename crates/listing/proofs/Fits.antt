-- The text of every source fits the program's buffer: 1,024 rows and 256 declarations take at most so many bytes beside what they show of
-- the source, and they show each byte of it at most once.
use Prim.Native.Nat.{ℕ, ◌+◌, ◌*◌, ◌/◌, ◌%◌, ◌≤◌, ◌<◌}
use mathlib.Core.Path.{◌≡◌, refl, sym, ◌∙◌, ap}
use mathlib.Core.Bool.{cond}
use mathlib.Core.List.{List, []}
use native.Mathlib.Omega.{arith}
use native.Mathlib.Nat.{div-add-mod'}
use lib.Dec.{eqb}
use lib.ListN.{length, get_or}
use borrow.Author.Tests.{leb-true}
use Rattle.terms.specs.Forms.{universe}
use Rattle.terms.specs.Label.{Declaration}
use Rattle.terms.specs.Resolution.{resolve_module}
use Rattle.terms.specs.Rows.{pad, joined, core_rows, declaration_records}
use Rattle.terms.proofs.Tables.{Wide}
use Rattle.terms.proofs.Widths.{wide_core, wide_records, total_surface, total_core, count_records}
use Rattle.surface.specs.Reader.{start, Result, done, refused}
use Rattle.surface.specs.Loading.{Lengths, outcome, loading, load}
use Rattle.surface.proofs.Acceptance.{is_loaded, is_read}
use Rattle.lines.proofs.Lengths.{level, sum, listing_short, refusal_short}
use Rattle.lister.specs.Lists.{text_of, listing_text}
use Rattle.listing.specs.Program.{lent, program_text, Written}
use Rattle.listing.specs.Promises.{EveryTextFits}
use Rattle.listing.proofs.Atoms.{atoms_inside}
use Rattle.listing.proofs.Shown.{sum_of, sum_at, row_level, word_at, module_level, record_name, module_names}

-- What a table shows is what its rows show.
shown : (l : List (List ℕ)) → Wide 8 l → (n : ℕ) → length l ≤ n / 8 → sum (λ j. level (pad n (joined l)) (j * 8)) (length l) 0 ≡ sum_of row_level l
shown l wide n room = sum_at (λ j. level (pad n (joined l)) (j * 8)) row_level l 0 (λ j h. by (0 + j) j (let z : 0 + j ≡ j = omega arith in z) h)
  where
    by : (i j : ℕ) → i ≡ j → j < length l → level (pad n (joined l)) (i * 8) ≡ row_level (get_or l j [])
    by i j e h =
        let all : n / 8 * 8 + n % 8 ≡ n = div-add-mod' n 8 in
        let kind : get_or (pad n (joined l)) (i * 8) 0 ≡ get_or (get_or l j []) 0 0 =
        ap (λ m. get_or (pad n (joined l)) m 0) (let z : i * 8 ≡ j * 8 + 0 = omega arith in z) ∙ word_at 8 l wide n j 0 h (omega arith) (omega arith) in
        let size : get_or (pad n (joined l)) (i * 8 + 2) 0 ≡ get_or (get_or l j []) 2 0 =
        ap (λ m. get_or (pad n (joined l)) m 0) (let z : i * 8 + 2 ≡ j * 8 + 2 = omega arith in z) ∙ word_at 8 l wide n j 2 h (omega arith) (omega arith) in
        λ x. cond (eqb (kind x) universe) (size x) 0

named : (l : List (List ℕ)) → Wide 5 l → (n : ℕ) → length l ≤ n / 5 → sum (λ j. get_or (pad n (joined l)) (j * 5 + 2) 0) (length l) 0 ≡ sum_of record_name l
named l wide n room = sum_at (λ j. get_or (pad n (joined l)) (j * 5 + 2) 0) record_name l 0 (λ j h. by (0 + j) j (let z : 0 + j ≡ j = omega arith in z) h)
  where
    by : (i j : ℕ) → i ≡ j → j < length l → get_or (pad n (joined l)) (i * 5 + 2) 0 ≡ record_name (get_or l j [])
    by i j e h =
        let all : n / 5 * 5 + n % 5 ≡ n = div-add-mod' n 5 in
        ap (λ m. get_or (pad n (joined l)) m 0) (let z : i * 5 + 2 ≡ j * 5 + 2 = omega arith in z) ∙ word_at 5 l wide n j 2 h (omega arith) (omega arith)

-- The text of what loading leaves, whatever is lent.
module _ (s : List ℕ) (z : Lengths) (few_rows : z.core / 8 ≤ 1024) (few_declarations : z.declarations / 5 ≤ 256) where
  abbrev text : Result (List Declaration) → List ℕ
  text r = text_of s (outcome s z r).answer (outcome s z r).tables.core (outcome s z r).tables.declarations

  fits : (r : Result (List Declaration)) → loading s z start ≡ r → length (text r) ≤ 262144
  fits (refused r) e = omega (arith, refusal_short r)
  fits (done ds p) e =
      let read = is_read s z ds p (is_loaded s z ds p e).read in
      let resolved = resolve_module s [] ds in
      let rows = core_rows 0 resolved in
      let records = declaration_records 0 resolved in
      let count : p.rows ≡ length rows = omega (arith, read.rows, total_core s [] 0 ds) in
      let many : length ds ≡ length records = sym (count_records s [] 0 ds) in
      let levels : sum (λ j. level (pad z.core (joined rows)) (j * 8)) p.rows 0 ≡ sum_of row_level rows =
      ap (λ n. sum (λ j. level (pad z.core (joined rows)) (j * 8)) n 0) count
      ∙ shown rows (wide_core 0 resolved) z.core (omega (arith, read.rows, total_surface 0 ds, read.enough.core)) in
      let names : sum (λ j. get_or (pad z.declarations (joined records)) (j * 5 + 2) 0) (length ds) 0 ≡ sum_of record_name records =
      ap (λ n. sum (λ j. get_or (pad z.declarations (joined records)) (j * 5 + 2) 0) n 0) many
      ∙ named records (wide_records 0 resolved) z.declarations (omega (arith, read.enough.declarations)) in
      omega (
        arith,
        listing_short s (pad z.core (joined rows)) (pad z.declarations (joined records)) p.rows (length ds),
        levels,
        names,
        module_level s [] 0 ds,
        module_names s [] 0 ds,
        atoms_inside s ds read.readable.derives,
        read.readable.short,
        read.rows,
        total_surface 0 ds,
        read.enough.core,
        read.enough.declarations,
      )

pub every_text_fits : EveryTextFits
unfolding program_text listing_text load
every_text_fits s = fits s lent (leb-true (8192 / 8) 1024 refl) (leb-true (1280 / 5) 256 refl) (loading s lent start) refl

-- So what `list` answers is within a buffer of that length.
pub within_buffer : (s text : List ℕ) (r : ℕ) (text₁ : List ℕ) → Written s text r text₁ → r ≤ 262144
unfolding Written
within_buffer s text r text₁ w = omega (arith, w.1, every_text_fits s)
