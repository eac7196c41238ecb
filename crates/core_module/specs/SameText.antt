-- Document 02, Req 03: *same core* of a source that is loaded and a core text that is read.
use Rattle.std.specs.Prelude.{◌≡◌, List, [], map, ◌||◌, cond, ℕ, eqb, get_or, take, drop}
use Rattle.terms.specs.Forms.{var_kind, global_kind, universe}
use Rattle.terms.specs.Label.{Name, part}
use Rattle.terms.specs.Rows.{first_rows}
use Rattle.terms.specs.Content.{record_content}
use Rattle.surface.specs.Loading.{Outcome}
use Rattle.surface.specs.SameCore.{row_count, declaration_count}
use Rattle.printing.specs.Decimal.{value}

-- What counts of a core row: its kind, a var's count or a global's place, a universe's digits, the other terms' children. Offsets do not.
pub record Meaning : Type 0 where
  pub kind : ℕ
  pub number : ℕ
  pub digits : Name
  pub children : List ℕ

abbrev pub meaning : ℕ → ℕ → Name → List ℕ → Meaning
meaning k n d l =
    cond (eqb k var_kind || eqb k global_kind)
    (record { kind = k; number = n; digits = []; children = [] })
    (cond (eqb k universe) (record { kind = k; number = 0; digits = d; children = [] }) (record { kind = k; number = 0; digits = []; children = l }))

-- Of a row that loading the source s leaves: a var has its count, a global its place.
abbrev pub source_meaning : List ℕ → List ℕ → Meaning
source_meaning s w = meaning (get_or w 0 0) (get_or w 1 0) (part s (get_or w 1 0) (get_or w 2 0)) (take 6 (drop 1 w))

-- Of a row that reading the text t leaves: "a var or global read from text being compared by its numeral's value".
abbrev pub text_meaning : List ℕ → List ℕ → Meaning
text_meaning t w = let d = part t (get_or w 1 0) (get_or w 2 0) in meaning (get_or w 0 0) (value d) d (take 6 (drop 1 w))

-- "equal counts of rows and of declarations, and up to these counts equal rows .. and equal declarations (names compared by bytes)": of a
-- call that loads the source s and one that reads the text t.
pub record SameText (s : List ℕ) (a : Outcome) (t : List ℕ) (b : Outcome) : Type 0 where
  pub row_counts : row_count a.answer ≡ row_count b.answer
  pub declaration_counts : declaration_count a.answer ≡ declaration_count b.answer
  pub same_rows : map (source_meaning s) (first_rows 8 (row_count a.answer) a.tables.core) ≡ map (text_meaning t) (first_rows 8 (row_count b.answer) b.tables.core)
  pub same_declarations :
      map (record_content s) (first_rows 5 (declaration_count a.answer) a.tables.declarations)
      ≡ map (record_content t) (first_rows 5 (declaration_count b.answer) b.tables.declarations)
