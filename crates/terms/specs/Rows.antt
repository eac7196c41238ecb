-- Document 01, "The module read" and "The core module", and document 02, Req 01 and Req 10: rows of eight words and declaration records of five.
use Rattle.std.specs.Prelude.{List, [], ◌∷◌, ◌++◌, map, Bool, cond, ℕ, zero, suc, eqb, take, drop}
use Rattle.terms.specs.Forms.{var_kind, global_kind, universe, counts_as, holds_span}
use Rattle.terms.specs.Tree.{Cell, next, roots, cells}
use Rattle.terms.specs.Label.{Label, Declaration, trees}
use Rattle.terms.specs.Resolution.{Core, kept, var, global, unknown, Resolved, CoreDeclaration}

-- The first n words of a list, with 0 for those that are not there.
abbrev pub pad : ℕ → List ℕ → List ℕ
pad zero l = []
pad (suc n) [] = 0 ∷ pad n []
pad (suc n) (x ∷ l) = x ∷ pad n l

-- "A row is eight 32-bit words: kind, then fields, unused words 0." Req 01: "The eighth word of each surface and core row shall hold the
-- offset of the term's first byte: its opening parenthesis, or its atom." No kind has more than six fields.
abbrev pub row : ℕ → List ℕ → ℕ → List ℕ
row k fields offset = k ∷ pad 6 fields ++ (offset ∷ [])

abbrev pub span : Label → List ℕ
span l = l.start ∷ l.length ∷ []

-- The row of a term that was read, where some kinds hold a start and a length.
abbrev pub row_holding : (ℕ → Bool) → Cell Label → List ℕ
row_holding holds c = row c.label.kind (cond (holds c.label.kind) (span c.label) [] ++ c.children) c.label.offset

-- "Ref and universe hold start and length of their atom; pi, sigma and lam hold their binder's start and length, then children."
abbrev pub surface_row : Cell Label → List ℕ
surface_row = row_holding holds_span

-- "Core row k has surface row k's kind and children without the binder, and a universe its start and length;
-- ref becomes var with a count, or global with a place from 0." A module with an unknown reference leaves no row.
-- Req 10, of an arrow: "Its core row is a pi".
abbrev pub core_kind : Label → Core → ℕ
core_kind l kept = counts_as l.kind
core_kind l (var count) = var_kind
core_kind l (global place) = global_kind
core_kind l unknown = 0

abbrev pub core_fields : Label → Core → List ℕ → List ℕ
core_fields l kept children = cond (eqb l.kind universe) (span l) [] ++ children
core_fields l (var count) children = count ∷ []
core_fields l (global place) children = place ∷ []
core_fields l unknown children = []

-- Whatever a term becomes, its core row has its offset.
abbrev pub core_words : Label → Core → List ℕ → List ℕ
core_words l c children = row (core_kind l c) (core_fields l c children) l.offset

abbrev pub core_row : Cell Resolved → List ℕ
core_row c = core_words c.label.label c.label.core c.children

-- The rows of a module, declaration by declaration, given the row of a term; the first is row n.
abbrev pub rows_by : (Cell Label → List ℕ) → ℕ → List Declaration → List (List ℕ)
rows_by row_of n [] = []
rows_by row_of n (d ∷ l) = map row_of (cells n (trees d)) ++ rows_by row_of (next n (trees d)) l

abbrev pub surface_rows : ℕ → List Declaration → List (List ℕ)
surface_rows = rows_by surface_row

abbrev pub core_rows : ℕ → List CoreDeclaration → List (List ℕ)
core_rows n [] = []
core_rows n (d ∷ l) = map core_row (cells n d.trees) ++ core_rows (next n d.trees) l

-- "A declaration record: kind (postulate 1, transparent 2, opaque 3), name start, name length, type row, body row (0 for a postulate)."
abbrev pub declaration_record : ℕ → CoreDeclaration → List ℕ
declaration_record n d = d.kind ∷ d.start ∷ d.length ∷ pad 2 (roots n d.trees)

abbrev pub declaration_records : ℕ → List CoreDeclaration → List (List ℕ)
declaration_records n [] = []
declaration_records n (d ∷ l) = declaration_record n d ∷ declaration_records (next n d.trees) l

-- The same records of declarations that are read and not resolved yet: resolution keeps them.
abbrev pub read_record : ℕ → Declaration → List ℕ
read_record n d = d.kind ∷ d.start ∷ d.length ∷ pad 2 (roots n (trees d))

abbrev pub read_records : ℕ → List Declaration → List (List ℕ)
read_records n [] = []
read_records n (d ∷ l) = read_record n d ∷ read_records (next n (trees d)) l

-- Rows one behind the other, as a lent table holds them.
abbrev pub joined : List (List ℕ) → List ℕ
joined [] = []
joined (r ∷ l) = r ++ joined l

-- The first n rows of a table whose rows have w words.
abbrev pub first_rows : ℕ → ℕ → List ℕ → List (List ℕ)
first_rows w zero t = []
first_rows w (suc n) t = take w t ∷ first_rows w n (drop w t)
