-- Declarations read straight into rows and records: the reading order of `surface`, with each declaration as words.
use Rattle.std.specs.Prelude.{List, map, ℕ}
use Rattle.std.proofs.Math.Option.{Option, none, some}
use Rattle.token.specs.declared.Token.{Token}
use Rattle.terms.specs.Label.{Label, Declaration, trees}
use Rattle.terms.specs.Forms.{holds_span_in}
use Rattle.terms.specs.Tree.{Forest, nil, Tree, tree, maybe, Cell, next, cells}
use Rattle.terms.specs.Rows.{row_holding, rows_by, joined}
use Rattle.expects.specs.declared.Format.{Format}
use Rattle.expects.specs.Formats.{edition, declared_name, ends}
use Rattle.surface.specs.Reader.{Reader}
use Rattle.surface.specs.Reading.{term, beginning, closing, body, declared, declaration, declarations}

-- A whole type or body, where there is room for so many rows.
abbrev pub whole_term : Format → List ℕ → ℕ → Reader (Tree Label)
whole_term f s limit = term (beginning (edition f) s) (closing ((edition f).tokens s)) limit 512

-- The body of a declaration of kind 1 + j.
abbrev pub one_body : Format → List ℕ → ℕ → ℕ → Reader (Option (Tree Label))
one_body f s limit j = body (edition f) s (whole_term f s limit) j

-- A declaration of some kind behind its word t.
abbrev pub named_declaration : Format → List ℕ → ℕ → Token → ℕ → Reader Declaration
named_declaration f s limit t kind = declared (edition f) s (whole_term f s limit) (declared_name f s) (ends f) t kind

-- A declaration behind its parenthesis.
abbrev pub one_declaration : Format → List ℕ → ℕ → Reader Declaration
one_declaration f s limit = declaration (edition f) s (whole_term f s limit) (declared_name f s) (ends f)

-- Declarations to their end, where there is room for so many more.
abbrev pub all_declarations : Format → List ℕ → ℕ → ℕ → Reader (List Declaration)
all_declarations f s limit room = declarations (edition f) s (whole_term f s limit) (declared_name f s) (ends f) room

-- The row of a term in a format.
abbrev pub format_row : Format → Cell Label → List ℕ
format_row f = row_holding (holds_span_in (edition f).forms)

-- The rows of declarations, the first of which is row n.
abbrev pub format_rows : Format → ℕ → List Declaration → List (List ℕ)
format_rows f = rows_by (format_row f)

-- The words of the rows of some trees, the first of which is row n.
abbrev pub forest_words : Format → ℕ → Forest Label → List ℕ
forest_words f n a = joined (map (format_row f) (cells n a))

-- The words of a declaration's rows.
abbrev pub row_words : Format → ℕ → Declaration → List ℕ
row_words f n d = forest_words f n (trees d)

-- A body's trees: none or one.
abbrev pub body_trees : Option (Tree Label) → Forest Label
body_trees b = maybe b nil (λ t. tree t nil)

-- "body row (0 for a postulate)"
abbrev pub body_row : ℕ → Option (Tree Label) → ℕ
body_row n none = 0
body_row n (some b) = next n b.args
