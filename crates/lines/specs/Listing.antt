-- Document 01, "The listing": the text that is printed for a loaded source, and for a refusal.
use Rattle.token.specs.Refusals.{number}
use Rattle.token.specs.Token.{Place}
use Rattle.std.specs.Prelude.{List, [], ◌∷◌, ◌++◌, true, false, ◌||◌, ℕ, zero, suc, ◌+◌, ◌*◌, eqb, get_or, Some, None}
use Rattle.std.proofs.Math.Option.{none, some}
use Rattle.token.specs.declared.Refusal.{Refusal}
use Rattle.words.specs.Words.{ascii}
use Rattle.terms.specs.Forms.{forms, form_of_kind, arity_of, var_kind, global_kind, universe}
use Rattle.terms.specs.Label.{part}
use Rattle.text.specs.Text.{decimal}

-- A space, and then a text.
abbrev pub spaced : List ℕ → List ℕ
spaced t = 32 ∷ t

-- "Every line ends with byte 10."
abbrev pub line : List ℕ → List ℕ
line t = t ++ (10 ∷ [])

-- "kind's word": the core's kinds, which have `var` and `global` in place of `ref`.
unfoldable pub kind_word : ℕ → List ℕ
kind_word k =
    elim (eqb k var_kind) [
      | true ↦ ascii "var"
      | false ↦ elim (eqb k global_kind) [ true ↦ ascii "global" | false ↦ elim (form_of_kind k forms) [ none ↦ [] | some f ↦ f.word ] ]
    ]

-- n words of a table from word i on, each behind a space.
unfoldable pub numbers : ℕ → List ℕ → ℕ → List ℕ
numbers zero t i = []
numbers (suc n) t i = spaced (decimal (get_or t i 0)) ++ numbers n t (i + 1)

-- "then count, place, digits or children", of the core row whose words begin at word i.
unfoldable pub row_fields : List ℕ → List ℕ → ℕ → List ℕ
row_fields s core i =
    elim (eqb (get_or core i 0) universe) [
      | true ↦ spaced (part s (get_or core (i + 1) 0) (get_or core (i + 2) 0))
      | false ↦ elim (eqb (get_or core i 0) var_kind || eqb (get_or core i 0) global_kind) [
        | true ↦ numbers 1 core (i + 1)
        | false ↦ numbers (arity_of (get_or core i 0)) core (i + 1)
      ]
    ]

-- "Row lines: row number, kind's word, then count, place, digits or children."
unfoldable pub row_line : List ℕ → List ℕ → ℕ → List ℕ
row_line s core k = line (decimal k ++ spaced (kind_word (get_or core (k * 8) 0)) ++ row_fields s core (k * 8))

-- The lines of n rows from row k on.
unfoldable pub row_lines : List ℕ → List ℕ → ℕ → ℕ → List ℕ
row_lines s core zero k = []
row_lines s core (suc n) k = row_line s core k ++ row_lines s core n (k + 1)

unfoldable pub declaration_word : ℕ → List ℕ
declaration_word k =
    elim (eqb k 1) [ true ↦ ascii "postulate" | false ↦ elim (eqb k 2) [ true ↦ ascii "transparent" | false ↦ elim (eqb k 3) [ true ↦ ascii "opaque" | false ↦ [] ] ] ]

-- "type row, body row if there is one": a postulate, of kind 1, has none.
unfoldable pub declaration_rows : List ℕ → ℕ → List ℕ
declaration_rows ds i = elim (eqb (get_or ds i 0) 1) [ true ↦ numbers 1 ds (i + 3) | false ↦ numbers 2 ds (i + 3) ]

-- "Declaration lines: place, kind, name, type row, body row if there is one."
unfoldable pub declaration_line : List ℕ → List ℕ → ℕ → List ℕ
declaration_line s ds k =
    line (decimal k ++ spaced (declaration_word (get_or ds (k * 5) 0)) ++ spaced (part s (get_or ds (k * 5 + 1) 0) (get_or ds (k * 5 + 2) 0)) ++ declaration_rows ds (k * 5))

unfoldable pub declaration_lines : List ℕ → List ℕ → ℕ → ℕ → List ℕ
declaration_lines s ds zero k = []
declaration_lines s ds (suc n) k = declaration_line s ds k ++ declaration_lines s ds n (k + 1)

-- "The first line gives the row count and the declaration count."
unfoldable pub first_line : ℕ → ℕ → List ℕ
first_line rows declarations = line (ascii "nodes " ++ decimal rows ++ ascii " declarations " ++ decimal declarations)

-- The whole listing, of a core table and a declaration list with so many rows and declarations.
unfoldable pub listing : List ℕ → List ℕ → List ℕ → ℕ → ℕ → List ℕ
listing s core ds rows declarations = first_line rows declarations ++ row_lines s core rows 0 ++ declaration_lines s ds declarations 0

unfoldable pub place_text : Place → List ℕ
place_text (Some p) = ascii " at " ++ decimal p
place_text None = []

-- "A refusal prints only `refused C` or `refused C at P`: class, offset." By the class's number.
unfoldable pub refused_line : ℕ → Place → List ℕ
refused_line c p = line (ascii "refused " ++ decimal c ++ place_text p)

abbrev pub refusal_line : Refusal → List ℕ
refusal_line r = refused_line (number r.class) r.place
