-- The word of a kind and how many numbers stand behind it, as the code's table gives them.
use Rattle.std.specs.Prelude.{true, false, ◌||◌, List, [], ℕ, eqb}
use Rattle.std.proofs.Math.Option.{none, some}
use Rattle.words.specs.Words.{ascii}
use Rattle.terms.specs.Forms.{forms, form_of_kind, var_kind, global_kind, arity_of}

-- The words of the kinds from 1 to 24, one behind the other.
unfoldable pub words : List ℕ
words = ascii "varglobaluniversepilamappsigmapairfstsndidrefljemptyempty-elimunitstarunit-elimnatzerosuccnat-elimannref"

-- The word of a kind: that of its form, and the core's two kinds of references.
unfoldable pub word_of_kind : ℕ → List ℕ
word_of_kind k =
    elim (eqb k var_kind) [
      | true ↦ ascii "var"
      | false ↦ elim (eqb k global_kind) [ true ↦ ascii "global" | false ↦ elim (form_of_kind k forms) [ none ↦ [] | some f ↦ f.word ] ]
    ]

-- A var has a count and a global a place; other kinds have their children.
unfoldable pub field_count : ℕ → ℕ
field_count k = elim (eqb k var_kind || eqb k global_kind) [ true ↦ 1 | false ↦ arity_of k ]
