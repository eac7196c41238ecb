-- Document 02, Req 03 and Req 10: the core text of a module: what `print_canonical` of format/printer.rs writes.
use Rattle.std.specs.Prelude.{List, [], ◌∷◌, ◌++◌, map, cond, ℕ, eqb}
use Rattle.std.proofs.Math.Option.{Option, none, some}
use Rattle.words.specs.Words.{ascii}
use Rattle.terms.specs.Forms.{Shape, alone, with_name, with_numeral, binding, plain, Form, form_of_kind, universe, var_kind, global_kind, counts_as}
use Rattle.terms.specs.Tree.{Forest, nil, node, relabel}
use Rattle.terms.specs.Label.{Name, part, Label, Named}
use Rattle.terms.specs.Resolution.{Core, kept, var, global, unknown, Resolved, CoreDeclaration}
use Rattle.terms.specs.TextForms.{text_forms}
use Rattle.printing.specs.Decimal.{decimal}

-- A declaration of the core with the bytes of its name and of its numerals.
pub record Spelled : Type 0 where
  pub kind : ℕ
  pub name : Name
  pub terms : Forest Named

-- `write_term`: a term of a form, with its numeral and the text of its arguments, each behind a space: WORD, (WORD NUMERAL) or (WORD T .. T).
-- Core text has no other shapes.
unfoldable pub print_shape : Form → Shape → Name → List ℕ → List ℕ
print_shape f alone n args = f.word
print_shape f with_name n args = []
print_shape f with_numeral n args = 40 ∷ (f.word ++ (32 ∷ (n ++ (41 ∷ []))))
print_shape f binding n args = []
print_shape f plain n args = 40 ∷ (f.word ++ (args ++ (41 ∷ [])))

unfoldable pub print_form : Option Form → Name → List ℕ → List ℕ
print_form none n args = []
print_form (some f) n args = print_shape f f.shape n args

-- Terms, each behind a space.
unfoldable pub print_terms : Forest Named → List ℕ
print_terms nil = []
print_terms (node l a r) = 32 ∷ (print_form (form_of_kind l.kind text_forms) l.name (print_terms a) ++ print_terms r)

-- The word of a declaration's kind: postulate 1, transparent 2, opaque 3.
unfoldable pub declaration_word : ℕ → List ℕ
declaration_word k = cond (eqb k 1) (ascii "postulate") (cond (eqb k 2) (ascii "transparent") (ascii "opaque"))

-- `write_declaration`: (WORD "NAME" T) or (WORD "NAME" T T), behind a space. A source's names are identifiers, of which `write_string` writes
-- each byte as it is. `"` is 34.
unfoldable pub print_declarations : List Spelled → List ℕ
print_declarations [] = []
print_declarations (d ∷ l) =
    32 ∷ 40 ∷ (declaration_word d.kind ++ (32 ∷ 34 ∷ (d.name ++ (34 ∷ (print_terms d.terms ++ (41 ∷ print_declarations l))))))

abbrev pub text_head : List ℕ
text_head = ascii "(hott-core (format 0 1) (theory \"mltt-core\" 0 1) (declarations"

-- `print_canonical`: the head, the declarations, and `))` with byte 10.
unfoldable pub print_module : List Spelled → List ℕ
print_module l = text_head ++ (print_declarations l ++ (41 ∷ 41 ∷ 10 ∷ []))

-- The core of a source, spelled: a var's count and a global's place in decimal, a universe's digits. Req 10, of an arrow: "Its core row is a
-- pi", so `(pi T T)` is written.
abbrev pub spell_core : List ℕ → Label → Core → Named
spell_core s l kept = record { kind = counts_as l.kind; name = cond (eqb l.kind universe) (part s l.start l.length) [] }
spell_core s l (var count) = record { kind = var_kind; name = decimal count }
spell_core s l (global place) = record { kind = global_kind; name = decimal place }
spell_core s l unknown = record { kind = 0; name = [] }

abbrev pub spell : List ℕ → Resolved → Named
spell s r = spell_core s r.label r.core

abbrev pub spelled_core : List ℕ → CoreDeclaration → Spelled
spelled_core s d = record { kind = d.kind; name = part s d.start d.length; terms = relabel (spell s) d.trees }

-- The core text of a source's core.
unfoldable pub print_text : List ℕ → List CoreDeclaration → List ℕ
print_text s l = print_module (map (spelled_core s) l)
