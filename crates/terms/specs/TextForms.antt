-- Document 02, Req 03: the forms of core text, from those of edition 0 1: without names and binders, and with var and global. An arrow is none of
-- them, since, by Req 10, "Its core row is a pi".
use Rattle.std.specs.Prelude.{List, [], ◌∷◌}
use Rattle.words.specs.Words.{ascii}
use Rattle.terms.specs.Forms.{Shape, alone, with_name, with_numeral, binding, plain, Form, form, forms, var_kind, global_kind}

-- The same form without its binder.
abbrev pub unbound_shape : Shape → Shape
unbound_shape alone = alone
unbound_shape with_name = with_name
unbound_shape with_numeral = with_numeral
unbound_shape binding = plain
unbound_shape plain = plain

abbrev pub unbound : Form → Form
unbound f = form f.word f.kind (unbound_shape f.shape) f.arity

-- References have no form of their own in the core.
abbrev pub without_name : Form → Shape → List Form → List Form
without_name f alone l = unbound f ∷ l
without_name f with_name l = l
without_name f with_numeral l = unbound f ∷ l
without_name f binding l = unbound f ∷ l
without_name f plain l = unbound f ∷ l

abbrev pub without_names : List Form → List Form
without_names [] = []
without_names (f ∷ l) = without_name f f.shape (without_names l)

-- `(var NUMERAL)`, `(global NUMERAL)`, `(universe NUMERAL)`, `(pi T T)`, `(lam T)`, .., `empty`, ..
unfoldable pub text_forms : List Form
text_forms = form (ascii "var") var_kind with_numeral 0 ∷ form (ascii "global") global_kind with_numeral 0 ∷ without_names forms
