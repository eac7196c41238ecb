-- Printed text is ASCII, and so it is UTF-8 without a mark.
use mathlib.Core.Path.{◌≡◌, refl, sym, ◌∙◌, subst}
use mathlib.Core.List.{List, [], ◌∷◌, ◌++◌}
use mathlib.Core.Option.{Option, some}
use mathlib.Core.Bool.{false}
use Prim.Native.Nat.{ℕ, suc, ◌+◌, ◌<◌}
use native.Mathlib.Omega.{arith}
use native.Mathlib.Nat.{add-zero}
use borrow.Author.Tests.{le-leb}
use lib.ListN.{length}
use Rattle.utf8.specs.Utf8.{table_3_7, following, valid_from, valid_length, byte_order_mark}
use Rattle.terms.specs.Forms.{Shape, alone, with_name, with_numeral, binding, plain, Form, form_of_kind}
use Rattle.terms.specs.Tree.{Forest, nil, node}
use Rattle.terms.specs.Label.{Named}
use Rattle.terms.specs.TextForms.{text_forms}
use Rattle.printing.specs.Printing.{Spelled, print_shape, print_form, print_terms, declaration_word, print_declarations, text_head, print_module}
use Rattle.core_module.proofs.Tokens.{Plain, plain_append, plain_is, wordlike_is, word_plain}
use Rattle.core_module.proofs.Forms.{legible}
use Rattle.core_module.proofs.Printable.{Fit, Printable, PrintableModule}
use Rattle.core_module.proofs.Numerals.{numeral_wordlike}

shape_plain : (c : Shape) (g : Form) (m : Named) (a : Forest Named) (x : List ℕ) → Fit c g.arity m a → Plain g.word → Plain x → Plain (print_shape g c m.name x)
unfolding print_shape
shape_plain alone g m a x h w k = w
shape_plain with_name g m a x h w k = tt
shape_plain with_numeral g m a x h w k =
    (omega arith, plain_append g.word _ w (omega arith, plain_append m.name (41 ∷ []) (word_plain m.name (numeral_wordlike m.name h.0)) (omega arith, tt)))
shape_plain binding g m a x h w k = tt
shape_plain plain g m a x h w k = (omega arith, plain_append g.word _ w (plain_append x (41 ∷ []) k (omega arith, tt)))

form_plain : (o : Option Form) (g : Form) (m : Named) (a : Forest Named) (x : List ℕ) → o ≡ some g → Fit g.shape g.arity m a → Plain g.word → Plain x → Plain (print_form o m.name x)
unfolding print_form
form_plain o g m a x e h w k = subst (λ (y : Option Form). Plain (print_form y m.name x)) (sym e) (shape_plain g.shape g m a x h w k)

terms_plain : (f : Forest Named) → Printable f → Plain (print_terms f)
unfolding print_terms
terms_plain nil h = tt
terms_plain (node m a r) h =
    let g = h.0.0 in (
      omega arith,
      plain_append (print_form (form_of_kind m.kind text_forms) m.name (print_terms a)) (print_terms r)
          (form_plain (form_of_kind m.kind text_forms) g m a (print_terms a) h.0.1 h.0.2 (word_plain g.word (wordlike_is g.word (legible m.kind g h.0.1).is_word)) (terms_plain a h.1))
          (terms_plain r h.2),
    )

declarations_plain : (l : List Spelled) → PrintableModule l → Plain (print_declarations l)
unfolding print_declarations
declarations_plain [] h = tt
declarations_plain (d ∷ l) h =
    let w = declaration_word d.kind in (
      omega arith,
      (
        omega arith,
        plain_append w _ (word_plain w (wordlike_is w h.0.kinded.atom)) (
          omega arith,
          (
            omega arith,
            plain_append d.name _ h.0.plain
                (omega arith, plain_append (print_terms d.terms) _ (terms_plain d.terms h.0.printable) (omega arith, declarations_plain l h.1)),
          ),
        ),
      ),
    )

pub module_plain : (l : List Spelled) → PrintableModule l → Plain (print_module l)
unfolding print_module
module_plain l h =
    plain_append text_head (print_declarations l ++ (41 ∷ 41 ∷ 10 ∷ [])) (plain_is text_head refl)
    (plain_append (print_declarations l) (41 ∷ 41 ∷ 10 ∷ []) (declarations_plain l h) (omega arith, (omega arith, (omega arith, tt))))

-- ASCII is UTF-8.
first_plain : (b : ℕ) → b < 128 → following b table_3_7 ≡ some []
unfolding following table_3_7
first_plain b h = rw (le-leb 0 b (omega arith), le-leb b 127 (omega arith), following)

plain_valid : (good at : ℕ) (l : List ℕ) → Plain l → valid_from good at [] l ≡ at + length l
unfolding valid_from
plain_valid good at [] h = sym (add-zero at)
plain_valid good at (b ∷ l) h = rw (first_plain b h.0, valid_from) (plain_valid at (at + 1) l h.1 ∙ (let q : at + 1 + length l ≡ at + suc (length l) = omega arith in q))

pub plain_whole : (l : List ℕ) → Plain l → valid_length l ≡ length l
unfolding valid_length
plain_whole l h = plain_valid 0 0 l h ∙ (let q : 0 + length l ≡ length l = omega arith in q)

pub no_mark : (l : List Spelled) → byte_order_mark (print_module l) ≡ false
unfolding byte_order_mark print_module
no_mark l = refl
