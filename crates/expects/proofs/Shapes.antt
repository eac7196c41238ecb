-- The form that an answer of the code stands for.
use Rattle.std.specs.Prelude.{Some}
use mathlib.Core.Path.{◌≡◌, refl, sym, ◌∙◌, ap}
use mathlib.Core.Option as math
use Rattle.std.proofs.lemmas.Option.{none-some, same_Some}
use Rattle.terms.specs.Forms.{Shape, alone, with_name, with_numeral, binding, plain, Form}
use Rattle.expects.specs.declared.Shape as code
use Rattle.expects.specs.declared.FormOfWord.{FormOfWord}
use Rattle.expects.specs.FormOfWord.{told_shape, told_form}

abbrev shape_of : code.Shape → Shape
shape_of code.Shape.Alone = alone
shape_of code.Shape.WithName = with_name
shape_of code.Shape.WithNumeral = with_numeral
shape_of code.Shape.Binding = binding
shape_of code.Shape.Plain = plain

shape_back : (sh : Shape) → shape_of (told_shape sh) ≡ sh
shape_back alone = refl
shape_back with_name = refl
shape_back with_numeral = refl
shape_back binding = refl
shape_back plain = refl

-- A form of a shape.
pub record FormIs (o : math.Option Form) (f : FormOfWord) (sh : Shape) : Type 0 where
  pub form : Form
  pub is : o ≡ math.some form
  pub shape : form.shape ≡ sh
  pub kind : form.kind ≡ f.kind

pub form_is : (o : math.Option Form) (f : FormOfWord) (sh : Shape) → Some f ≡ told_form o → f.shape ≡ told_shape sh → FormIs o f sh
form_is math.none f sh e q = absurd (none-some f (sym e))
form_is (math.some g) f sh e q =
    let s = same_Some _ _ e in
    record {
      form = g;
      is = refl;
      shape = sym (shape_back g.shape) ∙ ap shape_of (sym (ap (λ x. x.shape) s) ∙ q) ∙ shape_back sh;
      kind = ap (λ x. x.kind) (sym s);
    }
