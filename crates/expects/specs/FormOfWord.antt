-- The form of a word: how the answer of the code is read.
use Rattle.std.specs.Prelude.{[], ◌∷◌, ℕ, get_or, Option, Some, None, option_map}
use Rattle.std.proofs.Math.Option as math
use Rattle.words.specs.Words.{reserved_words}
use Rattle.terms.specs.Forms.{Shape, alone, with_name, with_numeral, binding, plain, Form, forms, form_of_word}
use Rattle.expects.specs.declared.Shape as code
use Rattle.expects.specs.declared.FormOfWord.{FormOfWord}

abbrev pub told_shape : Shape → code.Shape
told_shape alone = code.Shape.Alone
told_shape with_name = code.Shape.WithName
told_shape with_numeral = code.Shape.WithNumeral
told_shape binding = code.Shape.Binding
told_shape plain = code.Shape.Plain

abbrev pub told_form : math.Option Form → Option FormOfWord
told_form math.none = None
told_form (math.some f) = Some (record { kind = f.kind; shape = told_shape f.shape })

-- The form of a reserved word by its index, from 1; word 0 is none.
unfoldable pub form_at : ℕ → Option FormOfWord
form_at k = told_form (form_of_word (get_or ([] ∷ reserved_words) k []) forms)

-- The kind of a form, 0 where there is none.
abbrev pub kind_of : Option FormOfWord → ℕ
kind_of (Some f) = f.kind
kind_of None = 0

-- How a form is written where no name is: not at all where it is nothing but a name.
abbrev pub unnamed_shape : code.Shape → Option code.Shape
unnamed_shape code.Shape.Alone = Some code.Shape.Alone
unnamed_shape code.Shape.WithName = None
unnamed_shape code.Shape.WithNumeral = Some code.Shape.WithNumeral
unnamed_shape code.Shape.Binding = Some code.Shape.Plain
unnamed_shape code.Shape.Plain = Some code.Shape.Plain

abbrev pub unnamed : FormOfWord → Option FormOfWord
unnamed f = option_map (λ s. record { kind = f.kind; shape = s }) (unnamed_shape f.shape)
