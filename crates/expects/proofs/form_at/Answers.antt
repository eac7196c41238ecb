-- `expects::form_at` meets its contract.
use Rattle.std.specs.Prelude.{None}
use mathlib.Core.Path.{refl, sym, ap}
use native.Mathlib.Omega.{arith}
use Rattle.words.specs.Words.{same_bytes, reserved_words}
use Rattle.terms.specs.Forms.{forms, form_of_word}
use Rattle.expects.specs.FormOfWord.{form_at}
use Rattle.expects.proofs.Indices.{same_value, shape_of, shape_plain, form_by}
use Rattle.expects.proofs.form_at.Goals as goal

pub returns-then-k-lt6 : goal.returns-then-k-lt6
unfolding form_at forms form_of_word same_bytes reserved_words
returns-then-k-lt6 c = same_value (λ k. None) form_at 0 6 c.args.k refl (omega arith) (omega arith)

pub returns-in-1 : goal.returns-in-1
unfolding form_at forms form_of_word same_bytes reserved_words
returns-in-1 c = form_by _ refl c.args.k _ _ (omega arith) c.requires c.kind_at-kind.ensures (ap shape_of (sym c.in-1.is))

pub returns-in-2 : goal.returns-in-2
unfolding form_at forms form_of_word same_bytes reserved_words
returns-in-2 c = form_by _ refl c.args.k _ _ (omega arith) c.requires c.kind_at-kind.ensures (ap shape_of (sym c.in-2.is))

pub returns-in-3 : goal.returns-in-3
unfolding form_at forms form_of_word same_bytes reserved_words
returns-in-3 c = form_by _ refl c.args.k _ _ (omega arith) c.requires c.kind_at-kind.ensures (ap shape_of (sym c.in-3.is))

pub returns-in-4 : goal.returns-in-4
unfolding form_at forms form_of_word same_bytes reserved_words
returns-in-4 c = form_by _ refl c.args.k _ _ (omega arith) c.requires c.kind_at-kind.ensures (ap shape_of (sym c.in-4.is))

pub returns-in_default : goal.returns-in_default
unfolding form_at forms form_of_word same_bytes reserved_words
returns-in_default c =
    let n = c.in_default.in_default-own.rest in
    form_by _ refl c.args.k _ _ (omega arith) c.requires c.kind_at-kind.ensures (shape_plain _ n.0.0.0.1 n.0.0.1 n.0.1 n.1)
