-- `long_index` meets its contract: for each length these are the words that have it.
use Prim.Native.Nat.{ℕ}
use mathlib.Core.Path.{refl, ◌∙◌}
use mathlib.Core.Bool.{Bool}
use mathlib.Core.List.{List, [], ◌∷◌}
use native.Mathlib.Omega.{arith}
use lib.ListN.{length}
use Rattle.token.specs.Token.{within}
use Rattle.words.specs.Words.{reserved_words}
use Rattle.words.proofs.Bytes.{inside}
use Rattle.words.proofs.Every.{Every}
use Rattle.words.proofs.Lookup.{covered, one_of_two}
use Rattle.words.proofs.long_index.Goals as goal

abbrev long : ℕ → ℕ → List ℕ → Bool
long low high w = within low high (length w)

of-eight : Every (covered (long 8 8) (26 ∷ 7 ∷ [])) 28
unfolding reserved_words
of-eight = record { computed = refl }

of-nine : Every (covered (long 9 9) (22 ∷ 3 ∷ [])) 28
unfolding reserved_words
of-nine = record { computed = refl }

of-more : Every (covered (long 10 11) (4 ∷ 19 ∷ [])) 28
unfolding reserved_words
of-more = record { computed = refl }

pub returns-in-8 : goal.returns-in-8
unfolding reserved_words
returns-in-8 c =
    let w = c.args.w.now in
    c.one_of.ensures ∙ one_of_two (long 8 8) 7 26 w (omega arith) (omega arith) of-eight (inside 8 8 (length w) (omega arith) (omega arith))

pub returns-in-9 : goal.returns-in-9
unfolding reserved_words
returns-in-9 c =
    let w = c.args.w.now in
    c.one_of-in-9.ensures ∙ one_of_two (long 9 9) 3 22 w (omega arith) (omega arith) of-nine (inside 9 9 (length w) (omega arith) (omega arith))

pub returns-in_default : goal.returns-in_default
unfolding reserved_words
returns-in_default c =
    let w = c.args.w.now in
    c.one_of-in_default.ensures ∙ one_of_two (long 10 11) 19 4 w (omega arith) (omega arith) of-more (inside 10 11 (length w) (omega arith) (omega arith))
