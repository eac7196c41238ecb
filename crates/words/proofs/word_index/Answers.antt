-- `word_index` meets its contract: no word has more than 11 bytes.
use mathlib.Core.Path.{refl}
use mathlib.Core.Bool.{Bool}
use mathlib.Core.List.{List, []}
use Prim.Native.Nat.{ℕ}
use native.Mathlib.Omega.{arith}
use lib.Dec.{leb}
use lib.ListN.{length}
use borrow.Author.Tests.{le-leb}
use Rattle.words.specs.Words.{reserved_words}
use Rattle.words.proofs.Every.{Every}
use Rattle.words.proofs.Lookup.{covered, none_of}
use Rattle.words.proofs.word_index.Goals as goal

abbrev too_long : List ℕ → Bool
too_long w = leb 12 (length w)

longest : Every (covered too_long []) 28
unfolding reserved_words
longest = record { computed = refl }

pub returns-in_default : goal.returns-in_default
returns-in_default c =
    let w = c.args.w.now in
    none_of too_long [] w longest (le-leb 12 (length w) (omega arith)) tt
