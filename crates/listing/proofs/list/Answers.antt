-- `listing::list` meets its contract: the lister's, with tables of the lengths that document 01 gives.
use Rattle.std.proofs.Common.{◌≡◌, ℕ, List, ap, ◌∙◌, length}
use lib.ListN.{replicate, length-replicate}
use Rattle.surface.specs.Tables.{tables, lengths}
use Rattle.text.specs.Text.{with_text, length_in}
use Rattle.lister.specs.Lists.{listing_text}
use Rattle.listing.specs.Program.{lent, program_text, Written}
use Rattle.listing.proofs.list.Goals as goal

zeros-long : (n : ℕ) → length (replicate {A = ℕ} n 0) ≡ n
zeros-long n = length-replicate n 0

all-lent : lengths (tables (replicate 8192 0) (replicate 8192 0) (replicate 1280 0) (replicate 16384 0)) ≡ lent
all-lent = λ i. record {
  surface = zeros-long 8192 i;
  core = zeros-long 8192 i;
  declarations = zeros-long 1280 i;
  work = zeros-long 16384 i;
}

pub returns : goal.returns
unfolding Written program_text
returns c =
    let a = c.args in
    let k = c.list-listed.ensures in
    let e = ap (listing_text a.s.now) all-lent in
    (k.content ∙ ap (with_text a.text.now) e, k.told ∙ ap (λ (t : List ℕ). length_in a.text.now (length t)) e)
