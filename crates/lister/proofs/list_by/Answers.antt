-- `lister::list_by` meets its contract: the text is made of what loading leaves.
use mathlib.Core.Path.{ap, ◌∙◌}
use mathlib.Core.List.{List}
use lib.ListN.{length}
use Rattle.surface.specs.Loading.{Outcome}
use Rattle.text.specs.Text.{with_text, length_in}
use Rattle.lister.specs.Lists.{text_of, listing_text}
use Rattle.lister.proofs.list_by.Goals as goal

pub returns : goal.returns
unfolding listing_text
returns g c =
    let a = c.args in
    let k = c.load_by-answer in
    let p = c.put_text-length in
    let e = ap (λ (o : Outcome). text_of a.s.now o.answer o.tables.core o.tables.declarations) k.ensures in
    record {
      loads = k.ensures;
      content = p.ensures.text_after ∙ ap (with_text a.text.now) e;
      told = p.ensures.value ∙ ap (λ (t : List _). length_in a.text.now (length t)) e;
    }
