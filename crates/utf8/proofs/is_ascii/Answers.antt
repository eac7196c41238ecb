-- `utf8::is_ascii` meets its contract: all bytes are ASCII if the greatest of them is.
use Rattle.std.proofs.Common.{◌∙◌, ap, ltb, ℕ, max, rules, tests}
use Rattle.std.proofs.lemmas.Iterator.{YieldsList-from_slice}
use Rattle.std.proofs.lemmas.Iterator.Consumers.{fold_from_yields_List}
use Rattle.utf8.proofs.Runs.{greatest}
use Rattle.utf8.proofs.is_ascii.Goals as goal

pub returns : goal.returns
returns c =
    let all = fold_from_yields_List _ max 0 c.fold.result c.fold.ensures.ran (YieldsList-from_slice c.args.block.now cc) (λ a x b q k. search (rules, tests)) in
    ap (λ (g : ℕ). ltb g 0x80) all ∙ greatest 0 c.args.block.now
