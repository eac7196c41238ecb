-- `token::all_pass` meets its contract: the fold is true exactly if every byte passes.
use Rattle.std.proofs.Common.{◌∙◌, Bool, true, ◌&&◌, ℕ, rules}
use Rattle.std.proofs.lemmas.Iterator.{YieldsList-from_slice}
use Rattle.std.proofs.lemmas.Iterator.Consumers.{fold_from_yields_List}
use Rattle.token.proofs.Blocks.{fold_every}
use Rattle.token.proofs.all_pass.Goals as goal

pub returns : goal.returns
returns g c = λ p t.
    fold_from_yields_List _ (λ (a : Bool) (b : ℕ). a && p b) true c.fold.result c.fold.ensures.ran (YieldsList-from_slice c.args.block.now cc) (λ a x b q k. search (rules, t))
    ∙ fold_every p true c.args.block.now
