-- `storage::storage` meets its contract.
use mathlib.Core.Path.{◌∙◌, ap, ap₂}
use mathlib.Core.List.{List, []}
use Prim.Native.Nat.{ℕ}
use Rattle.terms.specs.Rows.{pad}
use Rattle.surface.specs.Tables.{Left, leaves}
use Rattle.least_storage.specs.Answer.{Storage}
use Rattle.loader.proofs.Cleared.{cleared_whole}
use Rattle.storage.proofs.storage.Goals as goal

pub returns : goal.returns
returns c =
    let m = c.measure-answer in
    let k = c.clear_from in
    ap₂ {C = Left Storage (List ℕ)} leaves m.ensures (k.ensures ∙ cleared_whole _ ∙ ap (λ (n : ℕ). pad n []) m.auto.work)
