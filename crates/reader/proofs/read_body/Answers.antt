-- `reader::read_body` meets its contract.
use mathlib.Core.Path.{refl}
use native.Mathlib.Omega.{arith}
use Rattle.reader.proofs.Parts.{term_inside, no_body, some_body}
use Rattle.reader.proofs.read_body.Goals as goal

pub returns-then-kind-eq1 : goal.returns-then-kind-eq1
returns-then-kind-eq1 g c =
    let a = c.args in
    λ i j e.
    no_body a.input.now.format a.limits.rows a.input.now.bytes.now a.table.now a.at a.rows i.stored _ _ j (omega arith) refl refl

pub returns : goal.returns
returns g c =
    let a = c.args in
    λ i j e.
    some_body a.input.now.format a.limits.rows a.input.now.bytes.now a.table.now a.at a.rows i.stored c.read_term.result c.read_term.new.table j (λ z. omega arith)
    (c.read_term.ensures i.area (term_inside a.limits.rows a.input.now.bytes.now a.work.now a.at a.rows i))
