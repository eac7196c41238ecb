-- `reader::read_declaration` meets its contract.
use native.Mathlib.Omega.{arith}
use Rattle.std.proofs.lemmas.Result.{err_from_is_err_and}
use Rattle.expects.proofs.Ahead.{atom_inside}
use Rattle.reader.proofs.Declarations.{stops}
use Rattle.reader.proofs.Tagged.{word_refused, other_word, behind_word, word_got}
use Rattle.reader.proofs.read_declaration.Goals as goal

pub slice_bounds-declaration_kind-count : goal.slice_bounds-declaration_kind-count
slice_bounds-declaration_kind-count g c =
    let a = c.args in
    let h = atom_inside a.input.now.format a.input.now.bytes.now a.at _ c.next_atom.ensures _ c.in_ok-tag.was in
    omega arith

pub slice_bounds-declaration_kind-start : goal.slice_bounds-declaration_kind-start
slice_bounds-declaration_kind-start g c =
    let a = c.args in
    let h = atom_inside a.input.now.format a.input.now.bytes.now a.at _ c.next_atom.ensures _ c.in_ok-tag.was in
    omega arith

pub slice_bounds-declaration_kind-end : goal.slice_bounds-declaration_kind-end
slice_bounds-declaration_kind-end g c =
    let a = c.args in
    let h = atom_inside a.input.now.format a.input.now.bytes.now a.at _ c.next_atom.ensures _ c.in_ok-tag.was in
    omega arith

pub returns-in_err-tag : goal.returns-in_err-tag
returns-in_err-tag g c =
    let a = c.args in
    let p = err_from_is_err_and c.from_residual.result c.from_residual.ensures.1 in
    rw (p.1, p.2) (λ w room. stops a.input.now.format _ _ _ _ _ _ _ _ _ (word_refused a.input.now.format a.input.now.bytes.now _ a.at a.rows c.next_atom.result c.next_atom.ensures _ c.in_err-tag.was))

pub returns-then-kind-eq0 : goal.returns-then-kind-eq0
returns-then-kind-eq0 g c =
    let a = c.args in
    λ w room.
    stops a.input.now.format _ _ _ _ _ _ _ _ _
    (other_word a.input.now.format a.input.now.bytes.now _ a.at a.rows c.next_atom.result c.next_atom.ensures c.in_ok-tag.tag c.in_ok-tag.was
    c.declaration_kind-kind.result c.declaration_kind-kind.ensures c.if-kind-eq0.true _ c.at.ensures)

pub returns : goal.returns
returns g c =
    let a = c.args in
    λ w room.
    word_got a.input.now.format a.input.now.bytes.now _ a.at a.rows c.next_atom.result c.next_atom.ensures c.in_ok-tag.tag c.in_ok-tag.was
    c.declaration_kind-kind.result c.declaration_kind-kind.ensures c.if-kind-eq0.false a.limits a.k a.table.now a.list.now c.read_named.result
    c.read_named.new.table c.read_named.new.list
    (c.read_named.ensures
    (behind_word a.input.now.format a.limits.rows a.input.now.bytes.now a.work.now a.at a.rows c.next_atom.result c.next_atom.ensures c.in_ok-tag.tag
    c.in_ok-tag.was w) room)
