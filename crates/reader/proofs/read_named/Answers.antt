-- `reader::read_named` meets its contract.
use Rattle.std.proofs.lemmas.Result.{err_from_is_err_and}
use Rattle.reader.proofs.Declarations.{stops, name_refused}
use Rattle.reader.proofs.Named.{name_order, type_stops, body_stops, ends}
use Rattle.reader.proofs.read_named.Goals as goal

pub declaration_record-record-requires : goal.declaration_record-record-requires
declaration_record-record-requires g c = name_order c.args.input.now.format _ _ c.parse_name.result c.parse_name.ensures _ _ c.in_ok-name.was

pub returns-in_err-name : goal.returns-in_err-name
returns-in_err-name g c =
    let a = c.args in
    let p = err_from_is_err_and c.from_residual.result c.from_residual.ensures.1 in
    rw (p.1, p.2) (λ w room t j is. stops a.input.now.format _ _ _ _ _ _ _ _ _ (name_refused a.input.now.format a.input.now.bytes.now _ t j a.at a.rows c.parse_name.result c.parse_name.ensures _ c.in_err-name.was))

pub returns-in_err-ty : goal.returns-in_err-ty
returns-in_err-ty g c =
    let a = c.args in
    let p = err_from_is_err_and c.from_residual-in_err-ty.result c.from_residual-in_err-ty.ensures.1 in
    rw (p.1, p.2) (λ w room t j is. type_stops a.input.now.format a.limits a.input.now.bytes.now a.table.now a.list.now a.work.now a.at a.rows a.k t j a.kind w room is
    c.parse_name.result c.parse_name.ensures _ _ c.in_ok-name.was c.read_term.result c.read_term.new.table c.read_term.new.work c.read_term.auto.table c.read_term.auto.work c.read_term.ensures _ c.in_err-ty.was _)

pub returns-in-Err : goal.returns-in-Err
returns-in-Err g c =
    let a = c.args in
    λ w room t j is.
    body_stops a.input.now.format a.limits a.input.now.bytes.now a.table.now a.list.now a.work.now a.at a.rows a.k t j a.kind w room is
    c.parse_name.result c.parse_name.ensures _ _ c.in_ok-name.was c.read_term.result c.read_term.new.table c.read_term.new.work c.read_term.auto.table c.read_term.auto.work c.read_term.ensures
    c.in_ok-ty.ty.row c.in_ok-ty.ty.rows c.in_ok-ty.ty.next c.in_ok-ty.ty.frames c.in_ok-ty.was c.read_body.result c.read_body.new.table c.read_body.ensures _ c.in-Err.is _

pub returns-in-Ok : goal.returns-in-Ok
returns-in-Ok g c =
    let a = c.args in
    λ w room t j is.
    ends a.input.now.format a.limits a.input.now.bytes.now a.table.now a.list.now a.work.now a.at a.rows a.k t j a.kind w room is
    c.parse_name.result c.parse_name.ensures _ _ c.in_ok-name.was c.read_term.result c.read_term.new.table c.read_term.new.work c.read_term.auto.table c.read_term.auto.work c.read_term.ensures
    c.in_ok-ty.ty.row c.in_ok-ty.ty.rows c.in_ok-ty.ty.next c.in_ok-ty.ty.frames c.in_ok-ty.was c.read_body.result c.read_body.new.table c.read_body.ensures
    c.in-Ok.field-0.row c.in-Ok.field-0.rows c.in-Ok.field-0.next c.in-Ok.field-0.frames c.in-Ok.is _ c.max-most.ensures _ c.declaration_record-record.ensures _ _ c.finish_declaration.ensures
