-- `same::same` meets its contract.
use Rattle.same.proofs.SameAsked.{asked_first, asked_second, one_accepted, asked_both}
use Rattle.same.proofs.same.Goals as goal

pub compare-requires : goal.compare-requires
compare-requires c =
    let a = c.args in
    let k = c.load in
    let l = c.load-2 in
    (one_accepted a.first.now a.second.now a.surface1.now a.core1.now a.declarations1.now a.surface2.now a.core2.now a.declarations2.now a.work.now
    k.result k.new.surface k.new.core k.new.declarations k.new.work k.ensures _ _ c.in-Ok.is
    l.result l.new.surface l.new.core l.new.declarations l.new.work k.auto.work l.ensures).room

pub returns-in-Err : goal.returns-in-Err
returns-in-Err c =
    let a = c.args in
    let k = c.load in
    let l = c.clear in
    asked_first a.first.now a.second.now a.surface1.now a.core1.now a.declarations1.now a.surface2.now a.core2.now a.declarations2.now a.work.now
    k.result k.new.surface k.new.core k.new.declarations k.new.work k.ensures _ c.in-Err.is
    l.new.surface l.new.core l.new.declarations l.ensures.surface_after l.ensures.core_after l.ensures.declarations_after

pub returns-in-Err-load : goal.returns-in-Err-load
returns-in-Err-load c =
    let a = c.args in
    let k = c.load in
    let l = c.load-2 in
    let m = c.clear-in-Err-load in
    asked_second a.first.now a.second.now a.surface1.now a.core1.now a.declarations1.now a.surface2.now a.core2.now a.declarations2.now a.work.now
    k.result k.new.surface k.new.core k.new.declarations k.new.work k.ensures _ _ c.in-Ok.is
    l.result l.new.surface l.new.core l.new.declarations l.new.work k.auto.work l.ensures _ c.in-Err-load.is
    m.new.surface m.new.core m.new.declarations k.auto.surface k.auto.core k.auto.declarations m.ensures.surface_after m.ensures.core_after m.ensures.declarations_after

pub returns : goal.returns
returns c =
    let a = c.args in
    let k = c.load in
    let l = c.load-2 in
    asked_both a.first.now a.second.now a.surface1.now a.core1.now a.declarations1.now a.surface2.now a.core2.now a.declarations2.now a.work.now
    k.result k.new.surface k.new.core k.new.declarations k.new.work k.ensures _ _ c.in-Ok.is
    l.result l.new.surface l.new.core l.new.declarations l.new.work k.auto.work l.ensures _ _ c.in-Ok-load.is
    c.compare.result c.compare.ensures
