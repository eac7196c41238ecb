-- `loader::test_source` meets its contract.
use Rattle.token.specs.declared.Class.{Class}
use Prim.Native.Nat.{◌≤◌}
use mathlib.Core.Path.{sym, ap, ◌∙◌}
use native.Mathlib.Omega.{arith}
use lib.ListN.{length}
use Rattle.surface.specs.Reader.{refused, at_offset}
use Rattle.loader.proofs.Parsing.{parse_area, parse_long, parse_broken, parse_marked, parse_module}
use Rattle.loader.proofs.test_source.Goals as goal

pub returns-then-area-lt16384 : goal.returns-then-area-lt16384
returns-then-area-lt16384 c =
    let a = c.args in
    λ z e. parse_area a.s.now z (omega (arith, e, c.if-area-lt16384.true)) ∙ ap refused (sym c.nowhere.ensures)

pub returns-then-s-gt65535 : goal.returns-then-s-gt65535
returns-then-s-gt65535 c =
    let a = c.args in
    λ z e. parse_long a.s.now z (omega (arith, e, c.if-area-lt16384.false)) (omega (arith, c.if-s-gt65535.true)) ∙ ap refused (sym c.nowhere-then-s-gt65535.ensures)

pub returns-then-valid-s : goal.returns-then-valid-s
returns-then-valid-s c =
    let a = c.args in
    let v = c.valid_up_to-valid.ensures in
    λ z e. parse_broken a.s.now z (omega (arith, e, c.if-area-lt16384.false)) (omega (arith, c.if-s-gt65535.false)) (λ h. c.if-valid-s.true (v ∙ h))
    ∙ ap refused (sym (c.at.ensures ∙ ap (at_offset Class.Malformed) v))

pub returns-then-starts_with_mark : goal.returns-then-starts_with_mark
returns-then-starts_with_mark c =
    let a = c.args in
    let v = sym c.valid_up_to-valid.ensures ∙ c.if-valid-s.false in
    λ z e. parse_marked a.s.now z (omega (arith, e, c.if-area-lt16384.false)) (omega (arith, c.if-s-gt65535.false)) v (sym c.starts_with_mark.ensures ∙ c.if-starts_with_mark.true)
    ∙ ap refused (sym c.at-then-starts_with_mark.ensures)

pub returns : goal.returns
returns c =
    let a = c.args in
    let v = sym c.valid_up_to-valid.ensures ∙ c.if-valid-s.false in
    let area : 16384 ≤ a.area = omega (arith, c.if-area-lt16384.false) in
    let short : length a.s.now ≤ 65535 = omega (arith, c.if-s-gt65535.false) in
    record {
      area = area;
      short = short;
      reads = λ z e. parse_module a.s.now z (omega (arith, e, area)) short v (sym c.starts_with_mark.ensures ∙ c.if-starts_with_mark.false);
    }
