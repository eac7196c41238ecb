-- `core_token::lex_string` meets its contract: what is left of the string is what the whole is.
use Rattle.std.proofs.Common.{◌≡◌, ◌+◌, ℕ, List, drop, refl, ap, sym, ◌∙◌, arith}
use borrow.Author.Rules.{rules}
use Rattle.core_token.specs.CoreToken.{nothing, string_from}
use Rattle.core_token.proofs.Runs.{string_direct, string_quote, string_control, string_backslash, string_lead, escape_good, escape_bad, escape_end, lead_good, lead_bad, lead_end, string_end}
use Rattle.core_token.proofs.lex_string.Goals as goal

-- Two bytes further, in one step or in two.
two : (s : List ℕ) (start i : ℕ) → string_from start nothing (i + 1 + 1) (drop (i + 1 + 1) s) ≡ string_from start nothing (i + 2) (drop (i + 2) s)
two s start i = ap (λ k. string_from start nothing k (drop k s)) (let q : i + 1 + 1 ≡ i + 2 = omega arith in q)

pub loop-pos-init : goal.loop-pos-init
loop-pos-init c = (omega arith, refl)

pub loop-pos-preserved-in-Direct : goal.loop-pos-preserved-in-Direct
loop-pos-preserved-in-Direct c = (omega arith, c.loop-pos.invariant.1 ∙ string_direct _ _ (search rules) _ (sym c.string_class.ensures ∙ c.in-Direct.is))

pub returns-in-Quote : goal.returns-in-Quote
returns-in-Quote c = c.close_string.ensures ∙ sym (c.loop-pos.invariant.1 ∙ string_quote _ _ (search rules) _ (sym c.string_class.ensures ∙ c.in-Quote.is))

pub returns-in-Control : goal.returns-in-Control
returns-in-Control c = c.malformed_at.ensures ∙ sym (c.loop-pos.invariant.1 ∙ string_control _ _ (search rules) _ (sym c.string_class.ensures ∙ c.in-Control.is))

-- the text ends behind a backslash
pub returns-in_default : goal.returns-in_default
returns-in_default c =
    c.malformed_at-in_default.ensures
    ∙ sym (c.loop-pos.invariant.1
    ∙ string_backslash _ _ (search rules) _ (sym c.string_class.ensures ∙ c.in-Backslash.is)
    ∙ escape_end _ _ c.in_default.ensures.lookup.3 _ _)

pub returns-then-not-is_escaped : goal.returns-then-not-is_escaped
returns-then-not-is_escaped c =
    let h = c.in-Some.ensures.lookup.3 in
    c.malformed_at-then-not-is_escaped.ensures
    ∙ sym (c.loop-pos.invariant.1
    ∙ string_backslash _ _ (search rules) _ (sym c.string_class.ensures ∙ c.in-Backslash.is)
    ∙ escape_bad _ _ h.0 _ _ (rw (h.1 0) at (sym c.is_escaped.ensures ∙ c.if-not-is_escaped.true)))

pub loop-pos-preserved-in-Backslash : goal.loop-pos-preserved-in-Backslash
loop-pos-preserved-in-Backslash c =
    let h = c.in-Some.ensures.lookup.3 in (
      omega arith,
      c.loop-pos.invariant.1
          ∙ string_backslash _ _ (search rules) _ (sym c.string_class.ensures ∙ c.in-Backslash.is)
          ∙ escape_good _ _ h.0 _ _ (rw (h.1 0) at (sym c.is_escaped.ensures ∙ c.if-not-is_escaped.false))
          ∙ two c.args.s.now c.args.start c.loop-pos.pos,
    )

pub returns-in-Some-0-to-159 : goal.returns-in-Some-0-to-159
returns-in-Some-0-to-159 c =
    let h = c.in-Some-0-to-159.ensures.lookup.3 in
    let e = h.1 0 in
    c.malformed_at-in-Some-0-to-159.ensures
    ∙ sym (c.loop-pos.invariant.1
    ∙ string_lead _ _ (search rules) _ (sym c.string_class.ensures ∙ c.in-Lead.is)
    ∙ lead_bad _ _ h.0 _ _ (omega (arith, e)))

pub loop-pos-preserved : goal.loop-pos-preserved
loop-pos-preserved c =
    let h = c.in-Some-get.ensures.lookup.3 in
    let e = h.1 0 in (
      omega arith,
      c.loop-pos.invariant.1
          ∙ string_lead _ _ (search rules) _ (sym c.string_class.ensures ∙ c.in-Lead.is)
          ∙ lead_good _ _ h.0 _ _ (omega (arith, e))
          ∙ two c.args.s.now c.args.start c.loop-pos.pos,
    )

-- a lead at the end leaves the string open
pub returns-in-None : goal.returns-in-None
returns-in-None c =
    let h = c.in-None.ensures.lookup.3 in
    c.malformed_at-in-None.ensures
    ∙ sym (c.loop-pos.invariant.1
    ∙ string_lead _ _ (search rules) _ (sym c.string_class.ensures ∙ c.in-Lead.is)
    ∙ lead_end _ _ h _ _
    ∙ string_end _ _ h _)

pub returns : goal.returns
returns c = c.malformed_at-2.ensures ∙ sym (c.loop-pos.invariant.1 ∙ string_end _ _ (search rules) _)
