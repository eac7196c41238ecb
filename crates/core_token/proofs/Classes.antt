-- What `core_class` and `string_class` give, from facts about the byte.
use Prim.Native.Nat.{ℕ, ◌≤◌, ◌<◌}
use mathlib.Core.Path.{◌≡◌, refl, sym, ap}
use mathlib.Core.Bool.{Bool, true, false, ◌||◌, cond}
use native.Mathlib.Omega.{arith}
use native.Mathlib.Decide.{ℕ_discrete}
use lib.Dec.{ltb, eqb}
use borrow.Author.Tests.{ne_eqb, eqb-true, le-leb, lt-leb, lt-ltb, le-ltb}
use Rattle.token.specs.Token.{within, layout_byte}
use Rattle.core_token.specs.CoreToken.{core_class, string_class}
use Rattle.core_token.specs.declared.CoreClass.{CoreClass}
use Rattle.core_token.specs.declared.StringClass.{StringClass}

abbrev pub Not : ℕ → ℕ → Type 0
Not b k = b ≡ k → ⊥

module _ (b : ℕ) where
  -- `9 | 10` is a range test in the code.
  pub nine_ten : 9 ≤ b → b < 11 → CoreClass.Layout ≡ core_class b
  unfolding core_class
  nine_ten l h = elim (ℕ_discrete b 9) [ yes e ↦ ap core_class (sym e) | no n ↦ ap core_class (sym (let q : b ≡ 10 = omega arith in q)) ]

  -- Below 33 stand layout and refused bytes.
  pub low_refused : b < 33 → Not b 9 → Not b 10 → Not b 13 → Not b 32 → CoreClass.Refused ≡ core_class b
  unfolding core_class
  low_refused h h9 h10 h13 h32 =
      simp (
        ne_eqb b 9 h9,
        ne_eqb b 10 h10,
        ne_eqb b 13 h13,
        ne_eqb b 32 h32,
        ne_eqb b 40 (λ q. omega arith),
        ne_eqb b 41 (λ q. omega arith),
        ne_eqb b 34 (λ q. omega arith),
        lt-leb 33 b (omega arith),
      )

  pub high_refused : 127 ≤ b → CoreClass.Refused ≡ core_class b
  unfolding core_class
  high_refused h =
      simp (
        ne_eqb b 9 (λ q. omega arith),
        ne_eqb b 10 (λ q. omega arith),
        ne_eqb b 13 (λ q. omega arith),
        ne_eqb b 32 (λ q. omega arith),
        ne_eqb b 40 (λ q. omega arith),
        ne_eqb b 41 (λ q. omega arith),
        ne_eqb b 34 (λ q. omega arith),
        le-leb 33 b (omega arith),
        lt-leb b 126 (omega arith),
      )

  pub range_atom : 32 ≤ b → b < 127 → Not b 32 → Not b 34 → Not b 40 → Not b 41 → CoreClass.Atom ≡ core_class b
  unfolding core_class
  range_atom l h h32 h34 h40 h41 =
      simp (
        ne_eqb b 9 (λ q. omega arith),
        ne_eqb b 10 (λ q. omega arith),
        ne_eqb b 13 (λ q. omega arith),
        ne_eqb b 32 h32,
        ne_eqb b 40 h40,
        ne_eqb b 41 h41,
        ne_eqb b 34 h34,
        le-leb 33 b (omega arith),
        le-leb b 126 (omega arith),
      )

  pub low_control : b < 32 → StringClass.Control ≡ string_class b
  unfolding string_class
  low_control h = simp (ne_eqb b 34 (λ q. omega arith), ne_eqb b 92 (λ q. omega arith), lt-ltb b 32 h)

  pub other_direct : 32 ≤ b → Not b 34 → Not b 92 → Not b 127 → Not b 194 → StringClass.Direct ≡ string_class b
  unfolding string_class
  other_direct h h34 h92 h127 h194 = simp (ne_eqb b 34 h34, ne_eqb b 92 h92, le-ltb b 32 h, ne_eqb b 127 h127, ne_eqb b 194 h194)

apart : ◌≡◌ {A = ℕ} 0 1 → ⊥
apart z = omega arith

-- The classes of `(` and of the quotes are given by one byte each: by the test of that byte.
abbrev classes : Bool → Bool → Bool → Bool → Bool → CoreClass
classes l o p q a = cond l CoreClass.Layout (cond o CoreClass.LParen (cond p CoreClass.RParen (cond q CoreClass.Quote (cond a CoreClass.Atom CoreClass.Refused))))

open_second : (l o p q a : Bool) → classes l o p q a ≡ CoreClass.LParen → o ≡ true
open_second true o p q a e = absurd (apart cc)
open_second false true p q a e = refl
open_second false false true q a e = absurd (apart cc)
open_second false false false true a e = absurd (apart cc)
open_second false false false false true e = absurd (apart cc)
open_second false false false false false e = absurd (apart cc)

quote_fourth : (l o p q a : Bool) → classes l o p q a ≡ CoreClass.Quote → q ≡ true
quote_fourth true o p q a e = absurd (apart cc)
quote_fourth false true p q a e = absurd (apart cc)
quote_fourth false false true q a e = absurd (apart cc)
quote_fourth false false false true a e = refl
quote_fourth false false false false true e = absurd (apart cc)
quote_fourth false false false false false e = absurd (apart cc)

quote_first : (q b c l : Bool) → cond q StringClass.Quote (cond b StringClass.Backslash (cond c StringClass.Control (cond l StringClass.Lead StringClass.Direct))) ≡ StringClass.Quote → q ≡ true
quote_first true b c l e = refl
quote_first false true c l e = absurd (apart cc)
quote_first false false true l e = absurd (apart cc)
quote_first false false false true e = absurd (apart cc)
quote_first false false false false e = absurd (apart cc)

module _ (b : ℕ) where
  pub open_byte : core_class b ≡ CoreClass.LParen → b ≡ 40
  unfolding core_class
  open_byte e = eqb-true b 40 (open_second (layout_byte b) (eqb b 40) (eqb b 41) (eqb b 34) (within 0x21 0x7E b) e)

  pub quote_byte : core_class b ≡ CoreClass.Quote → b ≡ 34
  unfolding core_class
  quote_byte e = eqb-true b 34 (quote_fourth (layout_byte b) (eqb b 40) (eqb b 41) (eqb b 34) (within 0x21 0x7E b) e)

  pub string_quote_byte : string_class b ≡ StringClass.Quote → b ≡ 34
  unfolding string_class
  string_quote_byte e = eqb-true b 34 (quote_first (eqb b 34) (eqb b 92) (ltb b 0x20 || eqb b 0x7F) (eqb b 0xC2) e)
