-- What stands in front of a token of a core text, and its own bytes.
use Rattle.std.specs.Prelude.{Ok, Err}
use mathlib.Core.Path.{◌≡◌, refl, sym, ap, ◌∙◌, subst}
use mathlib.Core.List.{List, [], ◌∷◌, ◌++◌}
use mathlib.Core.Bool.{Bool, true, false, cond, ◌||◌}
use Prim.Native.Nat.{ℕ, suc, ◌+◌, ◌-◌, ◌≤◌}
use native.Mathlib.Omega.{arith}
use lib.Dec.{leb, eqb}
use lib.ListN.{length, take, drop, get_or}
use lib.Seq.{drop-drop, get_or-drop, take-add}
use borrow.Author.Tests.{eqb-true}
use Rattle.token.specs.Token.{within, layout_byte, malformed, token, Lexed}
use Rattle.token.specs.declared.TokenKind.{TokenKind}
use Rattle.token.specs.declared.Token.{Token}
use Rattle.token.proofs.Bounds.{Span, SpanOf, Within}
use Rattle.token.proofs.Runs.{drop_next}
use Rattle.core_token.specs.CoreToken.{core_class, string_class, core_atom_from, Open, nothing, backslash, lead, string_from, core_token_from, next_core_token}
use Rattle.core_token.specs.declared.CoreClass.{CoreClass}
use Rattle.core_token.specs.declared.CoreClass.TheVariants.{Layout, LParen, RParen, Quote, Atom, Refused}
use Rattle.core_token.proofs.Bounds.{bounds}
use Rattle.core_token.proofs.Ends.{string_here}
use Rattle.core_token.proofs.Outcomes.{atom_by, string_by, cond_by, test_by}
use Rattle.words.specs.Words.{all}
use Rattle.terms.specs.Label.{part}
use Rattle.surface.specs.Text.{text}
use Rattle.surface.specs.Grammar.{Opens, Closes}
use Rattle.core_text.specs.TextGrammar.{Quotes, between}
use Rattle.core_text.proofs.Strings.{string_goes}

module _ (t : List ℕ) where
  -- From `at` on there is layout up to a, and then a byte that is none.
  pub record Led (at a : ℕ) : Type 0 where
    pub low : at ≤ a
    pub blank : all layout_byte (part t at (a - at)) ≡ true
    pub solid : layout_byte (get_or t a 0) ≡ false

  abbrev Meets : ℕ → TokenKind → ℕ → ℕ → Type 0
  Meets at TokenKind.LParen a e = Led at a × (part t a (e - a) ≡ 40 ∷ [])
  Meets at TokenKind.RParen a e = Led at a × (part t a (e - a) ≡ 41 ∷ [])
  Meets at TokenKind.Atom a e = Led at a
  Meets at TokenKind.String a e = Led at a
  Meets at TokenKind.Eof a e = Unit {0}

  abbrev Starts : ℕ → Lexed → Type 0
  Starts at (Ok u) = Meets at u.kind u.start u.end
  Starts at (Err r) = Unit {0}

  module _ (at : ℕ) (b : ℕ) (l : List ℕ) (d : drop at t ≡ b ∷ l) where
    byte_here : get_or t at 0 ≡ b
    byte_here = let z : at ≡ at + 0 = omega arith in ap (λ n. get_or t n 0) z ∙ sym (get_or-drop at t 0 0) ∙ ap (λ (x : List ℕ). get_or x 0 0) d

    rest_here : drop (at + 1) t ≡ l
    rest_here = sym (drop-drop 1 at t) ∙ ap (drop 1) d

    -- one byte of layout more in front
    further : layout_byte b ≡ true → (a : ℕ) → Led (at + 1) a → Led at a
    unfolding all
    further e a h =
        let n : a - at ≡ suc (a - (at + 1)) = omega (arith, h.low) in
        let p : part t at (a - at) ≡ b ∷ part t (at + 1) (a - (at + 1)) = ap (λ (m : ℕ). part t at m) n ∙ ap (take (suc (a - (at + 1)))) d ∙ ap {B = List ℕ} (λ (m : List ℕ). b ∷ take (a - (at + 1)) m) (sym rest_here) in
        record { low = omega (arith, h.low); blank = rw (p, e, all) h.blank; solid = h.solid }

    meets_further : layout_byte b ≡ true → (k : TokenKind) (a e : ℕ) → Meets (at + 1) k a e → Meets at k a e
    meets_further e TokenKind.LParen a i h = (further e a h.0, h.1)
    meets_further e TokenKind.RParen a i h = (further e a h.0, h.1)
    meets_further e TokenKind.Atom a i h = further e a h
    meets_further e TokenKind.String a i h = further e a h
    meets_further e TokenKind.Eof a i h = tt

    starts_further : layout_byte b ≡ true → (x : Lexed) → Starts (at + 1) x → Starts at x
    starts_further e (Ok u) h = meets_further e u.kind u.start u.end h
    starts_further e (Err r) h = tt

    -- a byte that is no layout
    led_here : layout_byte b ≡ false → Led at at
    unfolding all
    led_here e =
        let z : at - at ≡ 0 = omega arith in
        record { low = omega arith; blank = ap (λ (n : ℕ). all layout_byte (part t at n)) z; solid = ap layout_byte byte_here ∙ e }

    one_byte : (c : ℕ) → eqb b c ≡ true → part t at (at + 1 - at) ≡ c ∷ []
    one_byte c e = let z : at + 1 - at ≡ 1 = omega arith in ap (λ (n : ℕ). part t at n) z ∙ ap (take 1) d ∙ ap {B = List ℕ} (λ (x : ℕ). x ∷ []) (eqb-true b c e)

  module _ (at start : ℕ) (h : Led at start) where
    atom_starts : (i : ℕ) (l : List ℕ) → Starts at (core_atom_from start i l)
    unfolding core_atom_from
    atom_starts i [] = h
    atom_starts i (b ∷ l) = atom_by (Starts at) (core_class b) start i _ h tt (atom_starts (i + 1) l)

    string_starts : (l : List ℕ) (o : Open) (i : ℕ) → Starts at (string_from start o i l)
    unfolding string_from
    string_starts [] nothing i = tt
    string_starts [] (backslash e) i = tt
    string_starts [] (lead e) i = tt
    string_starts (b ∷ l) nothing i =
        string_by (Starts at) (string_class b) i _ _ _ _ (λ k. cond_by (Starts at) (eqb i (start + 1)) _ _ tt (λ n. h))
        (string_starts l (backslash i) (i + 1)) tt (string_starts l (lead i) (i + 1)) (string_starts l nothing (i + 1))
    string_starts (b ∷ l) (backslash e) i = test_by (Starts at) (eqb b 34 || eqb b 92) _ _ (string_starts l nothing (i + 1)) tt
    string_starts (b ∷ l) (lead e) i = test_by (Starts at) (leb b 0x9F) _ _ tt (string_starts l nothing (i + 1))

  -- By the tests of the byte, in their order.
  abbrev classes : Bool → Bool → Bool → Bool → Bool → CoreClass
  classes l o p q a = cond l CoreClass.Layout (cond o CoreClass.LParen (cond p CoreClass.RParen (cond q CoreClass.Quote (cond a CoreClass.Atom CoreClass.Refused))))

  starts_by : (at b : ℕ) (l : List ℕ) → drop at t ≡ b ∷ l → Starts (at + 1) (core_token_from (at + 1) l) → (x o p q a : Bool) → layout_byte b ≡ x → eqb b 40 ≡ o → eqb b 41 ≡ p
      → Starts at (elim (classes x o p q a) as (λ _. Lexed) [
        | Layout ↦ core_token_from (at + 1) l
        | LParen ↦ token TokenKind.LParen at (at + 1)
        | RParen ↦ token TokenKind.RParen at (at + 1)
        | Quote ↦ string_from at nothing (at + 1) l
        | Atom ↦ core_atom_from at (at + 1) l
        | Refused ↦ malformed at
      ])
  starts_by at b l d h true o p q a e f g = starts_further at b l d e (core_token_from (at + 1) l) h
  starts_by at b l d h false true p q a e f g = (led_here at b l d e, one_byte at b l d 40 f)
  starts_by at b l d h false false true q a e f g = (led_here at b l d e, one_byte at b l d 41 g)
  starts_by at b l d h false false false true a e f g = string_starts at at (led_here at b l d e) l nothing (at + 1)
  starts_by at b l d h false false false false true e f g = atom_starts at at (led_here at b l d e) (at + 1) l
  starts_by at b l d h false false false false false e f g = tt

  starts : (l : List ℕ) (at : ℕ) → drop at t ≡ l → Starts at (core_token_from at l)
  unfolding core_token_from core_class
  starts [] at d = tt
  starts (b ∷ l) at d =
      starts_by at b l d (starts l (at + 1) (rest_here at b l d)) (layout_byte b) (eqb b 40) (eqb b 41) (eqb b 34) (within 0x21 0x7E b) refl refl refl

  -- A token that was taken at an offset.
  module _ (at : ℕ) (u : Token) (e : next_core_token t at ≡ Ok u) where
    starts_got : Meets at u.kind u.start u.end
    unfolding next_core_token
    starts_got = subst (Starts at) e (starts (drop at t) at refl)

    led_by : (k : TokenKind) → ¬ (k ≡ TokenKind.Eof) → Meets at k u.start u.end → Led at u.start
    led_by TokenKind.LParen g h = h.0
    led_by TokenKind.RParen g h = h.0
    led_by TokenKind.Atom g h = h
    led_by TokenKind.String g h = h
    led_by TokenKind.Eof g h = absurd (g refl)

    pub led : ¬ (u.kind ≡ TokenKind.Eof) → Led at u.start
    led g = led_by u.kind g starts_got

    pub open_text : Opens u → text t u ≡ 40 ∷ []
    open_text k = (subst (λ (x : TokenKind). Meets at x u.start u.end) k starts_got).1

    pub close_text : Closes u → text t u ≡ 41 ∷ []
    close_text k = (subst (λ (x : TokenKind). Meets at x u.start u.end) k starts_got).1

    span_by : (k : TokenKind) → ¬ (k ≡ TokenKind.Eof) → SpanOf k at u.start u.end (length t) → Span at u.start u.end (length t)
    span_by TokenKind.LParen g h = h
    span_by TokenKind.RParen g h = h
    span_by TokenKind.Atom g h = h
    span_by TokenKind.String g h = h
    span_by TokenKind.Eof g h = absurd (g refl)

    -- A token that is not the end has a byte, within the text.
    pub span : ¬ (u.kind ≡ TokenKind.Eof) → Span at u.start u.end (length t)
    span g = span_by u.kind g (subst (Within at (length t)) e (bounds t at))

    -- The end token stands at the end.
    pub at_end : u.kind ≡ TokenKind.Eof → at ≤ length t → u.start ≡ length t
    at_end k h = (subst (λ (x : TokenKind). SpanOf x at u.start u.end (length t)) k (subst (Within at (length t)) e (bounds t at)) h).0

    -- `"` is 34.
    pub string_text : Quotes u → text t u ≡ 34 ∷ (text t (between u) ++ (34 ∷ []))
    string_text k =
        let q = string_here t at u e k in
        let b = span (λ z. string_goes u.kind k z) in
        let n = u.end - 1 - (u.start + 1) in
        let z : u.end - u.start ≡ suc (n + 1) = omega (arith, q.some) in
        let y : u.start + 1 + n ≡ u.end - 1 = omega (arith, q.some) in
        let f : drop u.start t ≡ 34 ∷ drop (u.start + 1) t = drop_next t u.start (omega (arith, b.some, b.high)) ∙ ap {B = List ℕ} (λ (x : ℕ). x ∷ drop (u.start + 1) t) q.opens in
        let l : take 1 (drop (u.end - 1) t) ≡ 34 ∷ [] = ap (take 1) (drop_next t (u.end - 1) (omega (arith, b.some, b.high))) ∙ ap {B = List ℕ} (λ (x : ℕ). x ∷ []) q.closes in
        let r : drop n (drop (u.start + 1) t) ≡ drop (u.end - 1) t = drop-drop n (u.start + 1) t ∙ ap (λ (i : ℕ). drop i t) y in
        ap (λ (m : ℕ). take m (drop u.start t)) z ∙ ap (take (suc (n + 1))) f
        ∙ ap {B = List ℕ} (λ (m : List ℕ). 34 ∷ m) (take-add n 1 (drop (u.start + 1) t) ∙ ap (λ (m : List ℕ). take n (drop (u.start + 1) t) ++ m) (ap (take 1) r ∙ l))
