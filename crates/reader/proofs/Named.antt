-- A declaration behind its word, from what its reader's calls give.
use Rattle.reader.specs.Answers.{DeclarationRead}
use Rattle.std.specs.Prelude.{Ok, Err}
use Rattle.expects.specs.Answers.{NameRead}
use mathlib.Core.Path.{◌≡◌, refl, ◌∙◌, ap, subst}
use mathlib.Core.List.{List, [], ◌∷◌}
use Prim.Native.Nat.{ℕ, suc, ◌-◌, ◌≤◌, ◌<◌, max}
use native.Mathlib.Omega.{arith}
use lib.ListN.{length}
use Rattle.token.specs.declared.Token.{Token}
use Rattle.token.specs.declared.Refusal.{Refusal}
use Rattle.surface.specs.Reading.{closing}
use Rattle.expects.specs.Expects.{position_at, Names}
use Rattle.expects.proofs.Ahead.{NameAhead, names_got}
use Rattle.term_rows.specs.TermRows.{TermRead, read_term, ReadsTerm}
use Rattle.expects.specs.declared.Format.{Format}
use Rattle.expects.specs.Formats.{edition}
use Rattle.reader.specs.declared.Limits.{Limits}
use Rattle.reader.specs.ModuleWords.{whole_term, one_body}
use Rattle.reader.specs.Parts.{BodyReads, ReadsBody, Finishes}
use Rattle.reader.specs.Reads.{ModuleInside, Declares}
use Rattle.reader.proofs.Ahead.{term_onward}
use Rattle.reader.proofs.Parts.{present, term_inside, term_read, TypeRead, type_done, type_refused, body_done, body_refused}
use Rattle.reader.proofs.Declarations as by

pub name_order : (format : Format) (s : List ℕ) (at : ℕ) (x : NameRead) → Names format s at x → (m : Token) (at₀ : ℕ) → x ≡ Ok (m, at₀) → m.start ≤ m.end
name_order format s at x h m at₀ e = (names_got format s at x h m at₀ e 0).order

module _ (format : Format) (limits : Limits) (s table list work : List ℕ) (at n k : ℕ) (t : Token) (j kind : ℕ) (inside : ModuleInside limits.rows s work at n) (room : k < limits.declarations) (is : kind ≡ suc j)
    (x : NameRead) (h : Names format s at x) (m : Token) (at₀ : ℕ) (e : x ≡ Ok (m, at₀)) where
  named : NameAhead s (position_at at n) m (position_at at₀ n)
  named = names_got format s at x h m at₀ e n

  type_at : ModuleInside limits.rows s work at₀ n
  type_at = record { source = inside.source; area = inside.area; within = named.ahead.high; few = omega (arith, named.ahead.past, inside.few); stored = inside.stored }

  -- The type.
  module _ (y : TermRead) (table₁ work₁ : List ℕ) (u : length table₁ ≡ length table) (v : length work₁ ≡ length work)
      (g : 5632 ≤ length work → ReadsTerm (edition format) limits.rows s table at₀ n y table₁) where
    typed : BodyReads format limits.rows (present (whole_term format s limits.rows (position_at at₀ n))) n table y table₁
    typed = term_read format limits.rows s table at₀ n inside.stored y table₁ (g inside.area (term_inside limits.rows s work at₀ n type_at))

    pub type_stops : (r : Refusal) → y ≡ Err r → (list₁ : List ℕ) → Declares format limits (by.answer format s limits.rows t j at n) n k table list (Err r) table₁ list₁
    type_stops r i list₁ = by.stops format limits _ r n k table list table₁ list₁ (by.type_refused format s _ t j at n x h m at₀ e r (type_refused format limits.rows n table y table₁ r i _ typed))

    module _ (row n₁ at₁ h₁ : ℕ) (i : y ≡ Ok (read_term row n₁ at₁ h₁)) where
      type : TypeRead format limits.rows (whole_term format s limits.rows (position_at at₀ n)) n table row n₁ at₁ h₁ table₁
      type = type_done format limits.rows n table y table₁ row n₁ at₁ h₁ i _ typed

      body_at : ModuleInside limits.rows s work₁ at₁ n₁
      body_at =
          let o = term_onward format s limits.rows (position_at at₀ n) (position_at at₁ n₁) type.type type.read in
          record {
            source = inside.source;
            area = omega (arith, inside.area);
            within = o.high type_at.within;
            few = omega (arith, o.slow, type_at.few);
            stored = o.room inside.stored;
          }

      -- The body.
      module _ (z : TermRead) (table₂ : List ℕ)
          (f : ReadsBody format limits s table₁ work₁ kind at₁ n₁ z table₂) where
        bodied : BodyReads format limits.rows (one_body format s limits.rows j (position_at at₁ n₁)) n₁ table₁ z table₂
        bodied = f body_at j is

        pub body_stops : (r : Refusal) → z ≡ Err r → (list₁ : List ℕ)
            → Declares format limits (by.answer format s limits.rows t j at n) n k table list (Err r) table₂ list₁
        body_stops r q list₁ =
            by.stops format limits _ r n k table list table₂ list₁
            (by.body_refused format s _ t j at n x h m at₀ e type.type at₁ n₁ type.read r (body_refused format limits.rows n₁ table₁ z table₂ r q _ bodied))

        -- The end.
        pub ends : (body n₂ at₂ h₂ : ℕ) → z ≡ Ok (read_term body n₂ at₂ h₂) → (top : ℕ) → top ≡ max h₁ h₂ → (words : List ℕ)
            → (m.end < 4294967296 → words ≡ kind ∷ m.start ∷ (m.end - m.start) ∷ row ∷ body ∷ [])
            → (r : DeclarationRead) (list₁ : List ℕ) → Finishes (closing ((edition format).tokens s) (position_at at₂ n₂)) k top list words r list₁
            → Declares format limits (by.answer format s limits.rows t j at n) n k table list r table₂ list₁
        ends body n₂ at₂ h₂ q top f₂ words w r list₁ c =
            let d : words ≡ suc j ∷ m.start ∷ (m.end - m.start) ∷ row ∷ body ∷ [] =
            w (omega (arith, named.inside, named.ahead.high, inside.source)) ∙ ap (λ (i : ℕ). i ∷ m.start ∷ (m.end - m.start) ∷ row ∷ body ∷ []) is in
            by.ended format limits s table list at n k t j x h m at₀ e row n₁ at₁ h₁ table₁ u type body n₂ at₂ h₂ table₂ (body_done format limits.rows n₁ table₁ z table₂ body n₂ at₂ h₂ q _ bodied)
            inside.stored room top f₂ (closing ((edition format).tokens s) (position_at at₂ n₂)) refl r list₁
            (subst (λ (l : List ℕ). Finishes (closing ((edition format).tokens s) (position_at at₂ n₂)) k top list l r list₁) d c)
