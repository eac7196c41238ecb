-- The first mention is the lowest-numbered row that qualifies.
use mathlib.Core.Path.{◌≡◌, refl, ap, subst}
use mathlib.Core.Logic.{◌↔◌}
use mathlib.Core.List.{List}
use mathlib.Core.Option.{Option, none, some}
use Prim.Native.Nat.{ℕ, ◌<◌}
use native.Mathlib.Omega.{arith}
use Rattle.std.specs.Prelude.{Ok, Some, None, Err}
use Rattle.token.specs.declared.Refusal.{Refusal}
use Rattle.terms.specs.Resolution.{CoreDeclaration}
use Rattle.dependence.specs.Answer.{Dependence}
use Rattle.dependence.specs.Depends.{type_rows, body_rows, Among, Qualifies, Depends, LowestRow}
use Rattle.dependence.specs.First.{own_rows, first_naming, shows, first_mention}
use Rattle.dependence.specs.Asks.{shown}
use Rattle.dependence.specs.Statements.{Says}
use Rattle.dependence.proofs.Naming.{Passes, rows_from, front_lower, Found, first_found}
use Rattle.dependence.proofs.Counted.{own_either, either_own}
use Rattle.dependence.proofs.Earlier.{Earlier}
use Rattle.dependence.proofs.Showing.{found_shows, shows_found, shows_upwards}

-- What was found, from the answer.
yes_found : (o : Option ℕ) (r : ℕ) → shown o ≡ Ok (Some r) → o ≡ some r
yes_found none r e = absurd (let z : ◌≡◌ {A = ℕ} 0 1 = cc in omega arith)
yes_found (some q) r e = let f : q ≡ r = cc in ap some f

no_found : (o : Option ℕ) → shown o ≡ (Ok None) → o ≡ none
no_found none e = refl
no_found (some q) e = absurd (let z : ◌≡◌ {A = ℕ} 0 1 = cc in omega arith)

never_refused : (o : Option ℕ) (r : Refusal) → shown o ≡ Err r → ⊥
never_refused none r e = let z : ◌≡◌ {A = ℕ} 0 1 = cc in omega arith
never_refused (some q) r e = let z : ◌≡◌ {A = ℕ} 0 1 = cc in omega arith

pub type_first : (m : List CoreDeclaration) (i p q r t : ℕ) → Among p r (type_rows 0 m i) → Among q t (body_rows 0 m i) → r < t
type_first m i = front_lower 0 (type_rows 0 m i) (body_rows 0 m i) (rows_from m i)

module _ (m : List CoreDeclaration) (earlier : Earlier m) (i j : ℕ) where
  -- A row names a place that shows j exactly if it qualifies.
  passes_qualifies : (r : ℕ) → Passes (shows m j) r (own_rows m i) → Qualifies m i j r
  passes_qualifies r h = (h.place, own_either m i h.place r h.among, found_shows m j h.place h.place h.passes)

  qualifies_passes : (r : ℕ) → Qualifies m i j r → Passes (shows m j) r (own_rows m i)
  qualifies_passes r h = record { place = h.0; among = either_own m i h.0 r h.1; passes = shows_found m j earlier h.0 h.2 h.0 (omega arith) }

  -- What is found is the lowest row that qualifies; where none is found, none does.
  abbrev Shown : Option ℕ → Type 0
  Shown none = ¬ Depends m i j
  Shown (some r) = LowestRow m i j r

  first_shown : Shown (first_mention m i j)
  unfolding first_mention
  first_shown = go (first_naming (shows m j) (own_rows m i)) (first_found (shows m j) 0 (own_rows m i) (rows_from m i))
    where
      go : (o : Option ℕ) → Found (shows m j) (own_rows m i) o → Shown o
      go none h = λ d. h d.0 (qualifies_passes d.0 d.1)
      go (some r) h = record { qualifies = passes_qualifies r h.passes; lowest = λ q k. h.lowest q (qualifies_passes q k) }

  -- No other is.
  one_shown : (o p : Option ℕ) → Shown o → Shown p → o ≡ p
  one_shown none none h k = refl
  one_shown none (some r) h k = absurd (h (r, k.qualifies))
  one_shown (some r) none h k = absurd (k (r, h.qualifies))
  one_shown (some r) (some q) h k = ap some (omega (arith, h.lowest q k.qualifies, k.lowest r h.qualifies))

  pub shown_exactly : (o : Option ℕ) → (first_mention m i j ≡ o) ↔ Shown o
  shown_exactly o = (λ e. subst Shown e first_shown, λ h. one_shown (first_mention m i j) o first_shown h)

  -- As an answer.
  pub says_exactly : (b : Dependence) → (shown (first_mention m i j) ≡ b) ↔ Says m i j b
  says_exactly (Ok (Some r)) =
      let e = shown_exactly (some r) in (λ h. e.0 (yes_found (first_mention m i j) r h), λ h. ap shown (e.1 h))
  says_exactly (Ok None) =
      let e = shown_exactly none in (λ h. e.0 (no_found (first_mention m i j) h), λ h. ap shown (e.1 h))
  says_exactly (Err r) = (λ h. never_refused (first_mention m i j) r h, λ h. absurd h)

  -- What it depends on is earlier.
  pub depends_earlier : Depends m i j → j < i
  depends_earlier h = omega (arith, earlier i h.1.0 h.0 (either_own m i h.1.0 h.0 h.1.1), shows_upwards m j earlier h.1.0 h.1.2)
