-- From the answers for a term to those for a declaration.
use Rattle.token.specs.declared.Class.{Class}
use Rattle.std.specs.Prelude.{Result, Ok, Err}
use Prim.Native.Nat.{ℕ, ◌*◌}
use mathlib.Core.Path.{◌≡◌, refl, sym, ap}
use mathlib.Core.List.{List, []}
use mathlib.Core.Option.{Option, none, some}
use borrow.Author.Tests.{eq-eqb, ne_eqb}
use lib.ListN.{get_or}
use Rattle.terms.specs.Label.{part}
use Rattle.terms.specs.Resolution.{find}
use Rattle.scope.specs.Scope.{declared_names}
use Rattle.elaborate.specs.RowTerm.{TermOutcome, done, unknown_at, and_then, row_term}
use Rattle.elaborate.specs.Machine.{Answered}
use Rattle.elaborate.specs.Declarations.{ModuleOutcome, parts_outcome, record_word, declaration_outcome, Declared}
use Rattle.elaborate.specs.declared.UnknownName.{UnknownName}

pub when_done : (o : TermOutcome) (core : List ℕ) → Answered o (Ok tt) core → o ≡ done core
when_done (done c) core h = ap done (sym h.1)
when_done (unknown_at a n) core h = absurd (cc)

pub when_unknown : (o : TermOutcome) (u : UnknownName) (core : List ℕ) → Answered o (Err u) core → o ≡ unknown_at u.start u.length
when_unknown (done c) u core h = absurd (cc)
when_unknown (unknown_at a n) u core h = cc

module _ (s surface declarations : List ℕ) (rows d : ℕ) where
  module _ (kind type body : ℕ) (core : List ℕ) where
    abbrev parts : TermOutcome
    parts = parts_outcome s surface declarations rows d kind type body core

    abbrev first : TermOutcome
    first = row_term s surface declarations rows d 512 type [] core

    pub type_unknown : (u : UnknownName) (r : List ℕ) → Answered first (Err u) r → Answered parts (Err u) r
    unfolding parts_outcome and_then
    type_unknown u r h = rw (parts_outcome, when_unknown first u r h) refl

    pub postulated : (c : List ℕ) → kind ≡ 1 → Answered first (Ok tt) c → Answered parts (Ok tt) c
    unfolding parts_outcome and_then
    postulated c k h = rw (parts_outcome, when_done first c h, eq-eqb kind 1 k) (refl, refl)

    pub body_answered : (c : List ℕ) (r : Result (Unit {0}) UnknownName) (core₁ : List ℕ) → (kind ≡ 1 → ⊥) → Answered first (Ok tt) c
        → Answered (row_term s surface declarations rows d 512 body [] c) r core₁ → Answered parts r core₁
    unfolding parts_outcome and_then
    body_answered c r core₁ k e h = rw (parts_outcome, when_done first c e, ne_eqb kind 1 k) h

  module _ (core core₁ : List ℕ) where
    abbrev name_found : Option ℕ
    name_found = find (part s (record_word s surface declarations rows d 1) (record_word s surface declarations rows d 2)) (declared_names s declarations 0 d)

    abbrev whole : ModuleOutcome
    whole = declaration_outcome s surface declarations rows d core

    abbrev both : TermOutcome
    both = parts_outcome s surface declarations rows d (get_or declarations (d * 5) 0) (record_word s surface declarations rows d 3) (record_word s surface declarations rows d 4) core

    pub duplicate : (i : ℕ) → some i ≡ name_found
        → Declared whole (Err (record { class = Class.DuplicateName; start = record_word s surface declarations rows d 1; length = record_word s surface declarations rows d 2 })) core₁
    unfolding declaration_outcome
    duplicate i f = rw (declaration_outcome, ← f) refl

    pub declared : none ≡ name_found → Answered both (Ok tt) core₁ → Declared whole (Ok tt) core₁
    unfolding declaration_outcome
    declared e h = rw (declaration_outcome, ← e, when_done both core₁ h) (refl, refl)

    pub undeclared : (u : UnknownName) → none ≡ name_found → Answered both (Err u) core₁
        → Declared whole (Err (record { class = Class.UnknownName; start = u.start; length = u.length })) core₁
    unfolding declaration_outcome
    undeclared u f h = rw (declaration_outcome, ← f, when_unknown both u core₁ h) refl
