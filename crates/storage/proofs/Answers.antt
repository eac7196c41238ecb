-- The answer of `storage`, from what its calls give.
use mathlib.Core.Path.{◌≡◌, refl, sym, ap, ◌∙◌}
use mathlib.Core.List.{List}
use Prim.Native.Nat.{ℕ, ◌*◌, ◌/◌, ◌≤◌}
use native.Mathlib.Omega.{arith}
use lib.ListN.{length}
use Rattle.std.specs.Prelude.{Ok, Err}
use Rattle.token.specs.declared.Refusal.{Refusal}
use Rattle.terms.specs.Label.{Declaration}
use Rattle.surface.specs.Reader.{start, Result, done, refused}
use Rattle.surface.specs.Reading.{read_module}
use Rattle.surface.specs.Tables.{ample}
use Rattle.surface.specs.Loading.{parsing}
use Rattle.least_storage.specs.Answer.{Storage, needs}
use Rattle.least_storage.specs.Storage.{needed, storage}
use Rattle.reader.specs.declared.Limits.{Limits}
use Rattle.reader.specs.Answers.{ModuleMeasured, measured}
use Rattle.reader.specs.Reads.{Measures}
use Rattle.loader.specs.inner.Tests.{LeftToRead, Tests}

module _ (s : List ℕ) (work : ℕ) where
  pub tested_refused : (r : Refusal) → Tests s work (Err r) → Err r ≡ storage s work
  unfolding storage
  tested_refused r h = ap needed (sym (h (ample s work) refl))

  -- What a module that was read needs.
  abbrev needs_of : ModuleMeasured → Storage
  needs_of (Ok m) = needs m.rows m.declarations m.frames
  needs_of (Err r) = Err r

  module _ (left : LeftToRead s work) where
    -- A row and a declaration to each byte.
    abbrev limits : Limits
    limits = record { rows = length s; declarations = length s }

    abbrev read : Result (List Declaration)
    read = read_module s (length s) (length s) 512 start

    reads : parsing s (ample s work) start ≡ read
    reads =
        let a : length s * 8 / 8 ≡ length s = omega arith in
        let b : length s * 5 / 5 ≡ length s = omega arith in
        left.reads (ample s work) refl ∙ (λ i. read_module s (a i) (b i) 512 start)

    module _ (table list : List ℕ) (m : ModuleMeasured) (table₁ list₁ : List ℕ) (g : length s ≤ 4294967295 → 5632 ≤ work → Measures limits read table list m table₁ list₁) where
      measures : Measures limits read table list m table₁ list₁
      measures = g (omega (arith, left.short)) (omega (arith, left.area))

      pub measured_refused : (r : Refusal) → m ≡ Err r → Err r ≡ storage s work
      unfolding storage
      measured_refused r i = by read measures ∙ ap needed (sym reads)
        where
          by : (y : Result (List Declaration)) → Measures limits y table list m table₁ list₁ → Err r ≡ needed y
          by (done ds q) k = absurd (let z : ◌≡◌ {A = ℕ} 0 1 = cc k.0 in omega arith)
          by (refused c) k = ap {B = Storage} Err (cc)

      pub measured_done : (rows declarations frames : ℕ) → m ≡ measured rows declarations frames → needs rows declarations frames ≡ storage s work
      unfolding storage
      measured_done rows declarations frames i = by read measures ∙ ap needed (sym reads)
        where
          by : (y : Result (List Declaration)) → Measures limits y table list m table₁ list₁ → needs rows declarations frames ≡ needed y
          by (done ds q) k = ap needs_of (sym i ∙ k.0)
          by (refused c) k = absurd (let z : ◌≡◌ {A = ℕ} 0 1 = cc in omega arith)
