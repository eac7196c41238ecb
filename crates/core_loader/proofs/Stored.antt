-- From what reading a core text stores to what the call answers.
use Rattle.token.specs.declared.Class.{Class}
use Rattle.std.specs.Prelude.{Err}
use mathlib.Core.Path.{◌≡◌, refl, sym, ap, subst, ◌∙◌}
use mathlib.Core.Bool.{Bool, true, false, cond}
use mathlib.Core.List.{List, []}
use Prim.Native.Nat.{ℕ, ◌*◌, ◌/◌}
use native.Mathlib.Omega.{arith}
use lib.ListN.{length, take}
use Rattle.token.specs.declared.Refusal.{Refusal}
use Rattle.terms.specs.Forms.{holds_span_in}
use Rattle.terms.specs.TextForms.{text_forms}
use Rattle.terms.specs.Label.{Declaration}
use Rattle.terms.specs.Rows.{joined, read_records}
use Rattle.terms.proofs.Tables.{length_joined}
use Rattle.terms.proofs.Widths.{wide_rows, total_rows}
use Rattle.surface.specs.Answer.{Answer, loaded}
use Rattle.surface.specs.Reader.{Position, start, Result, done, refused, after, at_offset}
use Rattle.surface.specs.Tables.{Lengths, tables, lengths}
use Rattle.core_text.specs.TextReading.{read_text}
use Rattle.core_text.proofs.SoundText.{sound}
use Rattle.reader.specs.Answers.{ModuleRead}
use Rattle.core_reader.specs.Texts.{ReadsText}
use Rattle.core_module.specs.CoreText.{told, repeated, text_row, text_rows, reading_text}
use Rattle.loader.proofs.Fronts.{take_front, length_records}
use Rattle.core_loader.specs.inner.Stored.{told_refusal, StoresText, CountsText, Judges}
use Rattle.core_loader.proofs.Tests.{tested}

none_counted : (x : Refusal) (core list : List ℕ) → CountsText (Err x) core list
none_counted x core list = record { rows = omega arith; records = omega arith }

-- The answer of a call that refuses.
module _ (o : Result (List Declaration)) (core list core₁ list₁ : List ℕ) (a : Answer) where
  pub stops : (x : Refusal) → o ≡ refused x → a ≡ Err x → StoresText o a core₁ list₁ × CountsText a core list
  stops x e f = (
    subst (λ (y : Result (List Declaration)). StoresText y a core₁ list₁) (sym e) f,
    subst (λ (b : Answer). CountsText b core list) (sym f) (none_counted x core list),
  )

module _ (t core list work core₁ list₁ : List ℕ) (kept : length list₁ ≡ length list) where
  abbrev z : Lengths
  z = lengths (tables [] core list work)

  abbrev read : Result (List Declaration)
  read = read_text t (length core / 8) (length list / 5) 512 start

  module _ (reads : reading_text t z start ≡ after (told read) (tested t)) (r : ModuleRead) (w : ReadsText read core list r core₁ list₁) (a : Answer) (j : Judges t r list₁ a) where
    abbrev Stored : Type 0
    Stored = StoresText (reading_text t z start) a core₁ list₁ × CountsText a core list

    by_name : (ds : List Declaration) (q : Position) → read ≡ done ds q → ReadsText (done ds q) core list r core₁ list₁ → (b : Bool) → repeated t [] ds ≡ b
        → a ≡ cond (repeated t [] ds) (Err (at_offset Class.CoreText 0)) (loaded q.rows (length ds)) → Stored
    by_name ds q e v true n f =
        stops (reading_text t z start) core list core₁ list₁ a (at_offset Class.CoreText 0) (reads ∙ rw (e, n)) (f ∙ rw n)
    by_name ds q e v false n f =
        let s = sound t (length core / 8) (length list / 5) 512 ds q e in
        let rows : q.rows ≡ length (text_rows 0 ds) = omega (arith, s.rows, total_rows text_row 0 ds) in
        let b : a ≡ loaded q.rows (length ds) = f ∙ rw n in
        let accepted : reading_text t z start ≡ done ds q = reads ∙ rw (e, n) in (
          subst (λ (y : Result (List Declaration)). StoresText y a core₁ list₁) (sym accepted) (
            b,
            ap (take (q.rows * 8)) v.1 ∙ take_front core (joined (text_rows 0 ds)) (q.rows * 8) (length_joined 8 (text_rows 0 ds) (wide_rows (holds_span_in text_forms) 0 ds) ∙ ap (λ (m : ℕ). m * 8) (sym rows)),
            ap (take (length ds * 5)) v.2 ∙ take_front list (joined (read_records 0 ds)) (length ds * 5) (length_records t ds),
          ),
          subst (λ (y : Answer). CountsText y core list) (sym b) (record { rows = s.few_rows; records = s.few_declarations }),
        )

    by : (o : Result (List Declaration)) → read ≡ o → ReadsText o core list r core₁ list₁ → Stored
    by (refused x) e v =
        stops (reading_text t z start) core list core₁ list₁ a (told_refusal x) (reads ∙ rw e) (subst (λ (y : ModuleRead). Judges t y list₁ a) v j)
    by (done ds q) e v =
        let s = sound t (length core / 8) (length list / 5) 512 ds q e in
        by_name ds q e v (repeated t [] ds) refl
        (subst (λ (y : ModuleRead). Judges t y list₁ a) v.0 j ds refl (omega (arith, s.few_declarations, kept)) v.3
        (ap (take (length ds * 5)) v.2 ∙ take_front list (joined (read_records 0 ds)) (length ds * 5) (length_records t ds)))

    pub stored : Stored
    stored = by read refl w
