-- The statements of record_loader/specs/Statements.antt, proved: those of the word-based calls.
use mathlib.Core.Path.{◌≡◌, refl, sym, ap, ◌∙◌, subst}
use mathlib.Core.Logic.{◌⊎◌, inl, inr, ⊎_elim}
use mathlib.Core.List.{List}
use Prim.Native.Nat.{ℕ, ◌≤◌}
use native.Mathlib.Omega.{arith}
use lib.ListN.{length, take}
use Rattle.terms.specs.Label as D
use Rattle.terms.proofs.Tables.{length_pad}
use Rattle.surface.specs.Answer.{Answer}
use Rattle.surface.specs.Reader.{start, Result, done, refused}
use Rattle.surface.specs.Tables.{Lengths, Tables, lengths, leaves}
use Rattle.surface.specs.Reports.{report}
use Rattle.surface.specs.Loading.{Outcome}
use Rattle.surface.specs.SameCore.{declaration_count}
use Rattle.surface.specs.Statements.{loading_reports}
use Rattle.surface.proofs.Statements.{demand_3_in, row_offsets, load_reports}
use Rattle.dependence.proofs.Statements.{ask_reports}
use Rattle.loader.proofs.Statements.{parse_reports}
use Rattle.printing.specs.PrintCall.{PrintLeft, report_printed}
use Rattle.core_module.specs.CoreText.{reading_text, reading_canonical, text_outcome, read_core, read_canonical, ReadsCore, ReadsCanonical}
use Rattle.core_module.proofs.Statements.{round_trip}
use Rattle.records.specs.declared.Declaration.{Declaration}
use Rattle.records.proofs.Whole.{limit_within}
use Rattle.record_loader.specs.declared.Question.{Question}
use Rattle.record_loader.specs.declared.Reply.{Reply}
use Rattle.record_loader.specs.Recorded.{list_words}
use Rattle.binding.proofs.Statements.{binder_reports}
use Rattle.record_loader.specs.Replies.{loaded_of, parsed_of, dependence_of, bound_of, read_of, without_core, for_text, Besides}
use Rattle.record_loader.specs.Statements.{Lent, worded, without_surface, Demand3Records, RowOffsetsRecords, RoundTripRecords, ReadsRecords, report_reply, ReplyingReports, ReplyReports}
use Rattle.record_loader.proofs.FirstRecords.{same_whole}
use Rattle.record_loader.proofs.Short.{first_long, text_all}
use Rattle.record_loader.proofs.Words.{list_long}

pub demand_3_records : Demand3Records
demand_3_records s t before₁ before₂ text₁ text₂ a b after₁ after₂ left₁ left₂ h k = demand_3_in (List Declaration) list_words s t before₁ before₂ a b after₁ after₂ h.1.0 k.1.0

pub row_offsets_records : RowOffsetsRecords
row_offsets_records s before text a after left h = row_offsets s (worded before) a (worded after) h.1.0

pub round_trip_records : RoundTripRecords
round_trip_records s before₁ text₁ a after₁ left₁ l h before₂ buffer n after₂ text e lent other b left other₁ room r =
    let t = for_text (worded lent) in
    let u = for_text (worded left) in
    let reads : ReadsCore (take n text) t b u ⊎ ReadsCanonical (take n text) t b u = ⊎_elim (λ x. inl x.1.0) (λ x. inr x.1.0) r in
    let k = round_trip s (worded before₁) a (worded after₁) l.1.0 h (worded before₂) buffer n (worded after₂) text e.1 t b u room reads in
    let few : declaration_count a ≤ 13107 =
    omega (arith, room.list, first_long (length lent.declarations) (worded lent).declarations (sym (list_long lent.declarations)), limit_within (length lent.declarations) 65535) in
    (k.0, same_whole s (leaves a (worded after₁)) (take n text) b (worded left) few k.1)

-- A list of at most 13,107 records is lent whole.
module _ (before after : Lent) (h : length before.declarations ≤ 13107) (b : Besides (worded before) (worded after)) where
  short_before : length (worded before).declarations ≤ 65535
  short_before = omega (arith, list_long before.declarations)

  short_after : length (worded after).declarations ≤ 65535
  short_after = omega (arith, short_before, ap length b.rest_blank ∙ length_pad (length (worded before).declarations) _)

  whole_list : (P : Tables → Tables → Type 0) → P (for_text (worded before)) (for_text (worded after)) → P (without_surface (worded before)) (without_surface (worded after))
  whole_list P p = subst (λ t. P t (without_surface (worded after))) (text_all (worded before) short_before) (subst (P (for_text (worded before))) (text_all (worded after) short_after) p)

pub reads_records : ReadsRecords
reads_records t before text a after text₁ h =
    (λ r. whole_list before after h r.1.1 (λ x y. ReadsCore t x a y) r.1.0, λ r. whole_list before after h r.1.1 (λ x y. ReadsCanonical t x a y) r.1.0)

-- The answer of a reading, from its result.
text_reports : (z : Lengths) (r : Result (List D.Declaration)) → report (text_outcome z r).answer ≡ loading_reports r
text_reports z (done ds p) = refl
text_reports z (refused x) = refl

core_reports : (t : List ℕ) (before : Tables) (a : Answer) (after : Tables) → ReadsCore t before a after → report a ≡ loading_reports (reading_text t (lengths before) start)
unfolding read_core
core_reports t before a after h = ap (λ (o : Outcome). report o.answer) h ∙ text_reports (lengths before) (reading_text t (lengths before) start)

canonical_reports : (t : List ℕ) (before : Tables) (a : Answer) (after : Tables) → ReadsCanonical t before a after → report a ≡ loading_reports (reading_canonical t (lengths before) start)
unfolding read_canonical
canonical_reports t before a after h = ap (λ (o : Outcome). report o.answer) h ∙ text_reports (lengths before) (reading_canonical t (lengths before) start)

pub reply_reports : ReplyReports
reply_reports s Question.Load before text r after text₁ h =
    subst (λ (x : Reply). ReplyingReports s Question.Load before text (report_reply x)) (sym h.0) (load_reports s before (loaded_of r) after h.1.0)
reply_reports s Question.Parse before text r after text₁ h =
    subst (λ (x : Reply). ReplyingReports s Question.Parse before text (report_reply x)) (sym h.0) (parse_reports s (without_core before) (parsed_of r) (without_core after) h.1.0)
reply_reports s (Question.Depends i j) before text r after text₁ h =
    subst (λ (x : Reply). ReplyingReports s (Question.Depends i j) before text (report_reply x)) (sym h.0) (ask_reports s i j before (dependence_of r) after h.1.0)
reply_reports s (Question.Binder k) before text r after text₁ h =
    subst (λ (x : Reply). ReplyingReports s (Question.Binder k) before text (report_reply x)) (sym h.0) (binder_reports s k before (bound_of r) after h.1.0)
reply_reports s Question.Print before text r after text₁ h =
    subst (λ (x : Reply). ReplyingReports s Question.Print before text (report_reply x)) (sym h.0) (ap (λ (o : PrintLeft). report_printed o.answer) h.1)
reply_reports s Question.ReadCore before text r after text₁ h =
    subst (λ (x : Reply). ReplyingReports s Question.ReadCore before text (report_reply x)) (sym h.0) (core_reports s (for_text before) (read_of r) (for_text after) h.1.0)
reply_reports s Question.ReadCanonical before text r after text₁ h =
    subst (λ (x : Reply). ReplyingReports s Question.ReadCanonical before text (report_reply x)) (sym h.0) (canonical_reports s (for_text before) (read_of r) (for_text after) h.1.0)
