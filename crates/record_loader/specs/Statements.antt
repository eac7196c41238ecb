-- Statements about calls of `ask_records`, each as a type; record_loader/proofs/Statements.antt has a proof of each.
use Rattle.std.specs.Prelude.{◌≡◌, ◌↔◌, ◌⊎◌, List, [], ℕ, ◌≤◌, length, take, Ok}
use Rattle.surface.specs.Answer.{Answer}
use Rattle.surface.specs.Reader.{start}
use Rattle.surface.specs.Tables.{Each, Tables, tables, lengths, in_words, leaves}
use Rattle.surface.specs.Reports.{Report, report}
use Rattle.surface.specs.Loading.{parsing, loading}
use Rattle.surface.specs.SameCore.{row_count, declaration_count, SameCore, Accepts}
use Rattle.surface.specs.Agreement.{Agreement}
use Rattle.dependence.specs.Asks.{asking, report_dependence}
use Rattle.surface.specs.Statements.{RowsBegin, loading_reports}
use Rattle.dependence.specs.Statements.{asking_reports}
use Rattle.binding.specs.Binds.{report_binding}
use Rattle.binding.specs.Statements.{BindingReports}
use Rattle.loader.specs.Parsed.{report_read}
use Rattle.printing.specs.PrintCall.{print, report_printed}
use Rattle.core_module.specs.CoreText.{reading_text, reading_canonical, ReadsCore, ReadsCanonical}
use Rattle.core_module.specs.SameText.{SameText}
use Rattle.core_module.specs.Statements.{Roomy}
use Rattle.records.specs.declared.Declaration.{Declaration}
use Rattle.record_loader.specs.declared.Question.{Question}
use Rattle.record_loader.specs.declared.Reply.{Reply}
use Rattle.record_loader.specs.Recorded.{list_words}
use Rattle.record_loader.specs.Replies.{without_core, for_text, Replies}

-- What is lent where the declaration list is a slice of records, and what stands in it by the words that it stands for.
abbrev pub Lent : Type 0
Lent = Each (List ℕ) (List Declaration)

abbrev pub worded : Lent → Tables
worded = in_words list_words

-- DEMAND 3 about loads whose declaration list is a slice of records: of any two calls that accept their sources, what they leave is the same
-- core exactly if the two sources agree.
abbrev pub Demand3Records : Type 0
Demand3Records =
    (s t : List ℕ) (before₁ before₂ : Lent) (text₁ text₂ : List ℕ) (a b : Answer) (after₁ after₂ : Lent) (left₁ left₂ : List ℕ)
    → Replies s Question.Load (worded before₁) text₁ (Reply.Loaded a) (worded after₁) left₁ → Replies t Question.Load (worded before₂) text₂ (Reply.Loaded b) (worded after₂) left₂
    → Accepts (leaves a (worded after₁)) → Accepts (leaves b (worded after₂))
    → SameCore s (leaves a (worded after₁)) t (leaves b (worded after₂)) ↔ Agreement s t

-- DOCUMENT 02, REQ 01, about such a load that accepts its source.
abbrev pub RowOffsetsRecords : Type 0
RowOffsetsRecords =
    (s : List ℕ) (before : Lent) (text : List ℕ) (a : Answer) (after : Lent) (left : List ℕ) → Replies s Question.Load (worded before) text (Reply.Loaded a) (worded after) left
    → Accepts (leaves a (worded after)) → RowsBegin s (leaves a (worded after))

-- DOCUMENT 02, REQ 03, THE ROUND TRIP, about such calls: of every load that accepts the source, every print of it, and every reading of the
-- printed text with room for what the load counts. No source has more than 13,107 declarations, so that what is lent of a longer list is enough.
abbrev pub RoundTripRecords : Type 0
RoundTripRecords =
    (s : List ℕ) (before₁ : Lent) (text₁ : List ℕ) (a : Answer) (after₁ : Lent) (left₁ : List ℕ)
    → Replies s Question.Load (worded before₁) text₁ (Reply.Loaded a) (worded after₁) left₁ → Accepts (leaves a (worded after₁))
    → (before₂ : Lent) (buffer : List ℕ) (n : ℕ) (after₂ : Lent) (text : List ℕ)
    → Replies s Question.Print (worded before₂) buffer (Reply.Printed (Ok n)) (worded after₂) text
    → (lent : Lent) (other : List ℕ) (b : Answer) (left : Lent) (other₁ : List ℕ) → Roomy (row_count a) (declaration_count a) (for_text (worded lent))
    → Replies (take n text) Question.ReadCore (worded lent) other (Reply.Read b) (worded left) other₁
    ⊎ Replies (take n text) Question.ReadCanonical (worded lent) other (Reply.Read b) (worded left) other₁
    → Accepts (leaves b (worded left)) × SameText s (leaves a (worded after₁)) (take n text) (leaves b (worded left))

-- Tables without one for the surface, as `read_core` and `read_canonical` are lent them.
abbrev pub without_surface : Tables → Tables
without_surface t = tables [] t.core t.declarations t.work

-- A list of at most 13,107 records is read into as its words would be.
abbrev pub ReadsRecords : Type 0
ReadsRecords =
    (t : List ℕ) (before : Lent) (text : List ℕ) (a : Answer) (after : Lent) (text₁ : List ℕ) → length before.declarations ≤ 13107
    → ((Replies t Question.ReadCore (worded before) text (Reply.Read a) (worded after) text₁ → ReadsCore t (without_surface (worded before)) a (without_surface (worded after)))
    × (Replies t Question.ReadCanonical (worded before) text (Reply.Read a) (worded after) text₁ → ReadsCanonical t (without_surface (worded before)) a (without_surface (worded after))))

-- Nothing is left free, whatever is asked: two calls with the same before them give the same reply and leave the same.
abbrev pub OneReply : Type 0
OneReply =
    (s : List ℕ) (question : Question) (before : Tables) (text : List ℕ) (r₁ r₂ : Reply) (after₁ after₂ : Tables) (text₁ text₂ : List ℕ)
    → Replies s question before text r₁ after₁ text₁ → Replies s question before text r₂ after₂ text₂ → (r₁ ≡ r₂) × (after₁ ≡ after₂) × (text₁ ≡ text₂)

-- The number and values of a reply are those of the answer that it holds.
abbrev pub report_reply : Reply → Report
report_reply (Reply.Loaded a) = report a
report_reply (Reply.Parsed a) = report_read a
report_reply (Reply.Depends a) = report_dependence a
report_reply (Reply.Bound a) = report_binding a
report_reply (Reply.Printed a) = report_printed a
report_reply (Reply.Read a) = report a

-- "The promises use that definition": what is promised of them for each question.
abbrev pub ReplyingReports : List ℕ → Question → Tables → List ℕ → Report → Type 0
ReplyingReports s Question.Load before text n = n ≡ loading_reports (loading s (lengths before) start)
ReplyingReports s Question.Parse before text n = n ≡ loading_reports (parsing s (lengths (without_core before)) start)
ReplyingReports s (Question.Depends i j) before text n = n ≡ asking_reports s i j (asking s (lengths before) i j start)
ReplyingReports s (Question.Binder k) before text n = BindingReports s k (loading s (lengths before) start) n
ReplyingReports s Question.Print before text n = n ≡ report_printed (print s (lengths before) (length text)).answer
ReplyingReports s Question.ReadCore before text n = n ≡ loading_reports (reading_text s (lengths (for_text before)) start)
ReplyingReports s Question.ReadCanonical before text n = n ≡ loading_reports (reading_canonical s (lengths (for_text before)) start)

abbrev pub ReplyReports : Type 0
ReplyReports =
    (s : List ℕ) (question : Question) (before : Tables) (text : List ℕ) (r : Reply) (after : Tables) (text₁ : List ℕ)
    → Replies s question before text r after text₁ → ReplyingReports s question before text (report_reply r)
