-- The questions to a source or to a core text: what a call with such tables and such a text buffer before it answers and leaves, a clause for
-- each question.
use Rattle.token.specs.declared.Class.{Class}
use Rattle.std.specs.Prelude.{◌≡◌, List, [], ℕ, length, take, Err}
use Rattle.terms.specs.Rows.{pad}
use Rattle.surface.specs.Answer.{Answer}
use Rattle.surface.specs.Reader.{nowhere}
use Rattle.surface.specs.Tables.{Tables, tables}
use Rattle.surface.specs.Loading.{Loads}
use Rattle.dependence.specs.Answer.{Dependence}
use Rattle.dependence.specs.Asks.{Asks}
use Rattle.binding.specs.Answer.{Binding}
use Rattle.binding.specs.Binds.{AsksBinder}
use Rattle.loader.specs.Parsed.{Parses}
use Rattle.printing.specs.Answer.{Printed}
use Rattle.printing.specs.PrintCall.{Prints}
use Rattle.core_module.specs.CoreText.{ReadsCore, ReadsCanonical}
use Rattle.record_loader.specs.declared.Question.{Question}
use Rattle.record_loader.specs.declared.Reply.{Reply}

-- The answer that a reply holds, where it is of this kind; of a reply of another kind nothing is asked.
abbrev pub loaded_of : Reply → Answer
loaded_of (Reply.Loaded r) = r
loaded_of (Reply.Parsed r) = Err (nowhere Class.Malformed)
loaded_of (Reply.Depends r) = Err (nowhere Class.Malformed)
loaded_of (Reply.Bound r) = Err (nowhere Class.Malformed)
loaded_of (Reply.Printed r) = Err (nowhere Class.Malformed)
loaded_of (Reply.Read r) = Err (nowhere Class.Malformed)

abbrev pub parsed_of : Reply → Answer
parsed_of (Reply.Loaded r) = Err (nowhere Class.Malformed)
parsed_of (Reply.Parsed r) = r
parsed_of (Reply.Depends r) = Err (nowhere Class.Malformed)
parsed_of (Reply.Bound r) = Err (nowhere Class.Malformed)
parsed_of (Reply.Printed r) = Err (nowhere Class.Malformed)
parsed_of (Reply.Read r) = Err (nowhere Class.Malformed)

abbrev pub dependence_of : Reply → Dependence
dependence_of (Reply.Loaded r) = Err (nowhere Class.Malformed)
dependence_of (Reply.Parsed r) = Err (nowhere Class.Malformed)
dependence_of (Reply.Depends r) = r
dependence_of (Reply.Bound r) = Err (nowhere Class.Malformed)
dependence_of (Reply.Printed r) = Err (nowhere Class.Malformed)
dependence_of (Reply.Read r) = Err (nowhere Class.Malformed)

abbrev pub bound_of : Reply → Binding
bound_of (Reply.Loaded r) = Err (nowhere Class.Malformed)
bound_of (Reply.Parsed r) = Err (nowhere Class.Malformed)
bound_of (Reply.Depends r) = Err (nowhere Class.Malformed)
bound_of (Reply.Bound r) = r
bound_of (Reply.Printed r) = Err (nowhere Class.Malformed)
bound_of (Reply.Read r) = Err (nowhere Class.Malformed)

abbrev pub printed_of : Reply → Printed
printed_of (Reply.Loaded r) = Err (nowhere Class.Malformed)
printed_of (Reply.Parsed r) = Err (nowhere Class.Malformed)
printed_of (Reply.Depends r) = Err (nowhere Class.Malformed)
printed_of (Reply.Bound r) = Err (nowhere Class.Malformed)
printed_of (Reply.Printed r) = r
printed_of (Reply.Read r) = Err (nowhere Class.Malformed)

abbrev pub read_of : Reply → Answer
read_of (Reply.Loaded r) = Err (nowhere Class.Malformed)
read_of (Reply.Parsed r) = Err (nowhere Class.Malformed)
read_of (Reply.Depends r) = Err (nowhere Class.Malformed)
read_of (Reply.Bound r) = Err (nowhere Class.Malformed)
read_of (Reply.Printed r) = Err (nowhere Class.Malformed)
read_of (Reply.Read r) = r

-- A reply is of the question's kind.
abbrev pub Fitting : Question → Reply → Type 0
Fitting Question.Load r = r ≡ Reply.Loaded (loaded_of r)
Fitting Question.Parse r = r ≡ Reply.Parsed (parsed_of r)
Fitting (Question.Depends i j) r = r ≡ Reply.Depends (dependence_of r)
Fitting (Question.Binder k) r = r ≡ Reply.Bound (bound_of r)
Fitting Question.Print r = r ≡ Reply.Printed (printed_of r)
Fitting Question.ReadCore r = r ≡ Reply.Read (read_of r)
Fitting Question.ReadCanonical r = r ≡ Reply.Read (read_of r)

-- Reading alone is lent no table for the core.
abbrev pub without_core : Tables → Tables
without_core t = tables t.surface [] t.declarations t.work

-- Reading a core text is lent no surface table, and of the declaration list no more than its first 13,107 records, which have 65,535 words:
-- refusal 9 is given when these are full. Of a list that is not longer it is lent all.
abbrev pub for_text : Tables → Tables
for_text t = tables [] t.core (take 65535 t.declarations) t.work

-- What reading a core text is not lent: the surface table is as it was, and the records behind the first 13,107 are 0.
pub record Besides (before after : Tables) : Type 0 where
  pub surface_kept : after.surface ≡ before.surface
  pub rest_blank : after.declarations ≡ pad (length before.declarations) (take 65535 after.declarations)

-- What `load` promises; what `parse_surface` does, and the core table is as it was; what `depends`, `binder`, `print`, `read_core` and
-- `read_canonical` do. Only printing is lent the text buffer: else it is as it was.
abbrev pub Answered : List ℕ → Question → Tables → List ℕ → Reply → Tables → List ℕ → Type 0
Answered s Question.Load before text r after text₁ = Loads s before (loaded_of r) after × (text₁ ≡ text)
Answered s Question.Parse before text r after text₁ =
    Parses s (without_core before) (parsed_of r) (without_core after) × (after.core ≡ before.core) × (text₁ ≡ text)
Answered s (Question.Depends i j) before text r after text₁ = Asks s i j before (dependence_of r) after × (text₁ ≡ text)
Answered s (Question.Binder k) before text r after text₁ = AsksBinder s k before (bound_of r) after × (text₁ ≡ text)
Answered s Question.Print before text r after text₁ = Prints s before text (printed_of r) after text₁
Answered s Question.ReadCore before text r after text₁ =
    ReadsCore s (for_text before) (read_of r) (for_text after) × Besides before after × (text₁ ≡ text)
Answered s Question.ReadCanonical before text r after text₁ =
    ReadsCanonical s (for_text before) (read_of r) (for_text after) × Besides before after × (text₁ ≡ text)

abbrev pub Replies : List ℕ → Question → Tables → List ℕ → Reply → Tables → List ℕ → Type 0
Replies s question before text r after text₁ = Fitting question r × Answered s question before text r after text₁
