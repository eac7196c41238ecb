-- Document 01, "The listing": what is written for a source.
use Rattle.std.specs.Prelude.{◌≡◌, List, ℕ, length, Ok, Err}
use Rattle.surface.specs.Answer.{Answer}
use Rattle.surface.specs.Tables.{Lengths, Tables, lengths}
use Rattle.surface.specs.Loading.{load, Loads}
use Rattle.text.specs.Text.{with_text, length_in}
use Rattle.lines.specs.Listing.{listing, refusal_line}
use Rattle.lister.specs.declared.Listed.{Listed}

-- The listing of an accepted source, or the refusal's line.
abbrev pub text_of : List ℕ → Answer → List ℕ → List ℕ → List ℕ
text_of s (Ok l) core records = listing s core records l.rows l.declarations
text_of s (Err r) core records = refusal_line r

-- The text for a source, with tables of such lengths.
unfoldable pub listing_text : List ℕ → Lengths → List ℕ
listing_text s z = text_of s (load s z).answer (load s z).tables.core (load s z).tables.declarations

-- What a call promises: the answer and the tables are those of loading, and the text stands at the beginning of the buffer.
pub record Lists (s : List ℕ) (before : Tables) (text : List ℕ) (r : Listed) (after : Tables) (text₁ : List ℕ) : Type 0 where
  pub loads : Loads s before r.answer after
  pub content : text₁ ≡ with_text text (listing_text s (lengths before))
  pub told : r.length ≡ length_in text (length (listing_text s (lengths before)))
