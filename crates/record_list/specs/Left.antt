-- What the program's asking leaves: a question with a list of 256 records, whose words are handed out.
use Rattle.std.specs.Prelude.{◌≡◌, List, ℕ, replicate}
use Rattle.surface.specs.Tables.{tables}
use Rattle.records.specs.declared.Declaration.{Declaration}
use Rattle.records.specs.Records.{words_of}
use Rattle.record_loader.specs.declared.Question.{Question}
use Rattle.record_loader.specs.declared.Reply.{Reply}
use Rattle.record_loader.specs.Recorded.{list_words}
use Rattle.record_loader.specs.Replies.{Replies}

-- A record as a former call may have left it.
abbrev pub used : Declaration
used = record { kind = 9; name_start = 9; name_length = 9; type_row = 9; body_row = 9 }

unfoldable pub useds : List Declaration
useds = replicate 256 used

pub record Left (s : List ℕ) (question : Question) (surface core work words text : List ℕ) (r : Reply) (surface₁ core₁ work₁ words₁ text₁ : List ℕ) : Type 0 where
  pub list : List Declaration
  pub replies : Replies s question (tables surface core (list_words useds) work) text r (tables surface₁ core₁ (list_words list) work₁) text₁
  pub words_out : words₁ ≡ words_of list 0 words
