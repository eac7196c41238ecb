-- Whatever is asked, the list is left as its words would be.
use mathlib.Core.Path.{◌≡◌, sym, ap, ◌∙◌, subst}
use mathlib.Core.List.{List, []}
use Prim.Native.Nat.{ℕ, ◌*◌, ◌≤◌}
use native.Mathlib.Omega.{arith}
use lib.ListN.{length, take}
use lib.Seq.{take_all, length-take-le}
use Rattle.terms.specs.Label as D
use Rattle.terms.specs.Rows.{pad}
use Rattle.terms.proofs.Tables.{length_pad}
use Rattle.surface.specs.Answer.{Answer}
use Rattle.surface.specs.Reader.{start, Result}
use Rattle.surface.specs.Tables.{Lengths, Tables, tables, lengths, Left, leaves}
use Rattle.surface.specs.Loading.{Outcome, outcome, parsing, loading, load}
use Rattle.dependence.specs.Asks.{asking, answer_of, ask_outcome, ask}
use Rattle.binding.specs.Binds as Binds
use Rattle.loader.specs.Parsed.{parsed, parse}
use Rattle.printing.specs.PrintCall.{PrintLeft, printing, print, print_leaves}
use Rattle.core_module.specs.CoreText.{read_core, read_canonical}
use Rattle.records.specs.declared.Declaration.{Declaration}
use Rattle.records.specs.Records.{records_of, word_limit}
use Rattle.records.proofs.Whole.{limit_within}
use Rattle.record_loader.specs.declared.Question.{Question}
use Rattle.record_loader.specs.declared.Reply.{Reply}
use Rattle.record_loader.specs.Recorded.{list_words, front}
use Rattle.record_loader.specs.Replies.{loaded_of, parsed_of, dependence_of, bound_of, printed_of, read_of, Besides, Answered, Replies}
use Rattle.record_loader.proofs.Enough.{Makes, outcome_makes, asked_makes, parsed_makes, printed, printed_makes, listed}
use Rattle.record_loader.proofs.Lists.{front_records, fit_records}
use Rattle.record_loader.proofs.Room.{with_words}
use Rattle.record_loader.proofs.Settling.{Settles, parsing_settles, loading_settles, asking_settles, answering, left_is, answering_settles, printing_settles, settled}
use Rattle.record_loader.proofs.Short.{pad_same, first_long, first_words}
use Rattle.record_loader.proofs.Words.{list_long, words_back}

module _ (s surface core words words₁ work : List ℕ) (list : List Declaration) (l : length words ≡ 65535) (e : length words₁ ≡ length words) where
  abbrev n : ℕ
  n = length list

  -- So many words are lent for the declarations, and so many stand for the list.
  abbrev part : ℕ
  part = length (front n words words)

  few : part ≡ word_limit n 65535
  few = length-take-le (word_limit n (length words)) words (limit_within n (length words)) ∙ ap (word_limit n) l

  front_long : length (front n words words₁) ≡ word_limit n 65535
  front_long = length-take-le (word_limit n (length words)) words₁ (omega (arith, e, limit_within n (length words))) ∙ ap (word_limit n) l

  many : n * 5 ≡ length (list_words list)
  many = list_long list

  module _ (z : Lengths) (Q : ℕ → Result (List D.Declaration)) (settles : Settles Q) where
    same_result : Q part ≡ Q (length (list_words list))
    same_result = ap Q few ∙ settled n Q settles ∙ ap Q many

    carried : {A : Type 0} (make : Lengths → Result (List D.Declaration) → Left A Tables) (stored : Result (List D.Declaration) → List ℕ) → Makes make stored
        → (a : A) (surface₁ core₁ work₁ : List ℕ) → leaves a (tables surface₁ core₁ (front n words words₁) work₁) ≡ make (with_words z part) (Q part)
        → leaves a (tables surface₁ core₁ (list_words (records_of words₁ n)) work₁) ≡ make (with_words z (length (list_words list))) (Q (length (list_words list)))
    carried make stored makes a surface₁ core₁ work₁ h =
        subst (λ (m : ℕ). leaves a (tables surface₁ core₁ (list_words (records_of words₁ n)) work₁) ≡ make (with_words z m) (Q m)) many
        (listed make stored makes Q settles z n words words₁ e a surface₁ core₁ work₁
        (subst (λ (m : ℕ). leaves a (tables surface₁ core₁ (front n words words₁) work₁) ≡ make (with_words z m) (Q m)) few h))

  -- The words that the list stands for afterwards: those that were lent, and 0 behind.
  whole_words : list_words (records_of words₁ n) ≡ pad (n * 5) (front n words words₁)
  whole_words =
      ap list_words (front_records words words₁ n e ∙ ap (λ t. records_of t n) (sym (pad_same (word_limit n 65535) (front n words words₁) front_long))
      ∙ fit_records (front n words words₁) (omega (arith, front_long, limit_within n 65535)) n)
      ∙ words_back (pad (n * 5) (front n words words₁)) n (length_pad (n * 5) (front n words words₁))

  -- Reading a core text: what it is lent of the list, and what it is not.
  same_first : take 65535 (list_words (records_of words₁ n)) ≡ front n words words₁
  same_first = ap (take 65535) whole_words ∙ first_words n (front n words words₁) front_long

  text_read : (make : Lengths → Outcome) (a : Answer) (core₁ work₁ : List ℕ) → leaves a (tables [] core₁ (take 65535 (front n words words₁)) work₁) ≡ make (lengths (tables [] core (take 65535 (front n words words)) work))
      → leaves a (tables [] core₁ (take 65535 (list_words (records_of words₁ n))) work₁) ≡ make (lengths (tables [] core (take 65535 (list_words list)) work))
  text_read make a core₁ work₁ h =
      let z = lengths (tables [] core [] work) in
      let i : length (front n words words₁) ≤ 65535 = omega (arith, front_long, limit_within n 65535) in
      let j : length (front n words words) ≤ 65535 = omega (arith, few, limit_within n 65535) in
      ap (λ (t : List ℕ). leaves a (tables [] core₁ t work₁)) (same_first ∙ sym (take_all 65535 (front n words words₁) i)) ∙ h
      ∙ ap (λ (d : ℕ). make (with_words z d)) (ap length (take_all 65535 (front n words words) j) ∙ few ∙ sym (first_long n (list_words list) (sym many)))

  besides : (surface₁ core₁ work₁ : List ℕ) → surface₁ ≡ surface → Besides (tables surface core (list_words list) work) (tables surface₁ core₁ (list_words (records_of words₁ n)) work₁)
  besides surface₁ core₁ work₁ h = record { surface_kept = h; rest_blank = whole_words ∙ ap (λ (m : ℕ). pad m (front n words words₁)) many ∙ ap (pad (length (list_words list))) (sym same_first) }

  abbrev lent : List ℕ → List ℕ → Lengths
  lent core t = lengths (tables surface core t work)

  module _ (text : List ℕ) (r : Reply) (surface₁ core₁ work₁ text₁ : List ℕ) where
    answered : (question : Question) → Answered s question (tables surface core (front n words words) work) text r (tables surface₁ core₁ (front n words words₁) work₁) text₁
        → Answered s question (tables surface core (list_words list) work) text r (tables surface₁ core₁ (list_words (records_of words₁ n)) work₁) text₁
    unfolding load parse ask print
    answered Question.Load h =
        let z = lent core [] in (carried z (λ d. loading s (with_words z d) start) (loading_settles s z) (outcome s) _ (outcome_makes s) (loaded_of r) surface₁ core₁ work₁ h.0, h.1)
    answered Question.Parse h =
        let z = lent [] [] in (carried z (λ d. parsing s (with_words z d) start) (parsing_settles s z) parsed _ parsed_makes (parsed_of r) surface₁ [] work₁ h.0, h.1, h.2)
    answered (Question.Depends i j) h =
        let z = lent core [] in
        (carried z (λ d. asking s (with_words z d) i j start) (asking_settles s i j z) (ask_outcome s i j) _ (asked_makes s (answer_of s i j)) (dependence_of r) surface₁ core₁ work₁ h.0, h.1)
    answered (Question.Binder k) h =
        let z = lent core [] in
        let b = bound_of r in
        let Q : ℕ → Result (List D.Declaration) = λ d. answering b (loading s (with_words z d) start) in
        let before = lengths (tables surface core (front n words words) work) in
        let m = carried z Q (answering_settles s b z) (outcome s) _ (outcome_makes s) _ surface₁ core₁ work₁ (ap (leaves (outcome s before (Q part)).answer) (h.0.1 ∙ left_is s before b)) in (
          (
            subst (λ x. Binds.Answers s k x b) (same_result z (λ d. loading s (with_words z d) start) (loading_settles s z)) h.0.0,
            ap (λ (o : Left _ Tables). o.tables) m ∙ sym (left_is s (lengths (tables surface core (list_words list) work)) b),
          ),
          h.1,
        )
    answered Question.Print h =
        let z = lent core [] in
        ap (λ o. print_leaves o.answer.0 o.tables o.answer.1)
        (carried z (λ d. printing s (with_words z d) (length text) start) (printing_settles s (length text) z) (printed s (length text)) _ (printed_makes s (length text)) (printed_of r, text₁) surface₁ core₁ work₁
        (ap (λ (o : PrintLeft). leaves (o.answer, o.text) o.tables) h))
    answered Question.ReadCore h = (text_read (read_core s) (read_of r) core₁ work₁ h.0, besides surface₁ core₁ work₁ h.1.surface_kept, h.2)
    answered Question.ReadCanonical h = (text_read (read_canonical s) (read_of r) core₁ work₁ h.0, besides surface₁ core₁ work₁ h.1.surface_kept, h.2)

    pub replies_left : (question : Question) → Replies s question (tables surface core (front n words words) work) text r (tables surface₁ core₁ (front n words words₁) work₁) text₁
        → Replies s question (tables surface core (list_words list) work) text r (tables surface₁ core₁ (list_words (records_of words₁ n)) work₁) text₁
    replies_left question h = (h.0, answered question h.1)
