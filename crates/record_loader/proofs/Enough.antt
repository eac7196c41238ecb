-- A list of any length is left as five words for each of its records would be, though the array has 65,535 words.
use mathlib.Core.Path.{◌≡◌, refl, sym, ap, ◌∙◌}
use mathlib.Core.List.{List, []}
use Prim.Native.Nat.{ℕ, ◌*◌, ◌≤◌}
use native.Mathlib.Omega.{arith}
use lib.ListN.{length}
use Rattle.terms.specs.Label.{Declaration}
use Rattle.terms.specs.Resolution.{resolve_module}
use Rattle.terms.specs.Rows.{joined, declaration_records, read_records, pad}
use Rattle.terms.proofs.Tables.{length_pad, length_joined}
use Rattle.terms.proofs.Widths.{wide_records, count_records}
use Rattle.elaborate.proofs.ResolvedTrees.{records_kept}
use Rattle.surface.specs.Reader.{Position, Result, done, refused}
use Rattle.surface.specs.Tables.{Lengths, Tables, tables, Left, leaves}
use Rattle.surface.specs.Loading.{Outcome, outcome}
use Rattle.loader.specs.Parsed.{parsed}
use Rattle.printing.specs.Answer.{Printed}
use Rattle.printing.specs.PrintCall.{print_outcome}
use Rattle.records.specs.Records.{records_of, word_limit}
use Rattle.records.proofs.Whole.{limit_within}
use Rattle.record_loader.specs.Recorded.{list_words, front}
use Rattle.record_loader.proofs.Lists.{front_records, fit_records}
use Rattle.record_loader.proofs.Room.{with_words}
use Rattle.record_loader.proofs.Settling.{Settles, settled}
use Rattle.record_loader.proofs.Words.{words_back}

-- What a call leaves, with other words for the declarations.
abbrev declaring : {A : Type 0} → List ℕ → Left A Tables → Left A Tables
declaring t o = leaves o.answer (tables o.tables.surface o.tables.core t o.tables.work)

-- What is made of a result in tables of such lengths: five words for each declaration, and all else does not depend on their table's length.
pub record Makes {A : Type 0} (make : Lengths → Result (List Declaration) → Left A Tables) (stored : Result (List Declaration) → List ℕ) : Type 0 where
  pub declared : (z : Lengths) (r : Result (List Declaration)) → (make z r).tables.declarations ≡ pad z.declarations (stored r)
  pub all_else : (z : Lengths) (d : ℕ) (t : List ℕ) (r : Result (List Declaration)) → declaring t (make (with_words z d) r) ≡ declaring t (make z r)
  pub none_long : (r : _) → length (stored (refused r)) ≡ 0
  pub long : (ds : List Declaration) (p : Position) → length (stored (done ds p)) ≡ length ds * 5

abbrev resolved_words : List ℕ → Result (List Declaration) → List ℕ
resolved_words s (refused x) = []
resolved_words s (done ds p) = joined (declaration_records 0 (resolve_module s [] ds))

abbrev read_words : Result (List Declaration) → List ℕ
read_words (refused x) = []
read_words (done ds p) = joined (read_records 0 ds)

records_long : (s : List ℕ) (ds : List Declaration) → length (joined (declaration_records 0 (resolve_module s [] ds))) ≡ length ds * 5
records_long s ds = length_joined 5 (declaration_records 0 (resolve_module s [] ds)) (wide_records 0 (resolve_module s [] ds)) ∙ ap (λ (n : ℕ). n * 5) (count_records s [] 0 ds)

-- Loading.
pub outcome_makes : (s : List ℕ) → Makes (outcome s) (resolved_words s)
outcome_makes s = record { declared = declared; all_else = all_else; none_long = λ r. refl; long = λ ds p. records_long s ds }
  where
    declared : (z : Lengths) (r : Result (List Declaration)) → (outcome s z r).tables.declarations ≡ pad z.declarations (resolved_words s r)
    declared z (refused x) = refl
    declared z (done ds p) = refl

    all_else : (z : Lengths) (d : ℕ) (t : List ℕ) (r : Result (List Declaration)) → declaring t (outcome s (with_words z d) r) ≡ declaring t (outcome s z r)
    all_else z d t (refused x) = refl
    all_else z d t (done ds p) = refl

-- A question that loads first, and answers by what was loaded.
pub asked_makes : {A : Type 0} (s : List ℕ) (answer : Result (List Declaration) → A) → Makes (λ z r. leaves (answer r) (outcome s z r).tables) (resolved_words s)
asked_makes s answer = record {
  declared = (outcome_makes s).declared;
  all_else = λ z d t r. ap (λ (o : Outcome). leaves (answer r) o.tables) ((outcome_makes s).all_else z d t r);
  none_long = (outcome_makes s).none_long;
  long = (outcome_makes s).long;
}

-- Reading alone.
pub parsed_makes : Makes parsed read_words
parsed_makes = record { declared = declared; all_else = all_else; none_long = λ r. refl; long = λ ds p. ap (λ l. length (joined l)) (sym (records_kept [] [] 0 ds)) ∙ records_long [] ds }
  where
    declared : (z : Lengths) (r : Result (List Declaration)) → (parsed z r).tables.declarations ≡ pad z.declarations (read_words r)
    declared z (refused x) = refl
    declared z (done ds p) = refl

    all_else : (z : Lengths) (d : ℕ) (t : List ℕ) (r : Result (List Declaration)) → declaring t (parsed (with_words z d) r) ≡ declaring t (parsed z r)
    all_else z d t (refused x) = refl
    all_else z d t (done ds p) = refl

-- Printing, whose text buffer goes with its answer.
abbrev pub printed : List ℕ → ℕ → Lengths → Result (List Declaration) → Left (Printed × List ℕ) Tables
printed s m z r = let o = print_outcome s z m r in leaves (o.answer, o.text) o.tables

pub printed_makes : (s : List ℕ) (m : ℕ) → Makes (printed s m) (resolved_words s)
printed_makes s m = record { declared = declared; all_else = all_else; none_long = λ r. refl; long = λ ds p. records_long s ds }
  where
    declared : (z : Lengths) (r : Result (List Declaration)) → (printed s m z r).tables.declarations ≡ pad z.declarations (resolved_words s r)
    declared z (refused x) = refl
    declared z (done ds p) = refl

    all_else : (z : Lengths) (d : ℕ) (t : List ℕ) (r : Result (List Declaration)) → declaring t (printed s m (with_words z d) r) ≡ declaring t (printed s m z r)
    all_else z d t (refused x) = refl
    all_else z d t (done ds p) = refl

-- A list of n records: the array's words before and after the call are `words` and `words₁`.
module _ {A : Type 0} (make : Lengths → Result (List Declaration) → Left A Tables) (stored : Result (List Declaration) → List ℕ) (makes : Makes make stored)
    (Q : ℕ → Result (List Declaration)) (settles : Settles Q) (z : Lengths) (n : ℕ) (words words₁ : List ℕ) (e : length words₁ ≡ length words)
    (a : A) (surface core work : List ℕ)
    (h : leaves a (tables surface core (front n words words₁) work) ≡ make (with_words z (word_limit n 65535)) (Q (word_limit n 65535))) where
  abbrev fit : ℕ
  fit = word_limit n 65535

  abbrev whole : Left A Tables
  whole = make (with_words z (n * 5)) (Q (n * 5))

  -- The declarations fit in the array.
  stored_fit : (r : Result (List Declaration)) → Q fit ≡ r → length (stored r) ≤ 65535
  stored_fit (refused x) q = omega (arith, makes.none_long x)
  stored_fit (done ds p) q = omega (arith, makes.long ds p, settles.few fit p ds q, limit_within n 65535)

  same_records : records_of words₁ n ≡ records_of whole.tables.declarations n
  same_records =
      front_records words words₁ n e ∙ ap (λ (o : Left A Tables). records_of o.tables.declarations n) h
      ∙ ap (λ t. records_of t n) (makes.declared (with_words z fit) (Q fit))
      ∙ fit_records (stored (Q fit)) (stored_fit (Q fit) refl) n
      ∙ ap (λ r. records_of (pad (n * 5) (stored r)) n) (settled n Q settles)
      ∙ ap (λ t. records_of t n) (sym (makes.declared (with_words z (n * 5)) (Q (n * 5))))

  long : length whole.tables.declarations ≡ n * 5
  long = ap length (makes.declared (with_words z (n * 5)) (Q (n * 5))) ∙ length_pad (n * 5) (stored (Q (n * 5)))

  pub listed : leaves a (tables surface core (list_words (records_of words₁ n)) work) ≡ whole
  listed =
      ap (λ (t : List ℕ). leaves a (tables surface core t work)) (ap list_words same_records ∙ words_back whole.tables.declarations n long)
      ∙ ap (declaring whole.tables.declarations) h
      ∙ ap (λ x. declaring whole.tables.declarations (make (with_words z fit) x)) (settled n Q settles)
      ∙ makes.all_else (with_words z (n * 5)) fit whole.tables.declarations (Q (n * 5))
