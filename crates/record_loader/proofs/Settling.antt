-- Whatever is asked, 65,535 words are enough for the declarations: with more the answer is the same, and none has more declarations than it has room for.
use Rattle.token.specs.declared.Class.{Class}
use mathlib.Core.Path.{◌≡◌, refl, sym, ap, subst}
use mathlib.Core.List.{List}
use mathlib.Core.Bool.{Bool, true, false, ◌&&◌}
use Prim.Native.Nat.{ℕ, ◌*◌, ◌/◌, ◌≤◌}
use native.Mathlib.Omega.{arith}
use lib.Dec.{ltb, leb}
use lib.ListN.{length}
use borrow.Author.Tests.{ltb-true, ltb-false}
use Rattle.std.specs.Prelude.{Ok, Err}
use Rattle.terms.specs.Label.{Declaration}
use Rattle.surface.specs.Reader.{Position, start, Result, done, refused, after, pure, require, nowhere}
use Rattle.surface.specs.Loading.{Lengths, parsing, loading, outcome, load}
use Rattle.dependence.specs.Asks.{asking}
use Rattle.surface.proofs.Steps.{after_elim, require_elim, done_inj}
use Rattle.binding.specs.declared.Binder.{Binder}
use Rattle.binding.specs.Answer.{Binding}
use Rattle.binding.specs.Binds.{left}
use Rattle.printing.specs.PrintCall.{text_of, printing}
use Rattle.records.specs.Records.{word_limit}
use Rattle.records.proofs.Whole.{limit_below, limit_above}
use Rattle.record_loader.proofs.Room.{with_words, parsing_same, parsing_few, loading_same, loading_few}

-- What so many words give.
pub record Settles (Q : ℕ → Result (List Declaration)) : Type 0 where
  pub same : (a b : ℕ) → 65535 ≤ a → a ≤ b → Q a ≡ Q b
  pub few : (d : ℕ) (q : Position) (ds : List Declaration) → Q d ≡ done ds q → length ds ≤ d / 5

pub parsing_settles : (s : List ℕ) (z : Lengths) → Settles (λ d. parsing s (with_words z d) start)
parsing_settles s z = record { same = parsing_same s z; few = λ d. parsing_few s (with_words z d) }

pub loading_settles : (s : List ℕ) (z : Lengths) → Settles (λ d. loading s (with_words z d) start)
loading_settles s z = record { same = loading_same s z; few = λ d. loading_few s (with_words z d) }

pub asking_settles : (s : List ℕ) (i j : ℕ) (z : Lengths) → Settles (λ d. asking s (with_words z d) i j start)
unfolding asking
asking_settles s i j z = record {
  same = λ a b h l. ap (λ r. after r (λ ds p. after (require (ltb i (length ds) && ltb j (length ds)) (nowhere Class.NoDeclaration) p) (λ _. pure ds))) (loading_same s z a b h l);
  few = λ d q ds e.
      after_elim (loading s (with_words z d) start) _ ds q e (λ ds₁ q₁ f₁ e₁.
      require_elim (ltb i (length ds₁) && ltb j (length ds₁)) (nowhere Class.NoDeclaration) q₁ _ ds q e₁ (λ _ e₂.
      subst (λ (l : List Declaration). length l ≤ d / 5) (done_inj e₂).0 ((loading_settles s z).few d q₁ ds₁ f₁)));
}

-- What the question for the binder comes to, by its answer: loading's result, or its refusal.
abbrev pub answering : Binding → Result (List Declaration) → Result (List Declaration)
answering (Ok (Binder.Local count row)) o = o
answering (Ok (Binder.Global place)) o = o
answering (Err r) o = refused r

pub left_is : (s : List ℕ) (z : Lengths) (b : Binding) → left s z b ≡ (outcome s z (answering b (loading s z start))).tables
unfolding load
left_is s z (Ok (Binder.Local count row)) = refl
left_is s z (Ok (Binder.Global place)) = refl
left_is s z (Err r) = refl

pub answering_settles : (s : List ℕ) (b : Binding) (z : Lengths) → Settles (λ d. answering b (loading s (with_words z d) start))
answering_settles s b z = record { same = λ x y h l. ap (answering b) (loading_same s z x y h l); few = λ d q ds. few b d q ds }
  where
    few : (b : Binding) (d : ℕ) (q : Position) (ds : List Declaration) → answering b (loading s (with_words z d) start) ≡ done ds q → length ds ≤ d / 5
    few (Ok (Binder.Local count row)) d q ds e = (loading_settles s z).few d q ds e
    few (Ok (Binder.Global place)) d q ds e = (loading_settles s z).few d q ds e
    few (Err r) d q ds e = absurd (let n : ◌≡◌ {A = ℕ} 0 1 = cc in omega arith)

pub printing_settles : (s : List ℕ) (m : ℕ) (z : Lengths) → Settles (λ d. printing s (with_words z d) m start)
unfolding printing
printing_settles s m z = record {
  same = λ a b h l. ap (λ r. after r (λ ds p. after (require (leb (length (text_of s ds)) m) (nowhere Class.TextShort) p) (λ _. pure ds))) (loading_same s z a b h l);
  few = λ d q ds e.
      after_elim (loading s (with_words z d) start) _ ds q e (λ ds₁ q₁ f₁ e₁.
      require_elim (leb (length (text_of s ds₁)) m) (nowhere Class.TextShort) q₁ _ ds q e₁ (λ _ e₂.
      subst (λ (l : List Declaration). length l ≤ d / 5) (done_inj e₂).0 ((loading_settles s z).few d q₁ ds₁ f₁)));
}

-- As many words as fit give what five for each record give.
pub settled : (n : ℕ) (Q : ℕ → Result (List Declaration)) → Settles Q → Q (word_limit n 65535) ≡ Q (n * 5)
settled n Q settles = by_test (ltb n 13107) refl
  where
    by_test : (b : Bool) → ltb n 13107 ≡ b → Q (word_limit n 65535) ≡ Q (n * 5)
    by_test true e = ap Q (sym (limit_below n 65535 (ltb-true n 13107 e)))
    by_test false e =
        let l : 13107 ≤ n = ltb-false n 13107 e in
        subst (λ (w : ℕ). Q w ≡ Q (n * 5)) (limit_above n 65535 l) (settles.same 65535 (n * 5) (omega arith) (omega arith))
