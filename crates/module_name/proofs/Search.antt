-- What the search for the shortest beginning finds: a good head, or the refusal of the whole source.
use mathlib.Core.Path.{◌≡◌, refl, sym, ap, ◌∙◌, subst}
use mathlib.Core.List.{List}
use Prim.Native.Nat.{ℕ, zero, suc, ◌+◌, ◌-◌, ◌≤◌, ◌<◌}
use native.Mathlib.Omega.{arith}
use lib.Dec.{eqb}
use lib.ListN.{length, take}
use lib.Seq.{take-length}
use mathlib.Core.Bool.{Bool, true, false}
use borrow.Author.Tests.{eqb-true, eqb-false}
use Rattle.std.specs.Prelude.{Err}
use Rattle.token.specs.declared.Refusal.{Refusal}
use Rattle.terms.specs.Label.{Declaration}
use Rattle.surface.specs.Reader.{start, Result, done, refused, after}
use Rattle.surface.specs.Reading.{Head, head}
use Rattle.surface.specs.SameCore.{Accepts}
use Rattle.surface.specs.Loading.{loading, outcome, load}
use Rattle.module_name.specs.Answer.{ModuleName, named_at}
use Rattle.surface.specs.Tables.{ample}
use Rattle.module_name.specs.ModuleName.{name_in, answered, or_else, shortest, module_name}
use Rattle.module_name.specs.Statements.{WouldBeAccepted, NoBeginning}
use Rattle.module_name.proofs.Good.{Good, good_itself, good_head, good_closed, good_accepted, good_unique, accepted_good}

abbrev pub named : Head → ModuleName
named h = named_at h.name.start (h.name.end - h.name.start)

-- A source that no tables would do for is refused by itself.
pub record RefusedAlone (t : List ℕ) : Type 0 where
  pub refusal : Refusal
  pub loads : loading t (ample t 16384) start ≡ refused refusal
  pub answers : answered (name_in t start) ≡ Err refusal

pub refused_alone : (t : List ℕ) → (WouldBeAccepted t → ⊥) → RefusedAlone t
unfolding name_in load
refused_alone t n = go (loading t (ample t 16384) start) refl
  where
    go : (o : Result (List Declaration)) → loading t (ample t 16384) start ≡ o → RefusedAlone t
    go (done ds q) e = absurd (n (ample t 16384, subst (λ (x : Result (List Declaration)). Accepts (outcome t (ample t 16384) x)) (sym e) (q.rows, length ds, refl)))
    go (refused r) e = record { refusal = r; loads = e; answers = ap (λ (x : Result (List Declaration)). answered (after x (λ ds p. after (head t start) (λ h q. done h.name q)))) e }

-- A good head is named by itself.
good_alone : (s : List ℕ) (h : Head) (n : ℕ) → Good s h n → answered (name_in (take n s) start) ≡ named h
unfolding name_in
good_alone s h n g =
    let t = take n s in
    let a = good_accepted s h n g (ample t 16384) (omega arith) in
    ap (λ (x : Result (List Declaration)). answered (after x (λ ds p. after (head t start) (λ h q. done h.name q)))) a.1
    ∙ ap (λ (x : Result Head). answered (after x (λ h q. done h.name q))) (good_head t h n (good_itself s h n g))

module _ (s : List ℕ) where
  abbrev tried : ℕ → ModuleName
  tried n = answered (name_in (take n s) start)

  finds : (k i n : ℕ) (x : Head) → ((m : ℕ) → m < n → (r : Refusal) × (tried m ≡ Err r)) → tried n ≡ named x → i ≤ n → n ≤ i + k → shortest s i k ≡ named x
  unfolding shortest
  finds zero i n x f e h l = ap tried (let j : i ≡ n = omega arith in j) ∙ e
  finds (suc k) i n x f e h l = go (eqb i n) refl (finds k (suc i) n x f e)
    where
      go : (b : Bool) → eqb i n ≡ b → (suc i ≤ n → n ≤ suc i + k → shortest s (suc i) k ≡ named x) → or_else (tried i) (shortest s (suc i) k) ≡ named x
      go true c ih = ap (λ (y : ModuleName). or_else y (shortest s (suc i) k)) (ap tried (eqb-true i n c) ∙ e)
      go false c ih =
          let j : suc i ≤ n = omega (arith, eqb-false i n c) in
          ap (λ (y : ModuleName). or_else y (shortest s (suc i) k)) (f i j).1 ∙ ih j (omega arith)

  misses : (k i : ℕ) → ((m : ℕ) → (r : Refusal) × (tried m ≡ Err r)) → shortest s i k ≡ tried (i + k)
  unfolding shortest
  misses zero i f = ap tried (let j : i ≡ i + 0 = omega arith in j)
  misses (suc k) i f = ap (λ (y : ModuleName). or_else y (shortest s (suc i) k)) (f i).1 ∙ misses k (suc i) f ∙ ap tried (let j : suc i + k ≡ i + suc k = omega arith in j)

-- A good head gives its name, whatever follows it.
pub good_names : (s : List ℕ) (h : Head) (n : ℕ) → Good s h n → module_name s ≡ named h
unfolding module_name
good_names s h n g = finds s (length s) 0 n h shorter (good_alone s h n g) (omega arith) (omega (arith, (good_closed s h n g).within))
  where
    shorter : (m : ℕ) → m < n → (r : Refusal) × (answered (name_in (take m s) start) ≡ Err r)
    shorter m l =
        let w = refused_alone (take m s) (λ a. let b = accepted_good s m a in omega (arith, l, b.within, (good_unique s h b.head_read n b.end g b.good).1)) in
        (w.refusal, w.answers)

-- Where no beginning is accepted, the whole source is refused.
pub record AnswersRefused (s : List ℕ) : Type 0 where
  pub refusal : Refusal
  pub loads : loading s (ample s 16384) start ≡ refused refusal
  pub answers : module_name s ≡ Err refusal

pub none_refused : (s : List ℕ) → NoBeginning s → AnswersRefused s
unfolding module_name
none_refused s n =
    let w = refused_alone s (λ a. n (length s) (subst WouldBeAccepted (sym (take-length s)) a)) in
    let f : (m : ℕ) → (r : Refusal) × (answered (name_in (take m s) start) ≡ Err r) = λ m. let v = refused_alone (take m s) (n m) in (v.refusal, v.answers) in
    record {
      refusal = w.refusal;
      loads = w.loads;
      answers = misses s (length s) 0 f ∙ ap (λ (m : ℕ). answered (name_in (take m s) start)) (let j : 0 + length s ≡ length s = omega arith in j)
          ∙ ap (λ (t : List ℕ). answered (name_in t start)) (take-length s) ∙ w.answers;
    }
