-- Text and frames on the way: what is still to be done from here, and that it is what was to be done from the start.
use mathlib.Core.Path.{◌≡◌, refl, sym, ap, ◌∙◌, subst}
use mathlib.Core.List.{List, [], ◌∷◌, ◌++◌}
use Prim.Native.Nat.{ℕ, suc, ◌+◌, ◌-◌, ◌*◌, ◌/◌, ◌%◌, ◌≤◌, ◌<◌}
use native.Mathlib.Omega.{arith}
use lib.ListN.{length}
use borrow.Author.Tests.{eq-eqb, ne_eqb}
use Rattle.terms.specs.Forms.{arity_of}
use Rattle.terms.specs.Label.{Named}
use Rattle.printer.specs.inner.Ends.{Written, Puts, Stacked, pushed}
use Rattle.printer.specs.declared.Marks.{Marks}
use Rattle.printer.specs.inner.Machine.{Machine, machine, Stands, Turns, opening, leaf, taken, enter, settled, settle, aside, down}
use Rattle.printer.proofs.Frames.{stacked_pop}

-- What stands here, of which g makes the goal.
pub record Here (work out : List ℕ) (at top : ℕ) (g : Machine → Machine) (goal : Machine) : Type 0 where
  pub now : Machine
  pub stands : Stands work out now at top
  pub same : g now ≡ goal

-- What f makes of what stood there at first, g makes of what stands here.
pub record Onward (work₀ out₀ : List ℕ) (at₀ top₀ : ℕ) (f : Machine → Machine) (work out : List ℕ) (at top : ℕ) (g : Machine → Machine) : Type 0 where
  pub onward : (m : Machine) → Stands work₀ out₀ m at₀ top₀ → Here work out at top g (f m)

pub onward_start : (work out : List ℕ) (at top : ℕ) (f : Machine → Machine) → Onward work out at top f work out at top f
onward_start work out at top f = record { onward = λ m s. record { now = m; stands = s; same = refl } }

-- Frames that are opened one after the other.
pub settled_open : (w : ℕ) (l t : List ℕ) → w % 8 ≡ 0 → settled (w ∷ l) t ≡ settled l (opening (w / 8) ++ t)
unfolding settled
settled_open w l t e = rw (eq-eqb (w % 8) 0 e, settled) refl

pub settled_stop : (w : ℕ) (l t : List ℕ) → ¬ (w % 8 ≡ 0) → settled (w ∷ l) t ≡ machine (w ∷ l) t
unfolding settled
settled_stop w l t e = rw (ne_eqb (w % 8) 0 e, settled) refl

module _ (work₀ out₀ : List ℕ) (at₀ top₀ : ℕ) (work out : List ℕ) (at top : ℕ) (o : Onward work₀ out₀ at₀ top₀ settle work out at top settle) where
  module _ (h : 0 < top) (word : ℕ) (is-top : (w : ℕ) (l : List ℕ) → Stacked work (w ∷ l) top → word ≡ w) where
    pub open_next : word % 8 ≡ 0 → (out₁ : List ℕ) (at₁ : ℕ) → Puts out at (opening (word / 8)) out₁ at₁
        → (work₁ : List ℕ) → ((w : ℕ) (l : List ℕ) → Stacked work (w ∷ l) top → Stacked work₁ (0 ∷ l) top)
        → Onward work₀ out₀ at₀ top₀ settle work₁ out₁ at₁ (top - 1) settle
    open_next e out₁ at₁ p work₁ q = record { onward = λ m s. let x = o.onward m s in go (settle m) x.now.stack x.now.text x.stands.frames x.stands.written x.same }
      where
        go : (goal : Machine) (l t : List ℕ) → Stacked work l top → Written out t at → settled l t ≡ goal → Here work₁ out₁ at₁ (top - 1) settle goal
        go goal [] t s w g = absurd (omega (arith, s.told))
        go goal (v ∷ l) t s w g =
            let i = is-top v l s in
            record {
              now = machine l (opening (v / 8) ++ t);
              stands = record {
                frames = stacked_pop work₁ l top (q v l s);
                written = subst (λ (x : ℕ). Written out₁ (opening (x / 8) ++ t) at₁) i (p.front t w);
              };
              same = sym (settled_open v l t (ap (λ (x : ℕ). x % 8) (sym i) ∙ e)) ∙ g;
            }

    pub open_stop : ¬ (word % 8 ≡ 0) → (m : Machine) → Stands work₀ out₀ m at₀ top₀ → Stands work out (settle m) at top
    open_stop e m s = let x = o.onward m s in go (settle m) x.now.stack x.now.text x.stands.frames x.stands.written x.same
      where
        go : (goal : Machine) (l t : List ℕ) → Stacked work l top → Written out t at → settled l t ≡ goal → Stands work out goal at top
        go goal [] t s w g = absurd (omega (arith, s.told))
        go goal (v ∷ l) t s w g =
            let i = is-top v l s in
            subst (λ (x : Machine). Stands work out x at top) (sym (settled_stop v l t (λ f. e (ap (λ (x : ℕ). x % 8) i ∙ f))) ∙ g) (record { frames = s; written = w })

  pub open_last : top ≤ 0 → (m : Machine) → Stands work₀ out₀ m at₀ top₀ → Stands work out (settle m) at top
  unfolding settled
  open_last h m s = let x = o.onward m s in go (settle m) x.now.stack x.now.text x.stands.frames x.stands.written x.same
    where
      go : (goal : Machine) (l t : List ℕ) → Stacked work l top → Written out t at → settled l t ≡ goal → Stands work out goal at top
      go goal [] t s w g = subst (λ (x : Machine). Stands work out x at top) g (record { frames = s; written = w })
      go goal (v ∷ l) t s w g = absurd (omega (arith, s.told))

-- A term that is written, and one that is closed.
module _ (limit : ℕ) (x : Named) (m : Machine) where
  pub enter_leaf : arity_of x.kind ≡ 0 → enter limit x m ≡ machine (taken m.stack) (leaf x ++ m.text)
  unfolding enter
  enter_leaf e = rw (eq-eqb (arity_of x.kind) 0 e, enter) refl

  pub enter_frame : ¬ (arity_of x.kind ≡ 0) → enter limit x m ≡ machine (pushed limit (x.kind * 8 + arity_of x.kind) (taken m.stack)) (41 ∷ m.text)
  unfolding enter
  enter_frame e = rw (ne_eqb (arity_of x.kind) 0 e, enter) refl

module _ (work out : List ℕ) (at top limit : ℕ) (x : Named) (work₁ : List ℕ)
    (takes : (l : List ℕ) → Stacked work l top → Stacked work₁ (taken l) top) where
  pub leaf_turn : arity_of x.kind ≡ 0 → (out₁ : List ℕ) (at₁ : ℕ) → Puts out at (leaf x) out₁ at₁
      → (m : Machine) → Stands work out m at top → Stands work₁ out₁ (enter limit x m) at₁ top
  leaf_turn e out₁ at₁ p m s =
      subst (λ (y : Machine). Stands work₁ out₁ y at₁ top) (sym (enter_leaf limit x m e))
      (record { frames = takes m.stack s.frames; written = p.front m.text s.written })

  pub frame_turn : (n word : ℕ) → n ≡ arity_of x.kind → ¬ (n ≡ 0) → word ≡ x.kind * 8 + n → length work₁ ≡ limit
      → (out₁ : List ℕ) (at₁ : ℕ) → Puts out at (41 ∷ []) out₁ at₁
      → (work₂ : List ℕ) (top₁ : ℕ) → ((l : List ℕ) → Stacked work₁ l top → Stacked work₂ (pushed (length work₁) word l) top₁)
      → (m : Machine) → Stands work out m at top → Stands work₂ out₁ (enter limit x m) at₁ top₁
  frame_turn n word e z w h out₁ at₁ p work₂ top₁ q m s =
      let v : word ≡ x.kind * 8 + arity_of x.kind = w ∙ ap (λ (y : ℕ). x.kind * 8 + y) e in
      subst (λ (y : Machine). Stands work₂ out₁ y at₁ top₁) (sym (enter_frame limit x m (λ f. z (e ∙ f)))) (record {
        frames = subst (λ (y : List ℕ). Stacked work₂ y top₁) (λ i. pushed (h i) (v i) (taken m.stack)) (q (taken m.stack) (takes m.stack s.frames));
        written = p.front m.text s.written;
      })

-- One call after another.
pub turns_then : {work out : List ℕ} {marks : Marks} {f : Machine → Machine} {work₁ out₁ : List ℕ} {marks₁ : Marks} {g : Machine → Machine} {work₂ out₂ : List ℕ} {marks₂ : Marks}
    → Turns work out marks f work₁ out₁ marks₁ → Turns work₁ out₁ marks₁ g work₂ out₂ marks₂ → Turns work out marks (λ m. g (f m)) work₂ out₂ marks₂
turns_then {f = f} p q = record { turn = λ m s. q.turn (f m) (p.turn m s) }

pub turns_as : {work out : List ℕ} {marks : Marks} {f g : Machine → Machine} {work₁ out₁ : List ℕ} {marks₁ : Marks}
    → ((m : Machine) → f m ≡ g m) → Turns work out marks f work₁ out₁ marks₁ → Turns work out marks g work₁ out₁ marks₁
turns_as {work₁ = work₁} {out₁ = out₁} {marks₁ = marks₁} e p =
    record { turn = λ m s. subst (λ (x : Machine). Stands work₁ out₁ x marks₁.at marks₁.top) (e m) (p.turn m s) }

-- A text that stands in no term.
pub turns_aside : {work out : List ℕ} {at top : ℕ} {w out₁ : List ℕ} {at₁ : ℕ} → Puts out at w out₁ at₁
    → Turns work out (record { at = at; top = top }) (aside w) work out₁ (record { at = at₁; top = top })
turns_aside p = record { turn = λ m s. record { frames = s.frames; written = p.front m.text s.written } }

-- A count that goes down, with n numbers still to come: one turn more, and the end.
module _ (goal : Machine → Machine) (f : ℕ → Machine → Machine) (from : ℕ) (work₀ out₀ : List ℕ) (at₀ top₀ : ℕ) (work out : List ℕ) (here : Marks) (n : ℕ)
    (o : Onward work₀ out₀ at₀ top₀ goal work out here.at here.top (down f from n)) where
  pub down_more : (k n₁ : ℕ) → n ≡ suc n₁ → from + n₁ ≡ k → (work₁ out₁ : List ℕ) (here₁ : Marks) → Turns work out here (f k) work₁ out₁ here₁
      → Onward work₀ out₀ at₀ top₀ goal work₁ out₁ here₁.at here₁.top (down f from n₁)
  unfolding down
  down_more k n₁ e g work₁ out₁ here₁ t = record {
    onward = λ m s.
        let x = o.onward m s in
        record {
          now = f k x.now;
          stands = t.turn x.now x.stands;
          same = ap (λ (j : ℕ). down f from n₁ (f j x.now)) (sym g) ∙ ap (λ (j : ℕ). down f from j x.now) (sym e) ∙ x.same;
        };
  }

  pub down_all : n ≡ 0 → (m : Machine) → Stands work₀ out₀ m at₀ top₀ → Stands work out (goal m) here.at here.top
  unfolding down
  down_all e m s =
      let x = o.onward m s in
      subst (λ (y : Machine). Stands work out y here.at here.top) (ap (λ (j : ℕ). down f from j x.now) (sym e) ∙ x.same) x.stands
