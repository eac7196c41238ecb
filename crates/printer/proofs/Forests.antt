-- The rows of terms, taken from the last to the first, give the terms' text.
use mathlib.Core.Path.{◌≡◌, refl, sym, ap, ◌∙◌}
use mathlib.Core.List.{List, [], ◌∷◌, ◌++◌, append_assoc}
use Prim.Native.Nat.{ℕ, suc, ◌+◌, ◌-◌, ◌*◌, ◌/◌, ◌%◌, ◌≤◌, ◌<◌}
use native.Mathlib.Omega.{arith}
use lib.ListN.{length}
use Rattle.terms.specs.Forms.{arrow, form_of_kind, arity_of, forms, forms_0_2}
use Rattle.terms.specs.Tree.{Forest, nil, node, count, relabel}
use Rattle.terms.specs.Label.{Label, Named}
use Rattle.terms.specs.Resolution.{Core, kept, var, global, unknown, Resolved}
use Rattle.terms.proofs.Arrow.{counts_never}
use Rattle.terms.proofs.Cells.{count_relabel}
use Rattle.terms.proofs.CoreRows.{Fits, AllFit}
use Rattle.terms.proofs.Spans.{bytes_core, named_core}
use Rattle.rows.proofs.Arities.{arity_at_most_six}
use Rattle.surface.proofs.Frames.{frames_of}
use Rattle.terms.specs.TextForms.{text_forms}
use Rattle.printing.specs.Printing.{print_form, print_terms, spell_core, spell}
use Rattle.printer.specs.inner.Machine.{Machine, machine, text_word, opening, leaf, taken, settled, settle, step}
use Rattle.printer.proofs.Words.{print_plain}
use Rattle.printer.proofs.Frames.{pushed_room}
use Rattle.printer.proofs.Turning.{settled_open, settled_stop, enter_leaf, enter_frame}

-- The labels of terms in the order of their rows.
abbrev pub labels : {A : Type 0} → Forest A → List A
labels nil = []
labels (node l a r) = labels a ++ (l ∷ labels r)

-- What is done for them, the last first.
unfoldable pub run : ℕ → List Named → Machine → Machine
run limit [] m = m
run limit (x ∷ l) m = step limit x (run limit l m)

run_append : (limit : ℕ) (l n : List Named) (m : Machine) → run limit (l ++ n) m ≡ run limit l (run limit n m)
unfolding run
run_append limit [] n m = refl
run_append limit (x ∷ l) n m = ap (step limit x) (run_append limit l n m)

-- The top frame, where there is one, has at least c arguments to come; and with c of them less.
abbrev Awaits : ℕ → List ℕ → Type 0
Awaits c [] = Unit {0}
Awaits c (w ∷ l) = c ≤ w % 8

less : ℕ → List ℕ → List ℕ
less c [] = []
less c (w ∷ l) = (w - c) ∷ l

less_none : (l : List ℕ) → less 0 l ≡ l
unfolding less
less_none [] = refl
less_none (w ∷ l) = let e : w - 0 ≡ w = omega arith in ap (λ (x : ℕ). x ∷ l) e

less_one : (c : ℕ) (l : List ℕ) → taken (less c l) ≡ less (suc c) l
unfolding less taken
less_one c [] = refl
less_one c (w ∷ l) = let e : w - c - 1 ≡ w - suc c = omega arith in ap (λ (x : ℕ). x ∷ l) e

length_less : (c : ℕ) (l : List ℕ) → length (less c l) ≡ length l
unfolding less
length_less c [] = refl
length_less c (w ∷ l) = refl

fewer : (c : ℕ) (l : List ℕ) → Awaits (suc c) l → Awaits c l
fewer c [] h = tt
fewer c (w ∷ l) h = omega (arith, h)

-- While arguments are to come, no frame is opened.
waits : (c : ℕ) (l t : List ℕ) → Awaits (suc c) l → settled (less c l) t ≡ machine (less c l) t
unfolding less settled
waits c [] t h = refl
waits c (w ∷ l) t h = settled_stop (w - c) l t (λ e. omega (arith, h, e))

-- As many arguments as its kind wants.
fits_arity : (s : List ℕ) (l : Label) (c : Core) (n : ℕ) → Fits (bytes_core s l c) n → n ≡ arity_of (spell_core s l c).kind
unfolding arity_of form_of_kind forms forms_0_2
fits_arity s l kept n f = f.1
fits_arity s l (var i) n f = f
fits_arity s l (global j) n f = f
fits_arity s l unknown n f = absurd f

-- No term of a core is an arrow.
no_arrow : (s : List ℕ) (l : Label) (c : Core) → ¬ ((spell_core s l c).kind ≡ arrow)
no_arrow s l kept e = counts_never l.kind e
no_arrow s l (var i) e = omega (arith, e)
no_arrow s l (global j) e = omega (arith, e)
no_arrow s l unknown e = omega (arith, e)

-- The text of a term with those behind it, by its own part.
text_leaf : (x : Named) (r : Forest Named) (t : List ℕ) → leaf x ++ (print_terms r ++ t) ≡ print_terms (node x nil r) ++ t
unfolding leaf print_terms
text_leaf x r t = ap {B = List ℕ} (λ y. 32 ∷ y) (sym (append_assoc (print_form (form_of_kind x.kind text_forms) x.name []) (print_terms r) t))

regroup : (w a r t : List ℕ) → ((w ++ (a ++ (41 ∷ []))) ++ r) ++ t ≡ w ++ (a ++ (41 ∷ (r ++ t)))
regroup w a r t = simp append_assoc

text_frame : (x : Named) (a r : Forest Named) (t : List ℕ) → ¬ (x.kind ≡ arrow) → ¬ (arity_of x.kind ≡ 0)
    → opening x.kind ++ (print_terms a ++ (41 ∷ (print_terms r ++ t))) ≡ print_terms (node x a r) ++ t
unfolding opening print_terms
text_frame x a r t u h =
    ap {B = List ℕ} (λ y. 32 ∷ y)
    (sym (ap (λ (y : List ℕ). (y ++ print_terms r) ++ t) (print_plain x.kind x.name (print_terms a) u h)
    ∙ ap {B = List ℕ} (λ y. 40 ∷ y) (regroup (text_word x.kind) (print_terms a) (print_terms r) t)))

module _ (s : List ℕ) (limit : ℕ) where
  -- A term without arguments, and one that is a frame while its arguments are written.
  one_leaf : (x : Named) (l t : List ℕ) → arity_of x.kind ≡ 0 → step limit x (machine l t) ≡ settled (taken l) (leaf x ++ t)
  unfolding step
  one_leaf x l t e = ap settle (enter_leaf limit x (machine l t) e)

  one_frame : (x : Named) (l t : List ℕ) → ¬ (arity_of x.kind ≡ 0) → length (taken l) < limit
      → step limit x (machine l t) ≡ machine ((x.kind * 8 + arity_of x.kind) ∷ taken l) (41 ∷ t)
  unfolding step
  one_frame x l t e h =
      let w = x.kind * 8 + arity_of x.kind in
      ap settle (enter_frame limit x (machine l t) e)
      ∙ ap (λ (y : List ℕ). settled y (41 ∷ t)) (pushed_room limit w (taken l) h)
      ∙ settled_stop w (taken l) (41 ∷ t) (λ f. e (let z : arity_of x.kind ≡ 0 = omega (arith, arity_at_most_six x.kind) in z))

  -- A frame is opened once all its arguments are written.
  frame_ends : (k n : ℕ) (l t : List ℕ) → n ≡ arity_of k → settled (less n ((k * 8 + arity_of k) ∷ l)) t ≡ settled l (opening k ++ t)
  unfolding less
  frame_ends k n l t e =
      let w = k * 8 + arity_of k - n in
      let z : w % 8 ≡ 0 = omega arith in
      let q : w / 8 ≡ k = omega arith in
      settled_open w l t z ∙ ap (λ (y : ℕ). settled l (opening y ++ t)) q

  terms : (f : Forest Resolved) (l t : List ℕ) → AllFit (relabel (named_core s) f) → Awaits 1 l → Awaits (count f) l
      → frames_of (relabel (λ r. r.label) f) + length l ≤ limit
      → run limit (labels (relabel (spell s) f)) (machine l t) ≡ settled (less (count f) l) (print_terms (relabel (spell s) f) ++ t)
  unfolding run print_terms
  terms nil l t f h k d = ap (λ (y : List ℕ). machine y t) (sym (less_none l)) ∙ sym (waits 0 l t h)
  terms (node x nil r) l t f h k d =
      let y = spell s x in
      let e : arity_of y.kind ≡ 0 = sym (fits_arity s x.label x.core 0 f.0) in
      let others = relabel (spell s) r in
      let u = print_terms others ++ t in
      ap (step limit y) (terms r l t f.2 h (fewer (count r) l k) (omega (arith, d)) ∙ waits (count r) l u k)
      ∙ one_leaf y (less (count r) l) u e
      ∙ (λ i. settled (less_one (count r) l i) (text_leaf y others t i))
  terms (node x (node z b q) r) l t f h k d =
      let y = spell s x in
      let n : suc (count q) ≡ arity_of y.kind = ap suc (sym (count_relabel (named_core s) q)) ∙ fits_arity s x.label x.core (suc (count (relabel (named_core s) q))) f.0 in
      let inner = relabel (spell s) (node z b q) in
      let others = relabel (spell s) r in
      let u = print_terms others ++ t in
      let w = y.kind * 8 + arity_of y.kind in
      let l₁ = taken (less (count r) l) in
      let j : length l₁ ≡ length l = ap length (less_one (count r) l) ∙ length_less (suc (count r)) l in
      run_append limit (labels inner) (y ∷ labels others) (machine l t)
      ∙ ap (λ (m : Machine). run limit (labels inner) (step limit y m)) (terms r l t f.2 h (fewer (count r) l k) (omega (arith, d)) ∙ waits (count r) l u k)
      ∙ ap (run limit (labels inner)) (one_frame y (less (count r) l) u (λ e. omega (arith, n, e)) (omega (arith, d, j)))
      ∙ terms (node z b q) (w ∷ l₁) (41 ∷ u) f.1 (omega (arith, n, arity_at_most_six y.kind)) (omega (arith, n, arity_at_most_six y.kind)) (omega (arith, d, j))
      ∙ frame_ends y.kind (suc (count q)) l₁ (print_terms inner ++ (41 ∷ u)) n
      ∙ (λ i. settled (less_one (count r) l i) (text_frame y inner others t (no_arrow s x.label x.core) (λ e. omega (arith, n, e)) i))

  -- The text of the terms of a declaration.
  pub prints_terms : (f : Forest Resolved) (t : List ℕ) → AllFit (relabel (named_core s) f) → frames_of (relabel (λ r. r.label) f) ≤ limit
      → run limit (labels (relabel (spell s) f)) (machine [] t) ≡ machine [] (print_terms (relabel (spell s) f) ++ t)
  unfolding less settled
  prints_terms f t h d = terms f [] t h tt tt (omega (arith, d))
