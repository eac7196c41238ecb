-- What printing leaves, from what it has written at the buffer's end, and from what loading leaves.
use Rattle.token.specs.declared.Class.{Class}
use Rattle.std.specs.Prelude.{Err}
use mathlib.Core.Path.{◌≡◌, refl, sym, ap, ◌∙◌, subst}
use mathlib.Core.Bool.{Bool, true, false}
use mathlib.Core.List.{List, []}
use Prim.Native.Nat.{ℕ, ◌-◌, ◌≤◌, ◌<◌}
use native.Mathlib.Omega.{arith}
use native.Mathlib.Decide.{dec_le}
use lib.Dec.{leb}
use lib.ListN.{length, drop}
use borrow.Author.Tests.{le-leb, lt-leb}
use Rattle.std.specs.Prelude.{Ok, Err}
use Rattle.token.specs.declared.Refusal.{Refusal}
use Rattle.terms.specs.Label.{Declaration}
use Rattle.terms.specs.Rows.{pad}
use Rattle.terms.proofs.Tables.{length_pad}
use Rattle.tables.specs.Tables.{cleared}
use Rattle.surface.specs.Answer.{Answer, loaded}
use Rattle.surface.specs.Reader.{Position, start, Result, done, refused, after, require, nowhere}
use Rattle.surface.specs.Tables.{Lengths, Tables, tables, leaves}
use Rattle.surface.specs.SameCore.{declaration_count}
use Rattle.surface.specs.Loading.{loading, Outcome, outcome, load}
use Rattle.surface.proofs.Acceptance.{is_read, is_loaded}
use Rattle.loader.proofs.Cleared.{cleared_whole}
use Rattle.printing.specs.Answer.{Printed}
use Rattle.printing.specs.PrintCall.{text_of, printing, PrintLeft, print_leaves, print_outcome, print}
use Rattle.printer.specs.inner.Ends.{Stacked}
use Rattle.printer.specs.inner.Machine.{Machine, machine, Stands, whole, Finishes}
use Rattle.printer.proofs.Frames.{stacked_none, none_stacked}
use Rattle.printer.proofs.Modules.{whole_printed}

-- The text at the buffer's end is moved, or all is cleared.
module _ (m : Machine) (surface core declarations work text work₁ out₁ : List ℕ) (at top : ℕ) (s : Stands work₁ out₁ m at top)
    (long : length out₁ ≡ length text) (same-work : length work₁ ≡ length work) where
  no_frames : m.stack ≡ [] → work₁ ≡ pad (length work) []
  no_frames n = none_stacked work₁ top (subst (λ (l : List ℕ). Stacked work₁ l top) n s.frames) ∙ ap (λ (x : ℕ). pad x []) same-work

  pub finish_fits : at ≤ length out₁ → (text₁ : List ℕ) → text₁ ≡ pad (length out₁) (drop (length out₁ - at) out₁)
      → Finishes m (tables surface core declarations work) text (Ok at) (tables surface core declarations work₁) text₁
  finish_fits h text₁ e = record {
    fits = λ n k.
        let a : at ≡ length m.text = omega (arith, s.written.told, long) in
        let c : text₁ ≡ pad (length text) m.text =
        e ∙ ap (λ (x : ℕ). pad (length out₁) (drop (length out₁ - x) out₁)) a ∙ (λ i. pad (long i) (s.written.content (omega (arith, long)) i)) in
        λ i. print_leaves (Ok (a i)) (tables surface core declarations (no_frames n i)) (c i);
    over = λ n k. absurd (omega (arith, s.written.told, long));
  }

  pub finish_over : length out₁ < at → (r : Printed) (surface₁ core₁ declarations₁ text₁ : List ℕ) → r ≡ Err (nowhere Class.TextShort)
      → surface₁ ≡ cleared surface 0 → core₁ ≡ cleared core 0 → declarations₁ ≡ cleared declarations 0 → text₁ ≡ cleared out₁ 0
      → Finishes m (tables surface core declarations work) text r (tables surface₁ core₁ declarations₁ work₁) text₁
  finish_over h r surface₁ core₁ declarations₁ text₁ e a b c f = record {
    fits = λ n k. absurd (omega (arith, s.written.told, long));
    over = λ n k i.
        print_leaves (e i)
        (tables ((a ∙ cleared_whole surface) i) ((b ∙ cleared_whole core) i) ((c ∙ cleared_whole declarations) i) (no_frames n i))
        ((f ∙ cleared_whole out₁ ∙ ap (λ (x : ℕ). pad x []) long) i);
  }

-- A call after loading, with a buffer of n bytes.
module _ (s : List ℕ) (z : Lengths) (n : ℕ) where
  printing_from : (o : Result (List Declaration)) → loading s z start ≡ o
      → printing s z n start ≡ after o (λ ds. λ p. after (require (leb (length (text_of s ds)) n) (nowhere Class.TextShort) p) (λ _. λ p. done ds p))
  unfolding printing
  printing_from o e = ap (λ (x : Result (List Declaration)). after x (λ ds. λ p. after (require (leb (length (text_of s ds)) n) (nowhere Class.TextShort) p) (λ _. λ p. done ds p))) e

  printing_as : (ds : List Declaration) (q : Position) (b : Bool) → loading s z start ≡ done ds q → leb (length (text_of s ds)) n ≡ b
      → printing s z n start ≡ after (require b (nowhere Class.TextShort) q) (λ _. λ p. done ds p)
  printing_as ds q b e f = printing_from (done ds q) e ∙ ap (λ (b : Bool). after (require b (nowhere Class.TextShort) q) (λ _. λ p. done ds p)) f

  print_is : (o : Result (List Declaration)) (x : PrintLeft) → printing s z n start ≡ o → x ≡ print_outcome s z n o → x ≡ print s z n
  unfolding print
  print_is o x e h = h ∙ ap (print_outcome s z n) (sym e)

  module _ (r : Answer) (surface core declarations work : List ℕ) (l : leaves r (tables surface core declarations work) ≡ load s z) where
    pub print_refused : (x : Refusal) (a : Printed) (text : List ℕ) → r ≡ Err x → a ≡ Err x → text ≡ pad n []
        → print_leaves a (tables surface core declarations work) text ≡ print s z n
    unfolding load
    print_refused x a text e f g = by (loading s z start) refl l
      where
        by : (o : Result (List Declaration)) → loading s z start ≡ o → leaves r (tables surface core declarations work) ≡ outcome s z o
            → print_leaves a (tables surface core declarations work) text ≡ print s z n
        by (refused y) p h =
            let b : r ≡ Err y = ap (λ (o : Outcome). o.answer) h in
            let c : a ≡ Err y = cc in
            print_is (refused y) (print_leaves a (tables surface core declarations work) text) (printing_from (refused y) p)
            (λ i. print_leaves (c i) (h i).tables (g i))
        by (done ds q) p h = absurd (let b : r ≡ loaded q.rows (length ds) = ap (λ (o : Outcome). o.answer) h in let z : ◌≡◌ {A = ℕ} 0 1 = cc in omega arith)

    -- The text fits, or it does not.
    finished : {a : Printed} {t : Tables} {text text₁ : List ℕ} (ds : List Declaration) (q : Position) → loading s z start ≡ done ds q
        → surface ≡ (outcome s z (done ds q)).tables.surface → core ≡ (outcome s z (done ds q)).tables.core
        → declarations ≡ (outcome s z (done ds q)).tables.declarations → length work ≡ z.work → length text ≡ n
        → Finishes (machine [] (text_of s ds)) (tables surface core declarations work) text a t text₁
        → Dec (length (text_of s ds) ≤ n) → print_leaves a t text₁ ≡ print s z n
    finished {a} {t} {text} {text₁} ds q p x c d j f v (yes k) =
        print_is (done ds q) (print_leaves a t text₁) (printing_as ds q true p (le-leb (length (text_of s ds)) n k))
        (v.fits refl (omega (arith, f)) ∙ (λ i. print_leaves (Ok (length (text_of s ds))) (tables (x i) (c i) (d i) (pad (j i) [])) (pad (f i) (text_of s ds))))
    finished {a} {t} {text} {text₁} ds q p x c d j f v (no k) =
        let long : (l m : List ℕ) (i : ℕ) → l ≡ pad i m → length l ≡ i = λ l m i e. ap length e ∙ length_pad i m in
        print_is (refused (nowhere Class.TextShort)) (print_leaves a t text₁) (printing_as ds q false p (lt-leb (length (text_of s ds)) n (omega arith)))
        (v.over refl (omega (arith, f))
        ∙ (λ i. print_leaves (Err (nowhere Class.TextShort)) (tables (pad (long surface _ z.surface x i) []) (pad (long core _ z.core c i) []) (pad (long declarations _ z.declarations d i) []) (pad (j i) [])) (pad (f i) [])))

    pub print_done : (rows count : ℕ) (text : List ℕ) (a : Printed) (t : Tables) (text₁ : List ℕ) → r ≡ loaded rows count → length text ≡ n
        → (Stacked work [] 0 → Finishes (whole s core declarations (length work) count) (tables surface core declarations work) text a t text₁)
        → print_leaves a t text₁ ≡ print s z n
    unfolding load
    print_done rows count text a t text₁ e f g = by (loading s z start) refl l
      where
        by : (o : Result (List Declaration)) → loading s z start ≡ o → leaves r (tables surface core declarations work) ≡ outcome s z o → print_leaves a t text₁ ≡ print s z n
        by (refused y) p h = absurd (let b : r ≡ Err y = ap (λ (o : Outcome). o.answer) h in let z : ◌≡◌ {A = ℕ} 0 1 = cc in omega arith)
        by (done ds q) p h =
            let b : r ≡ loaded q.rows (length ds) = ap (λ (o : Outcome). o.answer) h in
            let k : count ≡ length ds = ap declaration_count (sym e ∙ b) in
            let x = ap (λ (o : Outcome). o.tables.surface) h in
            let c = ap (λ (o : Outcome). o.tables.core) h in
            let d = ap (λ (o : Outcome). o.tables.declarations) h in
            let w = ap (λ (o : Outcome). o.tables.work) h in
            let j : length work ≡ z.work = ap length w ∙ length_pad z.work [] in
            let u = (is_read s z ds q (is_loaded s z ds q p).read).enough.work in
            let m : whole s core declarations (length work) count ≡ machine [] (text_of s ds) =
            (λ i. whole s (c i) (d i) (j i) (k i)) ∙ whole_printed s z ds q p z.work (omega (arith, u)) in
            let v : Finishes (machine [] (text_of s ds)) (tables surface core declarations work) text a t text₁ =
            subst (λ (y : Machine). Finishes y (tables surface core declarations work) text a t text₁) m (g (stacked_none z.work work w)) in
            finished ds q p x c d j f v (dec_le (length (text_of s ds)) n)
