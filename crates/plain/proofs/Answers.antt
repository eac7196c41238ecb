-- What the answers of the plain reader's parts come to: a term by what it begins with, and a form argument by argument.
use Rattle.std.specs.Prelude.{Ok, Err}
use Rattle.expects.specs.declared.TermStart.{TermStart}
use Rattle.expects.specs.Answers.{Begun}
use Rattle.token.specs.declared.Class.{Class}
use mathlib.Core.Path.{◌≡◌, refl, sym, ◌∙◌, ap, subst, transport}
use mathlib.Core.List.{List, [], ◌∷◌, ◌++◌}
use mathlib.Core.Bool.{Bool}
use Prim.Native.Nat.{ℕ, zero, suc, ◌+◌, ◌-◌, ◌≤◌, ◌<◌, max}
use native.Mathlib.Omega.{arith}
use native.Mathlib.Numerals.{add-one}
use lib.ListN.{length, take, set, length-set}
use lib.Seq.{take-suc-set}
use Rattle.token.specs.declared.Refusal.{Refusal}
use Rattle.terms.specs.Forms.{arity_of, holds_span_in}
use Rattle.terms.specs.Label.{Label}
use Rattle.terms.specs.Tree.{Forest, nil, Tree, tree, next as next_row, cells}
use Rattle.terms.specs.Rows.{row_holding}
use Rattle.surface.specs.Reader.{Position, Result, done, refused, Reader, after, refuse, nowhere}
use Rattle.surface.specs.Reading.{Beginning, finish, several, term}
use Rattle.surface.specs.Sizes.{frames_of}
use Rattle.expects.specs.declared.Format.{Format}
use Rattle.expects.specs.Formats.{edition}
use Rattle.expects.specs.Expects.{position_at, begun, Begins}
use Rattle.term_rows.specs.declared.ReadTerm.{ReadTerm}
use Rattle.term_rows.specs.TermRows.{TermRead, read_term, stored_rows, pushed_row, Reads, TermBounds}
use Rattle.term_rows.proofs.Growth.{term_grown}
use Rattle.term_rows.proofs.Depth.{term_needs}
use Rattle.term_rows.proofs.Readers.{format_sound}
use Rattle.plain.specs.Plain.{begin, close, form_end, a_term, arguments, a_form, form_rest, stored_term, ReadsRest}
use Rattle.plain.proofs.Forms.{leaf_stored, argument_read, form_read}

-- The term of an answer that has one.
abbrev term_of : ReadTerm → TermRead → ReadTerm
term_of d (Ok a) = a
term_of d (Err x) = d

same_term : (a b : ReadTerm) → ◌≡◌ {A = TermRead} (Ok a) (Ok b) → a ≡ b
same_term a b e = ap (term_of a) e

module _ (format : Format) (s : List ℕ) (limit : ℕ) where
  abbrev spans : ℕ → Bool
  spans = holds_span_in (edition format).forms

  -- The arguments of a form, where so many frames may still be opened in front of it.
  abbrev within_form : ℕ → ℕ → Reader (Forest Label)
  within_form zero = λ m. refuse (nowhere Class.Frames)
  within_form (suc f) = arguments format s limit f

  term_by : (f : ℕ) (p : Position) → a_term format s limit f p ≡ after (begin format s p) (finish (begin format s) (close format s) limit (within_form f))
  unfolding term
  term_by zero p = refl
  term_by (suc f) p = refl

  -- A term is to be read, and x is what it begins with.
  module _ (table : List ℕ) (at n left : ℕ) (b : TermBounds s at n) (x : Begun) (begins : Begins (edition format) s at x) where
    abbrev Answer : TermRead → List ℕ → Type 0
    Answer r table₁ = Reads spans n table (a_term format s limit left (position_at at n)) r table₁

    begun_at : (y : Begun) → x ≡ y → begin format s (position_at at n) ≡ begun n y
    begun_at y e = begins b.source n ∙ ap (begun n) e

    comes_to : (o : Result (Tree Label)) (r : TermRead) (table₁ : List ℕ) → a_term format s limit left (position_at at n) ≡ o → Reads spans n table o r table₁ → Answer r table₁
    comes_to o r table₁ e h = subst (λ (z : Result (Tree Label)). Reads spans n table z r table₁) (sym e) h

    read_on : (y : Begun) → x ≡ y → a_term format s limit left (position_at at n) ≡ after (begun n y) (finish (begin format s) (close format s) limit (within_form left))
    read_on y e = term_by left (position_at at n) ∙ ap (λ (z : Result Beginning). after z (finish (begin format s) (close format s) limit (within_form left))) (begun_at y e)

    pub begin_refused : (y : Refusal) (table₁ : List ℕ) → x ≡ Err y → Answer (Err y) table₁
    begin_refused y table₁ e = comes_to _ _ table₁ (read_on _ e) refl

    pub leaf_read : (l : Label) (next : ℕ) (r : TermRead) (table₁ : List ℕ) → x ≡ Ok (TermStart.Leaf l next) → r ≡ stored_term limit n next 0
        → table₁ ≡ pushed_row limit table n (row_holding spans (record { label = l; children = [] })) → Answer r table₁
    unfolding finish
    leaf_read l next r table₁ e q u = comes_to _ r table₁ (read_on _ e) (leaf_stored format s limit left l n table r table₁ next q u)

    module _ (l : Label) (next : ℕ) (e : x ≡ Ok (TermStart.Frame l next)) where
      pub too_deep : (r : Refusal) (table₁ : List ℕ) → left ≡ 0 → r ≡ nowhere Class.Frames → Answer (Err r) table₁
      unfolding finish
      too_deep r table₁ z q =
          let c : after (begun n (Ok (TermStart.Frame l next))) (finish (begin format s) (close format s) limit (within_form left)) ≡ refused (nowhere Class.Frames) = rw z in
          comes_to _ _ table₁ (read_on _ e ∙ c) (ap Err q)

      -- The arguments may be read: they stand behind the beginning, and are at least one.
      pub opened_past : at < next
      opened_past = ((format_sound format s).begins _ _ _ (begun_at _ e)).past

      pub opened : TermBounds s next n
      opened = let a = (format_sound format s).begins _ _ _ (begun_at _ e) in record { source = b.source; inside = a.high; few = omega (arith, a.past, b.few) }

      pub has_argument : 1 ≤ arity_of l.kind
      has_argument = ((format_sound format s).arities _ _ _ _ (begun_at _ e)).1

      pub frame_read : (r : TermRead) (table₁ : List ℕ) → ((left ≡ 0) → ⊥) → Reads spans n table (a_form format s limit (left - 1) l (position_at next n)) r table₁ → Answer r table₁
      unfolding finish
      frame_read r table₁ h a =
          let z : left ≡ suc (left - 1) = omega arith in
          let c : after (begun n (Ok (TermStart.Frame l next))) (finish (begin format s) (close format s) limit (within_form left)) ≡ a_form format s limit (left - 1) l (position_at next n) =
          ap (λ (f : ℕ). after (begun n (Ok (TermStart.Frame l next))) (finish (begin format s) (close format s) limit (within_form f))) z in
          comes_to _ r table₁ (read_on _ e ∙ c) a

  -- A term that was read behind n rows: its tree, and where reading goes on.
  record TermDone (o : Result (Tree Label)) (n : ℕ) (table : List ℕ) (row n₁ at frames : ℕ) (table₁ : List ℕ) : Type 0 where
    tree_is : Tree Label
    read : o ≡ done tree_is (position_at at n₁)
    row_is : row ≡ next_row n tree_is.args
    frames_are : frames ≡ frames_of (tree tree_is nil)
    rows_are : table₁ ≡ stored_rows spans n table (cells n (tree tree_is nil))

  module _ (n : ℕ) (table : List ℕ) (r : TermRead) (table₁ : List ℕ) where
    term_done : (o : Result (Tree Label)) (row n₁ at frames : ℕ) → r ≡ Ok (read_term row n₁ at frames) → Reads spans n table o r table₁ → TermDone o n table row n₁ at frames table₁
    term_done (done t q) row n₁ at frames e h =
        let w = same_term _ _ (sym e ∙ h.0) in
        record {
          tree_is = t;
          read = ap (λ (a : ReadTerm). done t (position_at a.next a.rows)) (sym w);
          row_is = ap (λ (a : ReadTerm). a.row) w;
          frames_are = ap (λ (a : ReadTerm). a.frames) w;
          rows_are = h.1;
        }
    term_done (refused x) row n₁ at frames e h = absurd (let z : ◌≡◌ {A = ℕ} 0 1 = cc in omega arith)

    term_stopped : (o : Result (Tree Label)) (x : Refusal) → r ≡ Err x → Reads spans n table o r table₁ → o ≡ refused x
    term_stopped (done t q) x e h = absurd (let z : ◌≡◌ {A = ℕ} 0 1 = cc h.0 in omega arith)
    term_stopped (refused y) x e h = ap refused (cc)

  -- The loop over the arguments of a form, which begins at an offset behind n rows: whatever answers for what is left answers for all.
  module _ (table₀ : List ℕ) (at n left arity : ℕ) (l : Label) where
    abbrev All : TermRead → List ℕ → Type 0
    All r table₂ = ReadsRest spans limit l [] 0 n table₀ (form_rest format s limit left arity (position_at at n)) r table₂

    pub record Arguments (table args : List ℕ) (len from stored frames : ℕ) : Type 0 where
      pub bounds : TermBounds s from stored
      pub low : at ≤ from
      pub few : len ≤ arity
      pub six : length args ≡ 6
      pub shallow : frames ≤ left
      pub kept : length table ≡ length table₀
      pub goes : (r : TermRead) (table₂ : List ℕ)
          → ReadsRest spans limit l (take len args) frames stored table (form_rest format s limit left (arity - len) (position_at from stored)) r table₂ → All r table₂

    module _ (table args : List ℕ) (len from stored frames : ℕ) (i : Arguments table args len from stored frames) where
      -- No argument is missing.
      pub all_read : (r : TermRead) (table₂ : List ℕ) → arity ≤ len → arity ≡ arity_of l.kind → 1 ≤ arity_of l.kind
          → ReadsRest spans limit l (take arity args) frames stored table (form_end format s (position_at from stored)) r table₂
          → Reads spans n table₀ (a_form format s limit left l (position_at at n)) r table₂
      unfolding several
      all_read r table₂ h e k f =
          let z : arity - len ≡ 0 = omega arith in
          let y : arity ≡ len = omega (arith, i.few) in
          let g = subst (λ (m : ℕ). ReadsRest spans limit l (take m args) frames stored table (form_end format s (position_at from stored)) r table₂) y f in
          form_read format s limit left l n table₀ r table₂ at k
          (subst (λ (m : ℕ). ReadsRest spans limit l [] 0 n table₀ (form_rest format s limit left m (position_at at n)) r table₂) e
          (i.goes r table₂ (subst (λ (m : ℕ). ReadsRest spans limit l (take len args) frames stored table (form_rest format s limit left m (position_at from stored)) r table₂) (sym z) g)))

      -- One that is missing was read, or refused.
      module _ (h : len < arity) (argument : TermRead) (table₁ : List ℕ) (a : Reads spans stored table (a_term format s limit left (position_at from stored)) argument table₁) where
        left_over : arity - len ≡ suc (arity - (len + 1))
        left_over = omega arith

        refused_there : (x : Refusal) → argument ≡ Err x → form_rest format s limit left (arity - len) (position_at from stored) ≡ refused x
        unfolding several
        refused_there x e =
            let o = term_stopped stored table argument table₁ (a_term format s limit left (position_at from stored)) x e a in
            ap (λ (m : ℕ). form_rest format s limit left m (position_at from stored)) left_over ∙ rw (o, several)

        pub one_refused : (x : Refusal) → argument ≡ Err x → arity ≡ arity_of l.kind → 1 ≤ arity_of l.kind
            → Reads spans n table₀ (a_form format s limit left l (position_at at n)) (Err x) table₁
        one_refused x e k m =
            form_read format s limit left l n table₀ (Err x) table₁ at m
            (subst (λ (j : ℕ). ReadsRest spans limit l [] 0 n table₀ (form_rest format s limit left j (position_at at n)) (Err x) table₁) k
            (i.goes (Err x) table₁
            (subst (λ (o : Result (Forest Label)). ReadsRest spans limit l (take len args) frames stored table o (Err x) table₁) (sym (refused_there x e)) refl)))

        module _ (row n₁ next f : ℕ) (e : argument ≡ Ok (read_term row n₁ next f)) where
          there : TermDone (a_term format s limit left (position_at from stored)) stored table row n₁ next f table₁
          there = term_done stored table argument table₁ (a_term format s limit left (position_at from stored)) row n₁ next f e a

          pub argument_past : from < next
          argument_past = (term_grown (begin format s) (close format s) limit s (format_sound format s).begins (format_sound format s).closes left _ _ _ there.read).past

          pub one_read : (frames₁ : ℕ) → frames₁ ≡ max frames f → arity ≤ 6 → length table₁ ≡ length table → Arguments table₁ (set args len row) (len + 1) next n₁ frames₁
          one_read frames₁ d six k =
              let g = term_grown (begin format s) (close format s) limit s (format_sound format s).begins (format_sound format s).closes left _ _ _ there.read in
              let q = term_needs (begin format s) (close format s) limit left _ _ _ there.read in
              record {
                bounds = record { source = i.bounds.source; inside = g.high; few = omega (arith, g.slow, i.bounds.few) };
                low = omega (arith, i.low, g.past);
                few = omega arith;
                six = length-set args len row ∙ i.six;
                shallow = omega (arith, i.shallow, q, d, there.frames_are);
                kept = k ∙ i.kept;
                goes = λ r table₂ z. i.goes r table₂
                    (subst (λ (m : ℕ). ReadsRest spans limit l (take len args) frames stored table (form_rest format s limit left m (position_at from stored)) r table₂) (sym left_over)
                    (argument_read format s limit left l (take len args) frames stored table there.tree_is r table₂ (arity - (len + 1)) (position_at from stored) (position_at next n₁) there.read refl
                    (onwards r table₂ z)));
              }
            where
              more : take (len + 1) (set args len row) ≡ take len args ++ (next_row stored there.tree_is.args ∷ [])
              more =
                  ap (λ (m : ℕ). take m (set args len row)) (add-one len) ∙ take-suc-set args len row (omega (arith, i.six))
                  ∙ ap (λ (v : ℕ). take len args ++ (v ∷ [])) there.row_is

              onwards : (r : TermRead) (table₂ : List ℕ)
                  → ReadsRest spans limit l (take (len + 1) (set args len row)) frames₁ n₁ table₁ (form_rest format s limit left (arity - (len + 1)) (position_at next n₁)) r table₂
                  → ReadsRest spans limit l (take len args ++ (next_row stored there.tree_is.args ∷ [])) (max frames (frames_of (tree there.tree_is nil))) n₁
                  (stored_rows spans stored table (cells stored (tree there.tree_is nil))) (form_rest format s limit left (arity - (len + 1)) (position_at next n₁)) r table₂
              onwards r table₂ z =
                  let d₁ : frames₁ ≡ max frames (frames_of (tree there.tree_is nil)) = d ∙ ap (max frames) there.frames_are in
                  transport (λ j. ReadsRest spans limit l (more j) (d₁ j) n₁ (there.rows_are j) (form_rest format s limit left (arity - (len + 1)) (position_at next n₁)) r table₂) z
