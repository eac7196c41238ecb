-- The stacks after words were stored.
use Prim.Native.Nat.{ℕ, ◌+◌, ◌*◌, ◌≤◌, ◌<◌}
use mathlib.Core.Path.{◌≡◌, refl, ◌∙◌, ap}
use mathlib.Core.Bool.{Bool, true, false, cond}
use mathlib.Core.List.{List, [], ◌∷◌, ◌++◌}
use mathlib.Core.Option.{Option, none, some}
use native.Mathlib.Omega.{arith}
use native.Mathlib.Numerals.{add-one}
use mathlib.Core.Logic.{◌⊎◌, inl, inr, ⊎_elim}
use lib.Dec.{eqb}
use lib.ListN.{length, get_or, set, length-set}
use lib.Seq.{get_or-set_same, get_or-set_other}
use Rattle.terms.specs.Forms.{arrow}
use Rattle.terms.specs.Label.{Name, part}
use Rattle.terms.specs.Resolution.{bound_name}
use Rattle.terms.specs.Lookup.{local_of}
use Rattle.scope.specs.Scope.{in_scope}
use Rattle.stacks.specs.Stacks.{names_room, values_room, works_room, work_of, works_in, values_in, WorkArea, WorkPushed, ValuePushed, LocalPushed}
use Rattle.stacks.specs.declared.Work.{Work}
use Rattle.stacks.proofs.Decoding.{Same, same_works, same_values, same_locals}

-- One word stored: the others stay.
one : (w : List ℕ) (at x from to : ℕ) → (to ≤ at) ⊎ (at < from) → Same w (set w at x) from to
one w at x from to b j p q = get_or-set_other w at j x 0 (λ e. ⊎_elim (λ z. omega arith) (λ z. omega arith) b)

-- An arrow has no name, whatever its length.
name_kept : (s : List ℕ) (k a n m : ℕ) → m ≡ cond (eqb k arrow) 0 n → bound_name k (part s a m) ≡ bound_name k (part s a n)
name_kept s k a n m = go (eqb k arrow)
  where
    go : (b : Bool) → m ≡ cond b 0 n → cond b none (some (part s a m)) ≡ cond b none (some (part s a n))
    go true e = refl
    go false e = ap (λ (i : ℕ). some (part s a i)) e

module _ (w : List ℕ) (area : WorkArea w) where
  pub value_pushed : (v x : ℕ) → v < values_room → ValuePushed w (set w (2048 + v) x) v x
  unfolding values_in
  value_pushed v x q =
      let at = 2048 + v in
      let w' = set w at x in
      let front = same_values w w' v (one w at x 2048 at (inl (omega arith))) in
      let e = get_or-set_same w at x 0 (omega arith) in
      record {
        works = λ t. same_works w w' t (one w at x 5120 (5120 + t * 3) (inr (omega arith)));
        values = ap (values_in w') (add-one v) ∙ (λ k. front k ++ (e k ∷ []));
        locals = λ s l p. same_locals w w' s l (one w at x 0 (l * 2) (inl (omega arith))) (one w at x 1024 (1024 + l) (inl (omega arith))) (one w at x 1536 (1536 + l) (inl (omega arith)));
      }

  -- Three words stored: two, one behind the other, and a third further on.
  module _ (at other a b c : ℕ) (apart : at + 2 ≤ other) (there : other < length w) where
    abbrev w₁ : List ℕ
    w₁ = set w at a

    abbrev w₂ : List ℕ
    w₂ = set w₁ (at + 1) b

    abbrev three_words : List ℕ
    three_words = set w₂ other c

    three : (from to : ℕ) → ((j : ℕ) → from ≤ j → j < to → ¬ (j ≡ at) × ¬ (j ≡ at + 1) × ¬ (j ≡ other)) → Same w three_words from to
    three from to z j p q =
        let n = z j p q in
        get_or-set_other w₂ other j c 0 n.2 ∙ get_or-set_other w₁ (at + 1) j b 0 n.1 ∙ get_or-set_other w at j a 0 n.0

    first : get_or three_words at 0 ≡ a
    first =
        get_or-set_other w₂ other at c 0 (λ e. omega arith) ∙ get_or-set_other w₁ (at + 1) at b 0 (λ e. omega arith)
        ∙ get_or-set_same w at a 0 (omega arith)

    second : get_or three_words (at + 1) 0 ≡ b
    second = get_or-set_other w₂ other (at + 1) c 0 (λ e. omega arith) ∙ get_or-set_same w₁ (at + 1) b 0 (simp length-set (omega arith))

    third : get_or three_words other 0 ≡ c
    third = get_or-set_same w₂ other c 0 (simp length-set (omega arith))

  pub local_pushed : (l k a n m row : ℕ) → m ≡ cond (eqb k arrow) 0 n → l < names_room
      → LocalPushed w (set (set (set (set w (l * 2) a) (l * 2 + 1) m) (1024 + l) row) (1536 + l) k) l k a n row
  unfolding in_scope
  local_pushed l k a n m row i q =
      let at = l * 2 in
      let other = 1024 + l in
      let last = 1536 + l in
      let f : at + 2 ≤ other = omega arith in
      let h : other < length w = omega arith in
      let w₃ = three_words at other a m row f h in
      let w' = set w₃ last k in
      let same : (from to : ℕ) → (to ≤ last) ⊎ (last < from) → ((j : ℕ) → from ≤ j → j < to → ¬ (j ≡ at) × ¬ (j ≡ at + 1) × ¬ (j ≡ other)) → Same w w' from to =
      λ from to b z j u v. one w₃ last k from to b j u v ∙ three at other a m row f h from to z j u v in
      let kept : (j : ℕ) → j < last → get_or w' j 0 ≡ get_or w₃ j 0 = λ j u. get_or-set_other w₃ last j k 0 (λ e. omega arith) in
      let e = kept at (omega arith) ∙ first at other a m row f h in
      let x = kept (at + 1) (omega arith) ∙ second at other a m row f h in
      let y = kept other (omega arith) ∙ third at other a m row f h in
      let z : get_or w' last 0 ≡ k = get_or-set_same w₃ last k 0 (simp length-set (omega arith)) in
      record {
        works = λ t. same_works w w' t (same 5120 (5120 + t * 3) (inr (omega arith)) (λ j u v. (λ e. omega arith, λ e. omega arith, λ e. omega arith)));
        values = λ v. same_values w w' v (same 2048 (2048 + v) (inr (omega arith)) (λ j u v. (λ e. omega arith, λ e. omega arith, λ e. omega arith)));
        locals = λ s. let tail = same_locals w w' s l
            (same 0 at (inl (omega arith)) (λ j u v. (λ e. omega arith, λ e. omega arith, λ e. omega arith)))
            (same 1024 other (inl (omega arith)) (λ j u v. (λ e. omega arith, λ e. omega arith, λ e. omega arith)))
            (same 1536 last (inl (omega arith)) (λ j u v. (λ e. omega arith, λ e. omega arith, λ e. omega arith))) in
            ap (in_scope s w') (add-one l) ∙ (λ j. local_of (bound_name (z j) (part s (e j) (x j))) (y j) ∷ tail j)
            ∙ ap (λ (o : Option Name). local_of o row ∷ in_scope s w l) (name_kept s k a n m i);
      }

  pub work_pushed : (t op a b : ℕ) → t < works_room → WorkPushed w (set (set (set w (5120 + t * 3) op) (5120 + t * 3 + 1) a) (5120 + t * 3 + 2) b) (t + 1) (work_of op a b ∷ works_in w t)
  unfolding works_in
  work_pushed t op a b q =
      let at = 5120 + t * 3 in
      let f : at + 2 ≤ at + 2 = omega arith in
      let h : at + 2 < length w = omega arith in
      let w' = three_words at (at + 2) op a b f h in
      let same = three at (at + 2) op a b f h in
      let e = first at (at + 2) op a b f h in
      let x = second at (at + 2) op a b f h in
      let y = third at (at + 2) op a b f h in
      let tail = same_works w w' t (same 5120 at (λ j u v. (λ e. omega arith, λ e. omega arith, λ e. omega arith))) in
      record {
        works = ap (works_in w') (add-one t) ∙ (λ k. work_of (e k) (x k) (y k) ∷ tail k);
        values = λ m p. same_values w w' m (same 2048 (2048 + m) (λ j u v. (λ e. omega arith, λ e. omega arith, λ e. omega arith)));
        locals = λ s l p. same_locals w w' s l
            (same 0 (l * 2) (λ j u v. (λ e. omega arith, λ e. omega arith, λ e. omega arith)))
            (same 1024 (1024 + l) (λ j u v. (λ e. omega arith, λ e. omega arith, λ e. omega arith)))
            (same 1536 (1536 + l) (λ j u v. (λ e. omega arith, λ e. omega arith, λ e. omega arith)));
      }

pub pushed_as : {w w' : List ℕ} {t : ℕ} {x y : Work} {l : List Work} → x ≡ y → WorkPushed w w' t (x ∷ l) → WorkPushed w w' t (y ∷ l)
pushed_as {l = l} e p = record { works = p.works ∙ ap (λ (z : Work). z ∷ l) e; values = p.values; locals = p.locals }
