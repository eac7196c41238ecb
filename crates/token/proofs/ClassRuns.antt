-- What a run of class numbers makes of an atom and of a name.
use Prim.Native.Nat.{ℕ, zero, suc, ◌+◌, ◌-◌, ◌≤◌, ◌<◌}
use mathlib.Core.Path.{◌≡◌, refl, sym, ◌∙◌, ap}
use mathlib.Core.Bool.{true, false}
use mathlib.Core.List.{List}
use native.Mathlib.Omega.{arith}
use native.Mathlib.Decide.{dec_le}
use lib.ListN.{length, get_or, drop}
use borrow.Author.Tests.{lt-ltb, le-ltb, ltb-true, ltb-false}
use Rattle.token.specs.Token.{byte_class, atom_from, token, malformed}
use Rattle.token.specs.Classes.{class_number, Run, atom_stops, NameAt}
use Rattle.token.specs.declared.ByteClass.TheVariants.{Atom}
use Rattle.token.specs.declared.TokenKind.{TokenKind}
use Rattle.token.proofs.ClassNumbers.{atom_class, refused_class, layout_number, comment_number, refused_number, atom_number}
use Rattle.token.proofs.Runs.{layout_stop, atom_word, atom_other, atom_stop, atom_end, here_word, next_at}

-- A run with one byte more.
pub one_more : (s : List ℕ) (at low r : ℕ) → ((i : ℕ) → at ≤ i → i < r → low ≤ class_number (get_or s i 0)) → low ≤ class_number (get_or s r 0)
    → (i : ℕ) → at ≤ i → i < r + 1 → low ≤ class_number (get_or s i 0)
one_more s at low r p q i l u = elim (dec_le r i) [ yes o ↦ last (let e : i ≡ r = omega arith in e) | no o ↦ p i l (omega arith) ]
  where
    last : i ≡ r → low ≤ class_number (get_or s i 0)
    last e = rw e q

module _ (s : List ℕ) (start : ℕ) where
  -- An atom goes on over bytes of atoms.
  atom_over : (n at : ℕ) → at + n ≤ length s → ((i : ℕ) → at ≤ i → i < at + n → byte_class (get_or s i 0) ≡ Atom)
      → atom_from start at (drop at s) ≡ atom_from start (at + n) (drop (at + n) s)
  atom_over zero at h p = ap (λ k. atom_from start k (drop k s)) (let q : at ≡ at + 0 = omega arith in q)
  atom_over (suc n) at h p =
      atom_word s at (omega arith) start (p at (omega arith) (omega arith))
      ∙ atom_over n (at + 1) (omega arith) (λ i l u. p i (omega arith) (omega arith))
      ∙ ap (λ k. atom_from start k (drop k s)) (let q : at + 1 + n ≡ at + suc n = omega arith in q)

  module _ (low r : ℕ) (atoms : 5 ≤ low) (h : start < length s) (run : Run s (start + 1) low r) where
    pub run_atom : atom_from start (start + 1) (drop (start + 1) s) ≡ atom_from start r (drop r s)
    run_atom =
        let k = r - (start + 1) in
        let e : start + 1 + k ≡ r = omega (arith, run.from) in
        atom_over k (start + 1) (omega (arith, run.within (omega arith))) (λ i l u. atom_class _ (omega (arith, run.bytes i l (omega arith))))
        ∙ ap (λ x. atom_from start x (drop x s)) e

    -- The byte behind it ends it, or the end does.
    pub run_stops : atom_stops s r ≡ true → atom_from start (start + 1) (drop (start + 1) s) ≡ token TokenKind.Atom start r
    unfolding atom_stops
    run_stops e = run_atom ∙ elim (dec_le (length s) r) [ yes o ↦ atom_end s start r o | no o ↦ inside (omega arith) ]
      where
        inside : r < length s → atom_from start r (drop r s) ≡ token TokenKind.Atom start r
        inside q =
            let c : class_number (get_or s r 0) < 4 = ltb-true _ _ (rw (lt-ltb r (length s) q) at e) in
            atom_stop s r q start _ refl (λ x. omega (arith, atom_number _ x)) (λ x. omega (arith, refused_number _ x))

  -- Behind the bytes of atoms, what does not end one is refused.
  pub run_refused : (r : ℕ) → start < length s → Run s (start + 1) 5 r → atom_stops s r ≡ false → atom_from start (start + 1) (drop (start + 1) s) ≡ malformed r
  unfolding atom_stops
  run_refused r h run e = run_atom 5 r (omega arith) h run ∙ elim (dec_le (length s) r) [ yes o ↦ absurd (over o) | no o ↦ inside (omega arith) ]
    where
      over : length s ≤ r → ⊥
      over o = let z : true ≡ false = rw (le-ltb r (length s) o) at e in let y : ◌≡◌ {A = ℕ} 0 1 = cc in omega arith

      inside : r < length s → atom_from start r (drop r s) ≡ malformed r
      inside q =
          let c : 4 ≤ class_number (get_or s r 0) = ltb-false _ _ (rw (lt-ltb r (length s) q) at e) in
          let n : class_number (get_or s r 0) ≡ 4 = omega (arith, run.ended q) in
          atom_other s r q start (refused_class _ n)

  -- A name: its first byte begins one, and the run behind it ends.
  pub name_here : (r : ℕ) → start < length s → class_number (get_or s start 0) ≡ 7 → Run s (start + 1) 6 r → atom_stops s r ≡ true → NameAt s start r
  name_here r h b run e =
      let a = atom_class (get_or s start 0) (omega arith) in
      let p = sym (layout_stop s start h _ refl (λ q. omega (arith, layout_number _ q)) (λ q. omega (arith, comment_number _ q))) in
      record {
        here = next_at s start start p ∙ here_word s start h a ∙ run_stops 6 r (omega arith) h run e;
        within = run.within (omega arith);
        begins = b;
        bytes = λ i l u. elim (dec_le (start + 1) i) [ yes o ↦ run.bytes i o u | no o ↦ first i l (omega arith) ];
      }
    where
      first : (i : ℕ) → start ≤ i → i < start + 1 → 6 ≤ class_number (get_or s i 0)
      first i l u = let q : i ≡ start = omega arith in rw q (let z : 6 ≤ class_number (get_or s start 0) = omega (arith, b) in z)
