-- What the loop of `valid_up_to` knows of the bytes that it passed: they are whole sequences.
use Prim.Native.Nat.{ℕ, ◌+◌, ◌≤◌, ◌<◌}
use mathlib.Core.Path.{◌≡◌, refl, sym, ◌∙◌, ap}
use mathlib.Core.Bool.{Bool, true, false}
use mathlib.Core.List.{List, [], ◌∷◌}
use mathlib.Core.Option.{some}
use native.Mathlib.Omega.{arith}
use lib.Dec.{ltb}
use lib.ListN.{length, get_or, drop, drop_of_length-le, length-drop}
use lib.Seq.{drop-drop}
use borrow.Author.Tests.{ltb-true}
use Rattle.token.proofs.Runs.{drop_next}
use Rattle.utf8.specs.Utf8.{table_3_7, following, valid_from, valid_length}
use Rattle.utf8.specs.Sequences.{sequence, Pairs}
use Rattle.utf8.specs.Ascii.{ascii_end}
use Rattle.utf8.proofs.FirstBytes.{line, line_of}
use Rattle.utf8.proofs.ValidFrom.{all_whole}
use Rattle.utf8.proofs.Sequences.{whole_sequence, no_sequence}

abbrev pub Passed : List ℕ → ℕ → Type 0
Passed s i = valid_length s ≡ valid_from i i [] (drop i s)

pub passed_none : (s : List ℕ) → Passed s 0
unfolding valid_length
passed_none s = refl

module _ (s : List ℕ) (i : ℕ) (p : Passed s i) where
  pub passed_all : length s ≤ i → i ≡ valid_length s
  unfolding valid_from
  passed_all h = sym (p ∙ rw (drop_of_length-le s h))

  -- A sequence.
  pub passed_whole : (n : ℕ) → n ≡ sequence (drop i s) → (n ≡ 0 → ⊥) → Passed s (i + n)
  passed_whole n e h = p ∙ whole_sequence i n (drop i s) e h ∙ ap (valid_from (i + n) (i + n) []) (drop-drop n i s)

  pub passed_broken : ◌≡◌ {A = ℕ} 0 (sequence (drop i s)) → i ≡ valid_length s
  passed_broken e = sym (p ∙ no_sequence i (drop i s) e)

  -- Sequences of two bytes.
  pub passed_pairs : (r : ℕ) → Pairs s i r → Passed s r
  passed_pairs r q = p ∙ q.same

  pub stuck_pairs : (r : ℕ) → Pairs s i r → r ≡ i → i < length s → 0x80 ≤ get_or s i 0 → get_or s i 0 < 0xE0 → i ≡ valid_length s
  stuck_pairs r q e h l g = passed_broken (rw e at (q.stop (rw e h) (rw e l) (rw e g)))

-- An ASCII byte is a whole sequence.
ascii_line : (b : ℕ) → b < 0x80 → some [] ≡ line b
unfolding following table_3_7
ascii_line b h = line_of (λ _. some []) 0x00 0x7F refl b (omega arith) (omega arith)

pub passed_byte : (s : List ℕ) (i : ℕ) → Passed s i → i < length s → get_or s i 0 < 0x80 → Passed s (i + 1)
unfolding valid_from
passed_byte s i p h b = p ∙ rw (drop_next s i h, valid_from, ← ascii_line (get_or s i 0) b) (all_whole i (i + 1) (drop (i + 1) s))

-- So is each byte of a run of them.
run_passed : (s l : List ℕ) (i : ℕ) → drop i s ≡ l → Passed s i → Passed s (ascii_end i l)
unfolding ascii_end
run_passed s [] i e p = p
run_passed s (b ∷ l) i e p =
    let inside : i < length s = omega (arith, length-drop i s, ap length e) in
    let next = sym (drop_next s i inside) ∙ e in
    let first : get_or s i 0 ≡ b = cc in
    let rest : drop (i + 1) s ≡ l = cc in
    by (ltb b 0x80) refl (λ h. run_passed s l (i + 1) rest (passed_byte s i p inside (rw first h)))
  where
    by : (t : Bool) → ltb b 0x80 ≡ t → (b < 0x80 → Passed s (ascii_end (i + 1) l)) → Passed s (ascii_end i (b ∷ l))
    by true q later = rw (q, ascii_end) (later (ltb-true b 0x80 q))
    by false q later = rw (q, ascii_end) p

pub passed_run : (s : List ℕ) (i r : ℕ) → r ≡ ascii_end i (drop i s) → Passed s i → Passed s r
passed_run s i r e p = rw e (run_passed s (drop i s) i refl p)
