-- What a table holds in front of words that were stored, at them and behind them.
use Prim.Native.Nat.{ℕ, ◌+◌, ◌≤◌, ◌<◌}
use mathlib.Core.Path.{◌≡◌, ap, sym, ◌∙◌}
use mathlib.Core.List.{List, ◌++◌, append_assoc}
use native.Mathlib.Omega.{arith}
use lib.ListN.{length, get_or, take, drop, length-append, length-drop, get_or-append}
use lib.Seq.{length-take-le, take_at, drop_at, get_or-take, get_or-append-add}
use Rattle.tables.specs.Tables.{with_words}

module _ (t : List ℕ) (at : ℕ) (ws : List ℕ) (h : at + length ws ≤ length t) where
  front : length (take at t) ≡ at
  front = length-take-le at t (omega arith)

  front_and_words : length (take at t ++ ws) ≡ at + length ws
  front_and_words = omega (arith, front, length-append (take at t) ws)

  pub take_stored : take (at + length ws) (with_words t at ws) ≡ take at t ++ ws
  take_stored = take_at (take at t ++ ws) (drop (at + length ws) t) (at + length ws) front_and_words

  pub drop_stored : drop (at + length ws) (with_words t at ws) ≡ drop (at + length ws) t
  drop_stored = drop_at (take at t ++ ws) (drop (at + length ws) t) (at + length ws) front_and_words

  pub length_stored : length (with_words t at ws) ≡ length t
  length_stored =
      omega (arith, length-append (take at t ++ ws) (drop (at + length ws) t), front_and_words, length-drop (at + length ws) t)

  pub front_stored : take at (with_words t at ws) ≡ take at t
  front_stored =
      ap (take at) (append_assoc (take at t) ws (drop (at + length ws) t)) ∙ take_at (take at t) (ws ++ drop (at + length ws) t) at front

  pub word_in_front : (i : ℕ) → i < at → get_or (with_words t at ws) i 0 ≡ get_or t i 0
  word_in_front i k =
      sym (get_or-take at (with_words t at ws) i 0 k) ∙ ap (λ (l : List ℕ). get_or l i 0) front_stored ∙ get_or-take at t i 0 k

  pub word_stored : (i : ℕ) → i < length ws → get_or (with_words t at ws) (at + i) 0 ≡ get_or ws i 0
  word_stored i k =
      get_or-append (take at t ++ ws) (drop (at + length ws) t) 0 (at + i) (omega (arith, front_and_words))
      ∙ ap (λ (n : ℕ). get_or (take at t ++ ws) (n + i) 0) (sym front)
      ∙ get_or-append-add (take at t) ws i 0
