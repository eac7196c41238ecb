-- The digits of a number, written one after the other, the last one first.
use mathlib.Core.Path.{◌≡◌, refl, sym, ap, ◌∙◌, subst}
use mathlib.Core.List.{List, [], ◌∷◌, ◌++◌, append_assoc}
use Prim.Native.Nat.{ℕ, ◌+◌, ◌/◌, ◌%◌, ◌≤◌, ◌<◌}
use Rattle.printing.specs.Decimal.{decimal}
use Rattle.printing.proofs.Decimal.{decimal_one, decimal_more}
use Rattle.printer.specs.inner.Ends.{Written, Puts}

-- The digits of `rest` are still to be put in front of the text u.
pub record Rest (n : ℕ) (t out : List ℕ) (pos rest : ℕ) : Type 0 where
  pub text : List ℕ
  pub written : Written out text pos
  pub same : decimal rest ++ text ≡ decimal n ++ t

abbrev pub Digits : List ℕ → ℕ → ℕ → List ℕ → ℕ → ℕ → Type 0
Digits out₀ at n out pos rest = (t : List ℕ) → Written out₀ t at → Rest n t out pos rest

pub digits_start : (out : List ℕ) (at n : ℕ) → Digits out at n out at n
digits_start out at n t w = record { text = t; written = w; same = refl }

module _ (out₀ : List ℕ) (at n : ℕ) (out : List ℕ) (pos rest : ℕ) (out₁ : List ℕ) (r : ℕ) where
  pub digits_next : 10 ≤ rest → Digits out₀ at n out pos rest → Puts out pos ((48 + rest % 10) ∷ []) out₁ r → Digits out₀ at n out₁ r (rest / 10)
  digits_next h d p t w =
      let x = d t w in
      record {
        text = (48 + rest % 10) ∷ x.text;
        written = p.front x.text x.written;
        same =
            sym (append_assoc (decimal (rest / 10)) ((48 + rest % 10) ∷ []) x.text)
            ∙ ap (λ (l : List ℕ). l ++ x.text) (sym (decimal_more rest h))
            ∙ x.same;
      }

  pub digits_end : rest < 10 → Digits out₀ at n out pos rest → Puts out pos ((48 + rest) ∷ []) out₁ r → Puts out₀ at (decimal n) out₁ r
  digits_end h d p = record { front = go }
    where
      go : (t : List ℕ) → Written out₀ t at → Written out₁ (decimal n ++ t) r
      go t w =
          let x = d t w in
          let e : (48 + rest) ∷ x.text ≡ decimal n ++ t = ap (λ (l : List ℕ). l ++ x.text) (sym (decimal_one rest h)) ∙ x.same in
          subst (λ (l : List ℕ). Written out₁ l r) e (p.front x.text x.written)
