-- The mark is refused where a head would begin, as its first byte is.
use Rattle.token.specs.declared.Class.{Class}
use mathlib.Core.Path.{◌≡◌, refl, sym, ◌∙◌, subst}
use mathlib.Core.List.{List, [], ◌∷◌}
use mathlib.Core.Bool.{Bool, true, false, ◌&&◌, and-eq-true_iff}
use Prim.Native.Nat.{ℕ}
use native.Mathlib.Omega.{arith}
use lib.Dec.{eqb}
use borrow.Author.Tests.{eqb-true}
use Rattle.token.specs.Token.{byte_class, layout_end, token_here, next_token}
use Rattle.utf8.specs.Utf8.{byte_order_mark}
use Rattle.surface.specs.Reader.{Position, start, done, refused, at_offset}
use Rattle.surface.specs.Reading.{token, opening, surface_line, Head, head}
use Rattle.surface.proofs.Steps.{no_done}

first_byte : (l : List ℕ) → head (0xEF ∷ l) start ≡ refused (at_offset Class.Malformed 0)
unfolding head surface_line opening token next_token layout_end token_here byte_class
first_byte l = refl

pub marked_head : (s : List ℕ) → byte_order_mark s ≡ true → head s start ≡ refused (at_offset Class.Malformed 0)
unfolding byte_order_mark
marked_head [] e = absurd (let z : ◌≡◌ {A = ℕ} 0 1 = cc in omega arith)
marked_head (a ∷ []) e = absurd (let z : ◌≡◌ {A = ℕ} 0 1 = cc in omega arith)
marked_head (a ∷ b ∷ []) e = absurd (let z : ◌≡◌ {A = ℕ} 0 1 = cc in omega arith)
marked_head (a ∷ b ∷ c ∷ l) e =
    let i : a ≡ 0xEF = eqb-true a 0xEF ((and-eq-true_iff (eqb a 0xEF) (eqb b 0xBB && eqb c 0xBF)).0 e).0 in
    subst (λ (x : ℕ). head (x ∷ b ∷ c ∷ l) start ≡ refused (at_offset Class.Malformed 0)) (sym i) (first_byte (b ∷ c ∷ l))

pub head_unmarked : (s : List ℕ) (h : Head) (p : Position) → head s start ≡ done h p → byte_order_mark s ≡ false
head_unmarked s h p e = go (byte_order_mark s) refl
  where
    go : (b : Bool) → byte_order_mark s ≡ b → b ≡ false
    go true f = no_done (sym (marked_head s f) ∙ e)
    go false f = refl
