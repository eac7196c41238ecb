-- Two atoms that follow each other stand apart: a byte at least lies between them, since an atom is taken as long as possible.
use Rattle.std.specs.Prelude.{Ok, Err}
use mathlib.Core.Path.{◌≡◌, refl, sym, ap, ◌∙◌, subst}
use mathlib.Core.List.{List, [], ◌∷◌}
use mathlib.Core.Bool.{true, false}
use Prim.Native.Nat.{ℕ, suc, ◌+◌, ◌<◌}
use native.Mathlib.Omega.{arith}
use lib.ListN.{length, drop}
use lib.Seq.{drop-drop}
use Rattle.token.specs.Token.{byte_class, layout_end, atom_from, token_here, next_token, malformed, token, Lexed}
use Rattle.token.specs.declared.ByteClass.{ByteClass}
use Rattle.token.specs.declared.ByteClass.TheVariants.{Layout, Comment, LParen, RParen, Atom, Refused}
use Rattle.token.specs.declared.TokenKind.{TokenKind}
use Rattle.token.specs.declared.Token.{Token}
use Rattle.token.proofs.Outcomes.{here_by}
use Rattle.token.proofs.Bounds.{layout_span}

-- No atom byte stands first.
abbrev NoAtom : List ℕ → Type 0
NoAtom [] = Unit {0}
NoAtom (b ∷ l) = byte_class b ≡ Atom → ⊥

differ : ◌≡◌ {A = ℕ} 0 1 → ⊥
differ z = omega arith

-- An atom that goes on at an offset, before the bytes of a list, ends k bytes later, where no atom byte stands.
abbrev Ending : ℕ → ℕ → List ℕ → Lexed → Type 0
Ending start at l (Ok t) = (k : ℕ) × (t.start ≡ start) × (t.end ≡ at + k) × NoAtom (drop k l)
Ending start at l (Err r) = Unit {0}

one_on : (start at b : ℕ) (l : List ℕ) (x : Lexed) → Ending start (at + 1) l x → Ending start at (b ∷ l) x
one_on start at b l (Ok t) (k, f, e, n) = (suc k, f, omega arith, n)
one_on start at b l (Err r) h = tt

ends_by : (start at b : ℕ) (l : List ℕ) (k : ByteClass) → byte_class b ≡ k → (x : Lexed) → Ending start at (b ∷ l) x
    → Ending start at (b ∷ l) (elim k as (λ _. Lexed) [
      | Layout ↦ token TokenKind.Atom start at
      | Comment ↦ token TokenKind.Atom start at
      | LParen ↦ token TokenKind.Atom start at
      | RParen ↦ token TokenKind.Atom start at
      | Atom ↦ x
      | Refused ↦ malformed at
    ])
ends_by start at b l Layout e x h = (0, refl, omega arith, λ f. differ cc)
ends_by start at b l Comment e x h = (0, refl, omega arith, λ f. differ cc)
ends_by start at b l LParen e x h = (0, refl, omega arith, λ f. differ cc)
ends_by start at b l RParen e x h = (0, refl, omega arith, λ f. differ cc)
ends_by start at b l Atom e x h = h
ends_by start at b l Refused e x h = tt

atom_ending : (l : List ℕ) (start at : ℕ) → Ending start at l (atom_from start at l)
unfolding atom_from
atom_ending [] start at = (0, refl, omega arith, tt)
atom_ending (b ∷ l) start at =
    ends_by start at b l (byte_class b) refl (atom_from start (at + 1) l) (one_on start at b l (atom_from start (at + 1) l) (atom_ending l start (at + 1)))

-- A token begins where it was looked for; behind an atom no atom byte stands.
abbrev Stands : List ℕ → ℕ → Lexed → Type 0
Stands l at (Ok t) = (t.start ≡ at) × (t.kind ≡ TokenKind.Atom → (k : ℕ) × (t.end ≡ at + k) × NoAtom (drop k l))
Stands l at (Err r) = Unit {0}

stands_atom : (at b : ℕ) (l : List ℕ) (x : Lexed) → Ending at (at + 1) l x → Stands (b ∷ l) at x
stands_atom at b l (Ok t) (k, f, e, n) = (f, λ _. (suc k, omega arith, n))
stands_atom at b l (Err r) h = tt

here_stands : (l : List ℕ) (at : ℕ) → Stands l at (token_here at l)
unfolding token_here
here_stands [] at = (refl, λ f. absurd (differ cc))
here_stands (b ∷ l) at =
    here_by (Stands (b ∷ l) at) (byte_class b) at _ tt (λ e. (refl, λ f. absurd (differ cc))) (λ e. (refl, λ f. absurd (differ cc)))
    (stands_atom at b l (atom_from at (at + 1) l) (atom_ending l at (at + 1)))

behind_atom : (s : List ℕ) (at : ℕ) (t : Token) → next_token s at ≡ Ok t → t.kind ≡ TokenKind.Atom → NoAtom (drop t.end s)
unfolding next_token
behind_atom s at t e a =
    let p = layout_end false at (drop at s) in
    let w = subst (Stands (drop p s) p) e (here_stands (drop p s) p) in
    let v = w.1 a in
    subst NoAtom (drop-drop v.0 p s ∙ ap (λ (n : ℕ). drop n s) (sym v.1)) v.2

-- An atom that is found at an offset where no atom byte stands starts later.
abbrev Later : ℕ → Lexed → Type 0
Later at (Ok u) = u.kind ≡ TokenKind.Atom → at < u.start
Later at (Err r) = Unit {0}

later_from : (at p : ℕ) (l : List ℕ) (x : Lexed) → Stands l p x → at < p → Later at x
later_from at p l (Ok u) w h = λ a. omega (arith, w.0)
later_from at p l (Err r) w h = tt

late_by : (at : ℕ) (k : ByteClass) → (k ≡ Atom → ⊥) → (x : Lexed)
    → Later at (elim k as (λ _. Lexed) [
      | Layout ↦ malformed at
      | Comment ↦ malformed at
      | LParen ↦ token TokenKind.LParen at (at + 1)
      | RParen ↦ token TokenKind.RParen at (at + 1)
      | Atom ↦ x
      | Refused ↦ malformed at
    ])
late_by at Layout n x = tt
late_by at Comment n x = tt
late_by at LParen n x = λ f. absurd (differ cc)
late_by at RParen n x = λ f. absurd (differ cc)
late_by at Atom n x = absurd (n refl)
late_by at Refused n x = tt

here_later : (at : ℕ) (l : List ℕ) → NoAtom l → Later at (token_here at l)
unfolding token_here
here_later at [] n = λ f. absurd (differ cc)
here_later at (b ∷ l) n = late_by at (byte_class b) n (atom_from at (at + 1) l)

-- Layout ends at its first byte, or behind it.
end_by : (P : ℕ → Type 0) (at : ℕ) (k : ByteClass) (p q : ℕ) → at < p → at < q → ((n : ℕ) → at < n → P n) → P at
    → P (elim k as (λ _. ℕ) [ Layout ↦ p | Comment ↦ q | LParen ↦ at | RParen ↦ at | Atom ↦ at | Refused ↦ at ])
end_by P at Layout p q h k f g = f p h
end_by P at Comment p q h k f g = f q k
end_by P at LParen p q h k f g = g
end_by P at RParen p q h k f g = g
end_by P at Atom p q h k f g = g
end_by P at Refused p q h k f g = g

layout_or : (P : ℕ → Type 0) (at : ℕ) (l : List ℕ) → ((n : ℕ) → at < n → P n) → P at → P (layout_end false at l)
unfolding layout_end
layout_or P at [] f g = g
layout_or P at (b ∷ l) f g =
    let p = layout_span l false (at + 1) (at + 1) (at + 1 + length l) (omega arith) (omega arith) in
    let q = layout_span l true (at + 1) (at + 1) (at + 1 + length l) (omega arith) (omega arith) in
    end_by P at (byte_class b) (layout_end false (at + 1) l) (layout_end true (at + 1) l) (omega (arith, p.0)) (omega (arith, q.0)) f g

next_later : (s : List ℕ) (at : ℕ) → NoAtom (drop at s) → Later at (next_token s at)
unfolding next_token
next_later s at n =
    layout_or (λ p. Later at (token_here p (drop p s))) at (drop at s)
    (λ p h. later_from at p (drop p s) (token_here p (drop p s)) (here_stands (drop p s) p) h) (here_later at (drop at s) n)

pub atoms_apart : (s : List ℕ) (at : ℕ) (t u : Token) → next_token s at ≡ Ok t → t.kind ≡ TokenKind.Atom
    → next_token s t.end ≡ Ok u → u.kind ≡ TokenKind.Atom → t.end < u.start
atoms_apart s at t u e a f b = subst (Later t.end) f (next_later s t.end (behind_atom s at t e a)) b
