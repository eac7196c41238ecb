-- Two atoms of a core text that follow each other stand apart: a byte at least lies between them, since an atom is taken as long as possible.
use Rattle.std.specs.Prelude.{Ok, Err}
use mathlib.Core.Path.{◌≡◌, refl, sym, ap, ◌∙◌, subst}
use mathlib.Core.List.{List, [], ◌∷◌}
use Prim.Native.Nat.{ℕ, suc, ◌+◌, ◌<◌}
use native.Mathlib.Omega.{arith}
use lib.ListN.{length, drop}
use lib.Seq.{drop-drop}
use Rattle.token.specs.Token.{malformed, token, Lexed}
use Rattle.token.specs.declared.TokenKind.{TokenKind}
use Rattle.token.specs.declared.Token.{Token}
use Rattle.token.proofs.Bounds.{Within, SpanOf}
use Rattle.core_token.specs.CoreToken.{core_class, core_atom_from, nothing, string_from, core_token_from, next_core_token}
use Rattle.core_token.specs.declared.CoreClass.{CoreClass}
use Rattle.core_token.specs.declared.CoreClass.TheVariants.{Layout, LParen, RParen, Quote, Atom, Refused}
use Rattle.core_token.proofs.Outcomes.{here_by, every_string}
use Rattle.core_token.proofs.Bounds.{token_span}

-- No atom byte stands first.
abbrev NoAtom : List ℕ → Type 0
NoAtom [] = Unit {0}
NoAtom (b ∷ l) = core_class b ≡ Atom → ⊥

differ : ◌≡◌ {A = ℕ} 0 1 → ⊥
differ z = omega arith

-- An atom that is found at an offset, before the bytes of a list, ends k bytes later, where no atom byte stands.
abbrev Behind : ℕ → List ℕ → Lexed → Type 0
Behind at l (Ok t) = t.kind ≡ TokenKind.Atom → (k : ℕ) × (t.end ≡ at + k) × NoAtom (drop k l)
Behind at l (Err r) = Unit {0}

one_on : (at b : ℕ) (l : List ℕ) (x : Lexed) → Behind (at + 1) l x → Behind at (b ∷ l) x
one_on at b l (Ok t) h = λ a. let v = h a in let e = v.1 in (suc v.0, omega arith, v.2)
one_on at b l (Err r) h = tt

ends_by : (start at b : ℕ) (l : List ℕ) (k : CoreClass) → core_class b ≡ k → (x : Lexed) → Behind at (b ∷ l) x
    → Behind at (b ∷ l) (elim k as (λ _. Lexed) [
      | Layout ↦ token TokenKind.Atom start at
      | LParen ↦ token TokenKind.Atom start at
      | RParen ↦ token TokenKind.Atom start at
      | Quote ↦ token TokenKind.Atom start at
      | Atom ↦ x
      | Refused ↦ malformed at
    ])
ends_by start at b l Layout e x h = λ a. (0, omega arith, λ f. differ cc)
ends_by start at b l LParen e x h = λ a. (0, omega arith, λ f. differ cc)
ends_by start at b l RParen e x h = λ a. (0, omega arith, λ f. differ cc)
ends_by start at b l Quote e x h = λ a. (0, omega arith, λ f. differ cc)
ends_by start at b l Atom e x h = h
ends_by start at b l Refused e x h = tt

atom_behind : (l : List ℕ) (start at : ℕ) → Behind at l (core_atom_from start at l)
unfolding core_atom_from
atom_behind [] start at = λ a. (0, omega arith, tt)
atom_behind (b ∷ l) start at =
    ends_by start at b l (core_class b) refl (core_atom_from start (at + 1) l) (one_on at b l (core_atom_from start (at + 1) l) (atom_behind l start (at + 1)))

here_behind : (l : List ℕ) (at : ℕ) → Behind at l (core_token_from at l)
unfolding core_token_from
here_behind [] at = λ f. absurd (differ cc)
here_behind (b ∷ l) at =
    here_by (Behind at (b ∷ l)) (core_class b) at _ _ _ (one_on at b l (core_token_from (at + 1) l) (here_behind l (at + 1)))
    (λ e f. absurd (differ cc)) (λ f. absurd (differ cc)) (λ e. every_string (Behind at (b ∷ l)) (λ a c f. absurd (differ cc)) (λ p. tt) l at nothing (at + 1))
    (one_on at b l (core_atom_from at (at + 1) l) (atom_behind l at (at + 1))) tt

behind_atom : (s : List ℕ) (at : ℕ) (t : Token) → next_core_token s at ≡ Ok t → t.kind ≡ TokenKind.Atom → NoAtom (drop t.end s)
unfolding next_core_token
behind_atom s at t e a =
    let v = subst (Behind at (drop at s)) e (here_behind (drop at s) at) a in
    subst NoAtom (drop-drop v.0 at s ∙ ap (λ (n : ℕ). drop n s) (sym v.1)) v.2

-- An atom that is found at an offset where no atom byte stands starts later.
abbrev Later : ℕ → Lexed → Type 0
Later at (Ok u) = u.kind ≡ TokenKind.Atom → at < u.start
Later at (Err r) = Unit {0}

later_from : (at hi : ℕ) (x : Lexed) → Within (at + 1) hi x → Later at x
later_from at hi (Ok u) w = λ a. let v = subst (λ (k : TokenKind). SpanOf k (at + 1) u.start u.end hi) a w in omega (arith, v.low)
later_from at hi (Err r) w = tt

late_by : (at : ℕ) (k : CoreClass) → (k ≡ Atom → ⊥) → (n q x : Lexed) → Later at n → Later at q
    → Later at (elim k as (λ _. Lexed) [
      | Layout ↦ n
      | LParen ↦ token TokenKind.LParen at (at + 1)
      | RParen ↦ token TokenKind.RParen at (at + 1)
      | Quote ↦ q
      | Atom ↦ x
      | Refused ↦ malformed at
    ])
late_by at Layout h n q x hn hq = hn
late_by at LParen h n q x hn hq = λ f. absurd (differ cc)
late_by at RParen h n q x hn hq = λ f. absurd (differ cc)
late_by at Quote h n q x hn hq = hq
late_by at Atom h n q x hn hq = absurd (h refl)
late_by at Refused h n q x hn hq = tt

here_later : (at : ℕ) (l : List ℕ) → NoAtom l → Later at (core_token_from at l)
unfolding core_token_from
here_later at [] n = λ f. absurd (differ cc)
here_later at (b ∷ l) n =
    late_by at (core_class b) n (core_token_from (at + 1) l) (string_from at nothing (at + 1) l) (core_atom_from at (at + 1) l)
    (later_from at (at + 1 + length l) (core_token_from (at + 1) l) (token_span l (at + 1) (at + 1) (at + 1 + length l) (omega arith) (λ f. omega arith) (omega arith)))
    (every_string (Later at) (λ a c f. absurd (differ cc)) (λ p. tt) l at nothing (at + 1))

pub atoms_apart : (s : List ℕ) (at : ℕ) (t u : Token) → next_core_token s at ≡ Ok t → t.kind ≡ TokenKind.Atom
    → next_core_token s t.end ≡ Ok u → u.kind ≡ TokenKind.Atom → t.end < u.start
unfolding next_core_token
atoms_apart s at t u e a f b = subst (Later t.end) f (here_later t.end (drop t.end s) (behind_atom s at t e a)) b
