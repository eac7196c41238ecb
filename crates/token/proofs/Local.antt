-- A token depends on the bytes before its end, and an atom on the byte behind it too.
use Rattle.std.specs.Prelude.{Ok, Err}
use mathlib.Core.Path.{◌≡◌, refl, ap, ◌∙◌, subst}
use mathlib.Core.List.{List, [], ◌∷◌}
use mathlib.Core.Bool.{Bool, true, false}
use Prim.Native.Nat.{ℕ, zero, suc, ◌+◌, ◌-◌, ◌≤◌, ◌<◌}
use native.Mathlib.Omega.{arith}
use lib.Dec.{eqb, ltb}
use lib.ListN.{length, take, drop}
use borrow.Author.Tests.{ltb-true, ltb-false}
use Rattle.token.specs.Token.{byte_class, layout_end, atom_from, token_here, next_token, Lexed}
use Rattle.token.specs.declared.ByteClass.{ByteClass}
use Rattle.token.specs.declared.ByteClass.TheVariants.{Layout, Comment, LParen, RParen, Atom, Refused}
use Rattle.token.specs.declared.TokenKind.{TokenKind}
use Rattle.token.specs.declared.Token.{Token}
use Rattle.token.proofs.Outcomes.{atom_both, atom_by, here_both, here_by}
use Rattle.token.proofs.Bounds.{layout_span}

-- Both lists have k bytes at least, and the first k are the same.
abbrev pub Agree : ℕ → List ℕ → List ℕ → Type 0
Agree zero l m = Unit {0}
Agree (suc k) [] m = ⊥
Agree (suc k) (b ∷ l) [] = ⊥
Agree (suc k) (b ∷ l) (c ∷ m) = (b ≡ c) × Agree k l m

-- The bytes from an offset on.
agree_from : (n at : ℕ) (l m : List ℕ) → Agree n l m → Agree (n - at) (drop at l) (drop at m)
agree_from n zero l m a = subst (λ (k : ℕ). Agree k l m) (let e : n ≡ n - 0 = omega arith in e) a
agree_from zero (suc at) l m a = subst (λ (k : ℕ). Agree k (drop (suc at) l) (drop (suc at) m)) (let e : 0 ≡ 0 - suc at = omega arith in e) tt
agree_from (suc n) (suc at) [] m a = absurd a
agree_from (suc n) (suc at) (b ∷ l) [] a = absurd a
agree_from (suc n) (suc at) (b ∷ l) (c ∷ m) a = subst (λ (k : ℕ). Agree k (drop at l) (drop at m)) (let e : n - at ≡ suc n - suc at = omega arith in e) (agree_from n at l m a.1)

agree_take : (k n : ℕ) (l m : List ℕ) → Agree k l m → n ≤ k → take n l ≡ take n m
agree_take k zero l m a h = refl
agree_take zero (suc n) l m a h = absurd (omega arith)
agree_take (suc k) (suc n) [] m a h = absurd a
agree_take (suc k) (suc n) (b ∷ l) [] a h = absurd a
agree_take (suc k) (suc n) (b ∷ l) (c ∷ m) a h = λ i. a.0 i ∷ agree_take k n l m a.1 (omega arith) i

pub agree_of : (k : ℕ) (l m : List ℕ) → k ≤ length l → k ≤ length m → take k l ≡ take k m → Agree k l m
agree_of zero l m h i e = tt
agree_of (suc k) [] m h i e = absurd (omega arith)
agree_of (suc k) (b ∷ l) [] h i e = absurd (omega arith)
agree_of (suc k) (b ∷ l) (c ∷ m) h i e = (cc, agree_of k l m (omega arith) (omega arith) cc)

pub part_same : (n at k : ℕ) (l m : List ℕ) → at + k ≤ n → Agree n l m → take k (drop at l) ≡ take k (drop at m)
part_same n at k l m h a = agree_take (n - at) k (drop at l) (drop at m) (agree_from n at l m a) (omega arith)

-- Layout that ends within the bytes that agree.
low : (c : Bool) (at : ℕ) (l : List ℕ) → at ≤ layout_end c at l
low c at l = (layout_span l c at at (at + length l) (omega arith) (omega arith)).0

class_local : (at n p q u v : ℕ) (y : ByteClass) → (p < n → u ≡ p) → (q < n → v ≡ q)
    → elim y as (λ _. ℕ) [ Layout ↦ p | Comment ↦ q | LParen ↦ at | RParen ↦ at | Atom ↦ at | Refused ↦ at ] < n
    → ◌≡◌ {A = ℕ} (elim y as (λ _. ℕ) [ Layout ↦ u | Comment ↦ v | LParen ↦ at | RParen ↦ at | Atom ↦ at | Refused ↦ at ])
    (elim y as (λ _. ℕ) [ Layout ↦ p | Comment ↦ q | LParen ↦ at | RParen ↦ at | Atom ↦ at | Refused ↦ at ])
class_local at n p q u v Layout f g h = f h
class_local at n p q u v Comment f g h = g h
class_local at n p q u v LParen f g h = refl
class_local at n p q u v RParen f g h = refl
class_local at n p q u v Atom f g h = refl
class_local at n p q u v Refused f g h = refl

comment_local : (n p q u v : ℕ) (t : Bool) → (p < n → u ≡ p) → (q < n → v ≡ q) → elim t as (λ _. ℕ) [ true ↦ p | false ↦ q ] < n
    → ◌≡◌ {A = ℕ} (elim t as (λ _. ℕ) [ true ↦ u | false ↦ v ]) (elim t as (λ _. ℕ) [ true ↦ p | false ↦ q ])
comment_local n p q u v true f g h = f h
comment_local n p q u v false f g h = g h

layout_one : (n : ℕ) (c : Bool) (at b : ℕ) (l m : List ℕ) → ((e : Bool) → layout_end e (at + 1) l < n → layout_end e (at + 1) m ≡ layout_end e (at + 1) l)
    → layout_end c at (b ∷ l) < n → layout_end c at (b ∷ m) ≡ layout_end c at (b ∷ l)
unfolding layout_end
layout_one n true at b l m ih h = comment_local n (layout_end false (at + 1) l) (layout_end true (at + 1) l) (layout_end false (at + 1) m) (layout_end true (at + 1) m) (eqb b 10) (ih false) (ih true) h
layout_one n false at b l m ih h = class_local at n (layout_end false (at + 1) l) (layout_end true (at + 1) l) (layout_end false (at + 1) m) (layout_end true (at + 1) m) (byte_class b) (ih false) (ih true) h

layout_local : (k : ℕ) (c : Bool) (at : ℕ) (l m : List ℕ) → Agree k l m → layout_end c at l < at + k → layout_end c at m ≡ layout_end c at l
layout_local zero c at l m a h = absurd (omega (arith, low c at l))
layout_local (suc k) c at [] m a h = absurd a
layout_local (suc k) c at (b ∷ l) [] a h = absurd a
layout_local (suc k) c at (b ∷ l) (d ∷ m) a h =
    subst (λ (x : ℕ). layout_end c at (x ∷ m) ≡ layout_end c at (b ∷ l)) a.0 (layout_one (at + suc k) c at b l m (λ e i. layout_local k e (at + 1) l m a.1 (omega arith)) h)

-- An atom that ends before the bytes that agree end, or a parenthesis that ends with them.
abbrev pub Reach : ℕ → TokenKind → ℕ → Type 0
Reach n TokenKind.LParen e = e ≤ n
Reach n TokenKind.RParen e = e ≤ n
Reach n TokenKind.Atom e = e < n
Reach n TokenKind.String e = e < n
Reach n TokenKind.Eof e = ⊥

-- Such a token is the other one too.
abbrev Before : ℕ → Lexed → Lexed → Type 0
Before n (Ok t) y = Reach n t.kind t.end → y ≡ Ok t
Before n (Err r) y = Unit {0}

-- No token ends so early.
abbrev Past : ℕ → Lexed → Type 0
Past n (Ok t) = Reach n t.kind t.end → ⊥
Past n (Err r) = Unit {0}

past_before : (n : ℕ) (x y : Lexed) → Past n x → Before n x y
past_before n (Ok t) y h = λ i. absurd (h i)
past_before n (Err r) y h = tt

atom_past : (n start at : ℕ) (l : List ℕ) → n ≤ at → Past n (atom_from start at l)
unfolding atom_from
atom_past n start at [] h = λ i. omega arith
atom_past n start at (b ∷ l) h = atom_by (Past n) (byte_class b) start at _ (λ i. omega arith) tt (atom_past n start (at + 1) l (omega arith))

here_past : (n at : ℕ) (l : List ℕ) → n ≤ at → Past n (token_here at l)
unfolding token_here
here_past n at [] h = λ i. i
here_past n at (b ∷ l) h = here_by (Past n) (byte_class b) at _ tt (λ e i. omega arith) (λ e i. omega arith) (atom_past n at (at + 1) l (omega arith))

before_same : (n m : ℕ) (x y : Lexed) → n ≡ m → Before n x y → Before m x y
before_same n m x y e h = subst (λ (k : ℕ). Before k x y) e h

atom_local : (k start at : ℕ) (l m : List ℕ) → Agree k l m → Before (at + k) (atom_from start at l) (atom_from start at m)
unfolding atom_from
atom_local zero start at l m a = past_before (at + 0) (atom_from start at l) (atom_from start at m) (atom_past (at + 0) start at l (omega arith))
atom_local (suc k) start at [] m a = absurd a
atom_local (suc k) start at (b ∷ l) [] a = absurd a
atom_local (suc k) start at (b ∷ l) (d ∷ m) a =
    subst (λ (x : ℕ). Before (at + suc k) (atom_from start at (b ∷ l)) (atom_from start at (x ∷ m))) a.0
    (atom_both (Before (at + suc k)) (byte_class b) start at (atom_from start (at + 1) l) (atom_from start (at + 1) m) (λ i. refl) tt
    (before_same (at + 1 + k) (at + suc k) (atom_from start (at + 1) l) (atom_from start (at + 1) m) (omega arith) (atom_local k start (at + 1) l m a.1)))

here_local : (k at : ℕ) (l m : List ℕ) → Agree k l m → Before (at + k) (token_here at l) (token_here at m)
unfolding token_here
here_local zero at l m a = past_before (at + 0) (token_here at l) (token_here at m) (here_past (at + 0) at l (omega arith))
here_local (suc k) at [] m a = absurd a
here_local (suc k) at (b ∷ l) [] a = absurd a
here_local (suc k) at (b ∷ l) (d ∷ m) a =
    subst (λ (x : ℕ). Before (at + suc k) (token_here at (b ∷ l)) (token_here at (x ∷ m))) a.0
    (here_both (Before (at + suc k)) (byte_class b) at (atom_from at (at + 1) l) (atom_from at (at + 1) m) tt (λ e i. refl) (λ e i. refl)
    (before_same (at + 1 + k) (at + suc k) (atom_from at (at + 1) l) (atom_from at (at + 1) m) (omega arith) (atom_local k at (at + 1) l m a.1)))

-- A token of a source is a token of any other with the same first n bytes, if it ends before these do, or is a parenthesis that ends with them.
pub token_local : (n : ℕ) (s r : List ℕ) → Agree n s r → (at : ℕ) (t : Token) → next_token s at ≡ Ok t → Reach n t.kind t.end → next_token r at ≡ Ok t
unfolding next_token
token_local n s r a at t e h = go (ltb p n) refl
  where
    p : ℕ
    p = layout_end false at (drop at s)

    go : (b : Bool) → ltb p n ≡ b → next_token r at ≡ Ok t
    go false f = absurd (subst (Past n) e (here_past n p (drop p s) (omega (arith, ltb-false p n f))) h)
    go true f =
        let l : p < n = ltb-true p n f in
        let i : at ≤ p = low false at (drop at s) in
        let m : p + (n - p) ≡ n = omega arith in
        let q : layout_end false at (drop at r) ≡ p = layout_local (n - at) false at (drop at s) (drop at r) (agree_from n at s r a) (omega arith) in
        ap (λ (k : ℕ). token_here k (drop k r)) q
        ∙ subst (λ (x : Lexed). Before n x (token_here p (drop p r))) e
        (before_same (p + (n - p)) n (token_here p (drop p s)) (token_here p (drop p r)) m
        (here_local (n - p) p (drop p s) (drop p r) (agree_from n p s r a))) h
