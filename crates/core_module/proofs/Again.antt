-- The token of a core text that is found at an offset is found at its own start.
use Rattle.std.specs.Prelude.{Ok}
use mathlib.Core.Path.{◌≡◌, sym, ap, ◌∙◌}
use mathlib.Core.List.{List, [], ◌∷◌}
use mathlib.Core.Bool.{◌||◌}
use Prim.Native.Nat.{ℕ, suc, ◌+◌}
use native.Mathlib.Omega.{arith}
use native.Mathlib.Nat.{add-zero}
use lib.Dec.{leb, eqb}
use lib.ListN.{drop}
use lib.Seq.{drop-drop}
use Rattle.token.specs.Token.{malformed, token, Lexed}
use Rattle.token.specs.declared.TokenKind.{TokenKind}
use Rattle.token.specs.declared.Token.{Token}
use Rattle.core_token.specs.CoreToken.{core_class, string_class, core_atom_from, Open, nothing, backslash, lead, string_from, core_token_from, next_core_token}
use Rattle.core_token.proofs.Outcomes.{atom_by, string_by, cond_by, test_by, here_by}

no_got : {P : Type 0} {at : ℕ} {t : Token} → malformed at ≡ Ok t → P
no_got e = absurd (let z : ◌≡◌ {A = ℕ} 0 1 = cc in omega arith)

got_start : (k : TokenKind) (a e : ℕ) (t : Token) → token k a e ≡ Ok t → t.start ≡ a
got_start k a e t f = let i : t ≡ record { kind = k; start = a; end = e } = cc in ap (λ (x : Token). x.start) i

atom_start : (l : List ℕ) (start at : ℕ) (t : Token) → core_atom_from start at l ≡ Ok t → t.start ≡ start
unfolding core_atom_from
atom_start [] start at t = got_start TokenKind.Atom start at t
atom_start (b ∷ l) start at t = atom_by (λ x. x ≡ Ok t → t.start ≡ start) (core_class b) start at _ (got_start TokenKind.Atom start at t) (λ e. no_got e) (atom_start l start (at + 1) t)

string_start : (l : List ℕ) (o : Open) (start at : ℕ) (t : Token) → string_from start o at l ≡ Ok t → t.start ≡ start
unfolding string_from
string_start [] nothing start at t = λ e. no_got e
string_start [] (backslash x) start at t = λ e. no_got e
string_start [] (lead x) start at t = λ e. no_got e
string_start (b ∷ l) nothing start at t =
    let P : Lexed → Type 0 = λ x. x ≡ Ok t → t.start ≡ start in
    string_by P (string_class b) at _ _ _ _ (λ _. cond_by P (eqb at (start + 1)) _ _ (λ e. no_got e) (λ _. got_start TokenKind.String start (at + 1) t))
    (string_start l (backslash at) start (at + 1) t) (λ e. no_got e) (string_start l (lead at) start (at + 1) t) (string_start l nothing start (at + 1) t)
string_start (b ∷ l) (backslash x) start at t = test_by (λ x. x ≡ Ok t → t.start ≡ start) (eqb b 34 || eqb b 92) _ _ (string_start l nothing start (at + 1) t) (λ e. no_got e)
string_start (b ∷ l) (lead x) start at t = test_by (λ x. x ≡ Ok t → t.start ≡ start) (leb b 0x9F) _ _ (λ e. no_got e) (string_start l nothing start (at + 1) t)

-- Layout stands before it.
record Again (at : ℕ) (l : List ℕ) (t : Token) : Type 0 where
  before : ℕ
  starts : t.start ≡ at + before
  found : core_token_from (at + before) (drop before l) ≡ Ok t

token_again : (l : List ℕ) (at : ℕ) (t : Token) → core_token_from at l ≡ Ok t → Again at l t
unfolding core_token_from
token_again [] at t e = record { before = 0; starts = got_start TokenKind.Eof at at t e ∙ sym (add-zero at); found = ap (λ (n : ℕ). core_token_from n []) (add-zero at) ∙ e }
token_again (b ∷ l) at t e =
    here_by (λ x. x ≡ Ok t → Again at (b ∷ l) t) (core_class b) at _ _ _ (λ f. further (token_again l (at + 1) t f))
    (λ _ f. now (got_start TokenKind.LParen at (at + 1) t f)) (λ f. now (got_start TokenKind.RParen at (at + 1) t f))
    (λ _ f. now (string_start l nothing at (at + 1) t f)) (λ f. now (atom_start l at (at + 1) t f)) (λ f. no_got f) e
  where
    now : t.start ≡ at → Again at (b ∷ l) t
    now h = record { before = 0; starts = h ∙ sym (add-zero at); found = ap (λ (n : ℕ). core_token_from n (b ∷ l)) (add-zero at) ∙ e }

    further : Again (at + 1) l t → Again at (b ∷ l) t
    further w =
        let n : at + 1 + w.before ≡ at + suc w.before = omega arith in
        record { before = suc w.before; starts = w.starts ∙ n; found = ap (λ (m : ℕ). core_token_from m (drop w.before l)) (sym n) ∙ w.found }

pub found_again : (s : List ℕ) (at : ℕ) (t : Token) → next_core_token s at ≡ Ok t → next_core_token s t.start ≡ Ok t
unfolding next_core_token
found_again s at t e =
    let w = token_again (drop at s) at t e in
    ap (λ (n : ℕ). core_token_from n (drop n s)) w.starts ∙ ap (core_token_from (at + w.before)) (sym (drop-drop w.before at s)) ∙ w.found
