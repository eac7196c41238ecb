-- Declarations that are read are what the grammar says.
use mathlib.Core.Path.{◌≡◌, refl, ap, ◌∙◌, subst}
use mathlib.Core.List.{List, [], ◌∷◌}
use mathlib.Core.Option.{Option, some}
use mathlib.Core.Bool.{Bool, true, false}
use Prim.Native.Nat.{ℕ, zero, suc, ◌-◌, ◌≤◌}
use native.Mathlib.Omega.{arith}
use lib.ListN.{length}
use Rattle.token.specs.declared.TokenKind.{TokenKind}
use Rattle.token.specs.declared.Token.{Token}
use Rattle.words.specs.Words.{ascii, same_bytes}
use Rattle.words.proofs.Names.{same_eq}
use Rattle.terms.specs.Forms.{Edition}
use Rattle.terms.specs.Tree.{nil, Tree, tree, next}
use Rattle.terms.specs.Label.{Label, Declaration, trees}
use Rattle.terms.proofs.Widths.{total}
use Rattle.surface.specs.Text.{text, is_end}
use Rattle.surface.specs.Grammar.{Tokens, the_end, Opens, Closes, Name, Terms, no_term, Declarations, no_declaration, postulate, transparent, opaque}
use Rattle.surface.specs.Reader.{Position, done, Reader}
use Rattle.surface.specs.Reading.{term, token, closing, atom, declaration_kind, name, beginning, body, declared, declaration, ending, onwards, declarations}
use Rattle.surface.proofs.Frames.{frames_of, deepest}
use Rattle.surface.proofs.Steps.{no_done, after_elim, done_inj, done_as, open_goes, close_goes, atom_goes, Took, before, same_rows, token_done, closing_done, atom_done, name_done}
use Rattle.surface.proofs.Sound.{Back, TermRead, term_done}

-- The words of declarations.
pub data Declares (w : List ℕ) : ℕ → Type 0 where
  says_postulate : w ≡ ascii "postulate" → Declares w 0
  says_transparent : w ≡ ascii "transparent" → Declares w 1
  says_opaque : w ≡ ascii "opaque" → Declares w 2

pub declaration_kind_is : (w : List ℕ) (k : ℕ) → declaration_kind w ≡ suc k → Declares w k
unfolding declaration_kind
declaration_kind_is w k e = go (same_bytes w (ascii "postulate")) (same_bytes w (ascii "transparent")) (same_bytes w (ascii "opaque")) refl refl refl e
  where
    go : (x y z : Bool) → same_bytes w (ascii "postulate") ≡ x → same_bytes w (ascii "transparent") ≡ y → same_bytes w (ascii "opaque") ≡ z
        → elim x as (λ _. ℕ) [ true ↦ 1 | false ↦ elim y as (λ _. ℕ) [ true ↦ 2 | false ↦ elim z as (λ _. ℕ) [ true ↦ 3 | false ↦ 0 ] ] ] ≡ suc k → Declares w k
    go true y z p q r f = subst (λ (j : ℕ). Declares w j) (omega arith) (says_postulate (same_eq _ _ p))
    go false true z p q r f = subst (λ (j : ℕ). Declares w j) (omega arith) (says_transparent (same_eq _ _ q))
    go false false true p q r f = subst (λ (j : ℕ). Declares w j) (omega arith) (says_opaque (same_eq _ _ r))
    go false false false p q r f = absurd (omega arith)

pub record BackDeclarations (E : Edition) (s : List ℕ) (p : Position) (ds : List Declaration) : Type 0 where
  pub tokens : List Token
  pub lexed : Tokens (E.tokens s) p.offset tokens
  pub derived : Declarations E s tokens ds

module _ (E : Edition) (s : List ℕ) (limit frames : ℕ) where
  abbrev whole_term : Reader (Tree Label)
  whole_term = term (beginning E s) (closing (E.tokens s)) limit frames

  whole_done : (p q : Position) (t : Tree Label) → whole_term p ≡ done t q → TermRead E s limit frames p t q
  whole_done p q t e = term_done E s limit frames p q t e

  -- no further term
  stops : (p : Position) (ts : List Token) → Tokens (E.tokens s) p.offset ts → Back E s p 0 nil ts
  stops p ts k = record { tokens = ts; lexed = k; derived = no_term }

  -- A declaration with the parenthesis in front.
  pub record DeclarationRead (p : Position) (d : Declaration) (q : Position) : Type 0 where
    pub derived : (ds : List Declaration) → BackDeclarations E s q ds → BackDeclarations E s p (d ∷ ds)
    pub rows : q.rows ≡ next p.rows (trees d)
    pub room : q.rows ≤ limit
    pub depth : frames_of (trees d) ≤ frames

  abbrev made : ℕ → Token → Tree Label → Option (Tree Label) → Declaration
  made k x a b = record { kind = k; start = x.start; length = x.end - x.start; type = a; body = b }

  -- A declaration with a body, by its production.
  defined_done : (p q₁ q₂ q : Position) (o t : Token) (d : Declaration) (j : ℕ) → Took (E.tokens s) p o q₁ → Opens o → Took (E.tokens s) q₁ t q₂ → t.kind ≡ TokenKind.Atom
      → ((x c : Token) (ts us : List Token) (a b : Tree Label) (ds : List Declaration) → Name E s x → Terms E s 2 ts (tree a (tree b nil)) (c ∷ us) → Closes c → Declarations E s us ds
      → Declarations E s (o ∷ t ∷ x ∷ ts) (made (suc (suc j)) x a (some b) ∷ ds))
      → declared E s whole_term (name E s) is_end t (suc (suc j)) q₂ ≡ done d q → DeclarationRead p d q
  unfolding declared body
  defined_done p q₁ q₂ q o t d j w₁ a₁ w₂ a₂ by e =
      after_elim (name E s q₂) _ d q e (λ x q₃ f₃ e₃.
      after_elim (whole_term q₃) _ d q e₃ (λ a q₄ f₄ e₄.
      after_elim (body E s whole_term (suc j) q₄) _ d q e₄ (λ b₀ q₅ f₅ e₅.
      after_elim (closing (E.tokens s) q₅) _ d q e₅ (λ c q₆ f₆ e₆.
      after_elim (whole_term q₄) _ b₀ q₅ f₅ (λ b q₇ f₇ e₇.
      let w₃ = name_done E s q₂ q₃ x f₃ in
      let w₄ = whole_done q₃ q₄ a f₄ in
      let i₅ = done_inj e₇ in
      let w₅ = subst (λ (y : Position). TermRead E s limit frames q₄ b y) i₅.1 (whole_done q₄ q₇ b f₇) in
      let w₆ = closing_done (E.tokens s) q₅ q₆ c f₆ in
      done_as (DeclarationRead p) e₆ (subst (λ (y : Option (Tree Label)). DeclarationRead p (made (suc (suc j)) x a y) q₆) i₅.0 (record {
        derived = λ ds k.
            let m₁ = w₅.derived 0 nil (c ∷ k.tokens) (stops q₅ (c ∷ k.tokens) (before (E.tokens s) q₅ q₆ c _ w₆.0 (close_goes _ w₆.1) k.lexed)) in
            let m = w₄.derived 1 (tree b nil) (c ∷ k.tokens) m₁ in
            record {
              tokens = o ∷ t ∷ x ∷ m.tokens;
              lexed = before (E.tokens s) p q₁ o _ w₁ (open_goes _ a₁) (before (E.tokens s) q₁ q₂ t _ w₂ (atom_goes _ a₂) (before (E.tokens s) q₂ q₃ x _ w₃.0 (atom_goes _ w₃.1.atom) m.lexed));
              derived = by x c m.tokens k.tokens a b ds w₃.1 m.derived w₆.1 k.derived;
            };
        rows = same_rows (E.tokens s) q₅ q₆ c w₆.0 ∙ w₅.rows ∙ ap (λ (n : ℕ). suc (next n b.args)) (w₄.rows ∙ ap (λ (n : ℕ). suc (next n a.args)) (same_rows (E.tokens s) q₂ q₃ x w₃.0 ∙ same_rows (E.tokens s) q₁ q₂ t w₂ ∙ same_rows (E.tokens s) p q₁ o w₁));
        room = omega (arith, same_rows (E.tokens s) q₅ q₆ c w₆.0, w₅.room);
        depth = omega (arith, w₄.frames, w₅.frames);
      })))))))

  declared_done : (p q₁ q₂ q : Position) (o t : Token) (d : Declaration) (k : ℕ) → Took (E.tokens s) p o q₁ → Opens o → Took (E.tokens s) q₁ t q₂ → t.kind ≡ TokenKind.Atom
      → Declares (text s t) k → declared E s whole_term (name E s) is_end t (suc k) q₂ ≡ done d q → DeclarationRead p d q
  unfolding declared body
  declared_done p q₁ q₂ q o t d k w₁ a₁ w₂ a₂ (says_postulate v) e =
      after_elim (name E s q₂) _ d q e (λ x q₃ f₃ e₃.
      after_elim (whole_term q₃) _ d q e₃ (λ a q₄ f₄ e₄.
      after_elim (closing (E.tokens s) q₄) _ d q e₄ (λ c q₆ f₆ e₆.
      let w₃ = name_done E s q₂ q₃ x f₃ in
      let w₄ = whole_done q₃ q₄ a f₄ in
      let w₆ = closing_done (E.tokens s) q₄ q₆ c f₆ in
      done_as (DeclarationRead p) e₆ (record {
        derived = λ ds b.
            let m = w₄.derived 0 nil (c ∷ b.tokens) (stops q₄ (c ∷ b.tokens) (before (E.tokens s) q₄ q₆ c _ w₆.0 (close_goes _ w₆.1) b.lexed)) in
            record {
              tokens = o ∷ t ∷ x ∷ m.tokens;
              lexed = before (E.tokens s) p q₁ o _ w₁ (open_goes _ a₁) (before (E.tokens s) q₁ q₂ t _ w₂ (atom_goes _ a₂) (before (E.tokens s) q₂ q₃ x _ w₃.0 (atom_goes _ w₃.1.atom) m.lexed));
              derived = postulate a₁ (record { atom = a₂; is = v }) w₃.1 m.derived w₆.1 b.derived;
            };
        rows = same_rows (E.tokens s) q₄ q₆ c w₆.0 ∙ w₄.rows ∙ ap (λ (n : ℕ). suc (next n a.args)) (same_rows (E.tokens s) q₂ q₃ x w₃.0 ∙ same_rows (E.tokens s) q₁ q₂ t w₂ ∙ same_rows (E.tokens s) p q₁ o w₁);
        room = omega (arith, same_rows (E.tokens s) q₄ q₆ c w₆.0, w₄.room);
        depth = w₄.frames;
      }))))
  declared_done p q₁ q₂ q o t d k w₁ a₁ w₂ a₂ (says_transparent v) e =
      defined_done p q₁ q₂ q o t d 0 w₁ a₁ w₂ a₂ (λ x c ts us a b ds n m y l. transparent a₁ (record { atom = a₂; is = v }) n m y l) e
  declared_done p q₁ q₂ q o t d k w₁ a₁ w₂ a₂ (says_opaque v) e =
      defined_done p q₁ q₂ q o t d 1 w₁ a₁ w₂ a₂ (λ x c ts us a b ds n m y l. opaque a₁ (record { atom = a₂; is = v }) n m y l) e

  pub declaration_done : (p q₁ q : Position) (o : Token) (d : Declaration) → Took (E.tokens s) p o q₁ → Opens o → declaration E s whole_term (name E s) is_end q₁ ≡ done d q → DeclarationRead p d q
  unfolding declaration declared
  declaration_done p q₁ q o d w a e =
      after_elim (atom (E.tokens s) q₁) _ d q e (λ t q₂ f₂ e₂.
      let w₂ = atom_done (E.tokens s) q₁ q₂ t f₂ in
      go t q₂ (declaration_kind (text s t)) w₂.0 w₂.1 refl e₂)
    where
      go : (t : Token) (q₂ : Position) (k : ℕ) → Took (E.tokens s) q₁ t q₂ → t.kind ≡ TokenKind.Atom → declaration_kind (text s t) ≡ k → declared E s whole_term (name E s) is_end t k q₂ ≡ done d q → DeclarationRead p d q
      go t q₂ zero w₂ a₂ f e₂ = no_done e₂
      go t q₂ (suc k) w₂ a₂ f e₂ = declared_done p q₁ q₂ q o t d k w a w₂ a₂ (declaration_kind_is (text s t) k f) e₂

  pub record DeclarationsRead (p : Position) (n : ℕ) (ds : List Declaration) (q : Position) : Type 0 where
    pub derived : BackDeclarations E s p ds
    pub rows : q.rows ≡ total p.rows ds
    pub room : p.rows ≤ limit → q.rows ≤ limit
    pub count : length ds ≤ n
    pub depth : deepest ds ≤ frames

  onwards_done : (p q₁ q : Position) (t : Token) (k : TokenKind) (n : ℕ) (ds : List Declaration) (more : Reader (List Declaration)) → Took (E.tokens s) p t q₁ → t.kind ≡ k
      → (Opens t → more q₁ ≡ done ds q → DeclarationsRead p n ds q) → onwards E s whole_term (name E s) is_end more t k q₁ ≡ done ds q → DeclarationsRead p n ds q
  unfolding onwards ending
  onwards_done p q₁ q t TokenKind.LParen n ds more w a ok e = ok a e
  onwards_done p q₁ q t TokenKind.RParen n ds more w a ok e = no_done e
  onwards_done p q₁ q t TokenKind.Atom n ds more w a ok e = no_done e
  onwards_done p q₁ q t TokenKind.String n ds more w a ok e = no_done e
  onwards_done p q₁ q t TokenKind.Eof n ds more w a ok e =
      done_as (DeclarationsRead p n) e (record {
        derived = record { tokens = []; lexed = the_end w.takes a; derived = no_declaration };
        rows = same_rows (E.tokens s) p q₁ t w;
        room = λ h. omega (arith, same_rows (E.tokens s) p q₁ t w);
        count = omega arith;
        depth = omega arith;
      })

  pub declarations_done : (n : ℕ) (p q : Position) (ds : List Declaration) → declarations E s whole_term (name E s) is_end n p ≡ done ds q → DeclarationsRead p n ds q
  unfolding declarations
  declarations_done zero p q ds e =
      after_elim (token (E.tokens s) p) _ ds q e (λ t q₁ f₁ e₁.
      onwards_done p q₁ q t t.kind 0 ds _ (token_done (E.tokens s) p q₁ t f₁) refl (λ a k. no_done k) e₁)
  declarations_done (suc n) p q ds e =
      after_elim (token (E.tokens s) p) _ ds q e (λ t q₁ f₁ e₁.
      let w = token_done (E.tokens s) p q₁ t f₁ in
      onwards_done p q₁ q t t.kind (suc n) ds _ w refl (λ a k.
      after_elim (declaration E s whole_term (name E s) is_end q₁) _ ds q k (λ d q₂ f₂ e₂.
      after_elim (declarations E s whole_term (name E s) is_end n q₂) _ ds q e₂ (λ l q₃ f₃ e₃.
      let x = declaration_done p q₁ q₂ t d w a f₂ in
      let y = declarations_done n q₂ q₃ l f₃ in
      done_as (DeclarationsRead p (suc n)) e₃ (record {
        derived = x.derived l y.derived;
        rows = y.rows ∙ ap (λ (m : ℕ). total m l) x.rows;
        room = λ h. y.room x.room;
        count = omega (arith, y.count);
        depth = omega (arith, x.depth, y.depth);
      })))) e₁)
