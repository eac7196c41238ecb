-- Declarations of a core text that are read are what the grammar says.
use Rattle.token.specs.Token.{Lexed}
use mathlib.Core.Path.{◌≡◌, refl, ap, ◌∙◌, subst}
use mathlib.Core.List.{List, ◌∷◌}
use mathlib.Core.Option.{Option, some}
use Prim.Native.Nat.{ℕ, zero, suc, ◌≤◌}
use native.Mathlib.Omega.{arith}
use lib.ListN.{length}
use Rattle.token.specs.declared.TokenKind.{TokenKind}
use Rattle.token.specs.declared.Token.{Token}
use Rattle.terms.specs.Tree.{nil, Tree, tree, next}
use Rattle.terms.specs.Label.{Label, Declaration, trees}
use Rattle.terms.proofs.Widths.{total}
use Rattle.surface.specs.Text.{text, is_close}
use Rattle.surface.specs.Grammar.{Tokens, Opens, Closes, Terms, no_term}
use Rattle.surface.specs.Statements.{frames_of, deepest}
use Rattle.surface.specs.Reader.{Position, done, Reader}
use Rattle.surface.specs.Reading.{term, token, closing, atom, declaration_kind, beginning, body, declared, declaration, ending, onwards, declarations}
use Rattle.surface.proofs.Steps.{no_done, after_elim, done_inj, done_as, open_goes, close_goes, atom_goes, Took, before, same_rows, token_done, closing_done, atom_done}
use Rattle.surface.proofs.Sound.{Back, TermRead, term_done}
use Rattle.surface.proofs.SoundDeclarations.{Declares, says_postulate, says_transparent, says_opaque, declaration_kind_is}
use Rattle.core_text.specs.TextReading.{text_edition, string}
use Rattle.core_text.specs.TextGrammar.{Quotes, declaration_of, TextDeclarations, no_declaration, postulate, transparent, opaque}
use Rattle.core_text.proofs.Strings.{string_goes, string_elim}

-- From p on the tokens are the declarations ds, a parenthesis that closes them, and us.
pub record BackDeclarations (t : List ℕ) (p : Position) (ds : List Declaration) (us : List Token) : Type 0 where
  pub tokens : List Token
  pub lexed : Tokens (text_edition.tokens t) p.offset tokens
  pub close : Token
  pub derived : TextDeclarations t tokens ds (close ∷ us)
  pub closes : Closes close

module _ (t : List ℕ) (limit frames : ℕ) where
  abbrev whole_term : Reader (Tree Label)
  whole_term = term (beginning text_edition t) (closing (text_edition.tokens t)) limit frames

  abbrev tokens : ℕ → Lexed
  tokens = text_edition.tokens t

  whole_done : (p q : Position) (a : Tree Label) → whole_term p ≡ done a q → TermRead text_edition t limit frames p a q
  whole_done p q a e = term_done text_edition t limit frames p q a e

  -- no further term
  stops : (p : Position) (ts : List Token) → Tokens tokens p.offset ts → Back text_edition t p 0 nil ts
  stops p ts k = record { tokens = ts; lexed = k; derived = no_term }

  -- A declaration with the parenthesis in front.
  pub record DeclarationRead (p : Position) (d : Declaration) (q : Position) : Type 0 where
    pub derived : (ds : List Declaration) (us : List Token) → BackDeclarations t q ds us → BackDeclarations t p (d ∷ ds) us
    pub rows : q.rows ≡ next p.rows (trees d)
    pub room : q.rows ≤ limit
    pub depth : frames_of (trees d) ≤ frames

  -- A declaration with a body, by its production.
  defined_done : (p q₁ q₂ q : Position) (o w : Token) (d : Declaration) (j : ℕ) → Took tokens p o q₁ → Opens o → Took tokens q₁ w q₂ → w.kind ≡ TokenKind.Atom
      → ((x c : Token) (ts us vs : List Token) (a b : Tree Label) (ds : List Declaration) → Quotes x → Terms text_edition t 2 ts (tree a (tree b nil)) (c ∷ us) → Closes c → TextDeclarations t us ds vs
      → TextDeclarations t (o ∷ w ∷ x ∷ ts) (declaration_of (suc (suc j)) x a (some b) ∷ ds) vs)
      → declared text_edition t whole_term (string tokens) is_close w (suc (suc j)) q₂ ≡ done d q → DeclarationRead p d q
  unfolding declared body
  defined_done p q₁ q₂ q o w d j w₁ a₁ w₂ a₂ by e =
      string_elim tokens q₂ _ d q e (λ x q₃ w₃ a₃ e₃.
      after_elim (whole_term q₃) _ d q e₃ (λ a q₄ f₄ e₄.
      after_elim (body text_edition t whole_term (suc j) q₄) _ d q e₄ (λ b₀ q₅ f₅ e₅.
      after_elim (closing tokens q₅) _ d q e₅ (λ c q₆ f₆ e₆.
      after_elim (whole_term q₄) _ b₀ q₅ f₅ (λ b q₇ f₇ e₇.
      let w₄ = whole_done q₃ q₄ a f₄ in
      let i₅ = done_inj e₇ in
      let w₅ = subst (λ (y : Position). TermRead text_edition t limit frames q₄ b y) i₅.1 (whole_done q₄ q₇ b f₇) in
      let w₆ = closing_done tokens q₅ q₆ c f₆ in
      done_as (DeclarationRead p) e₆ (subst (λ (y : Option (Tree Label)). DeclarationRead p (declaration_of (suc (suc j)) x a y) q₆) i₅.0 (record {
        derived = λ ds us k.
            let m₁ = w₅.derived 0 nil (c ∷ k.tokens) (stops q₅ (c ∷ k.tokens) (before tokens q₅ q₆ c _ w₆.0 (close_goes _ w₆.1) k.lexed)) in
            let m = w₄.derived 1 (tree b nil) (c ∷ k.tokens) m₁ in
            record {
              tokens = o ∷ w ∷ x ∷ m.tokens;
              lexed = before tokens p q₁ o _ w₁ (open_goes _ a₁) (before tokens q₁ q₂ w _ w₂ (atom_goes _ a₂) (before tokens q₂ q₃ x _ w₃ (string_goes _ a₃) m.lexed));
              close = k.close;
              derived = by x c m.tokens k.tokens (k.close ∷ us) a b ds a₃ m.derived w₆.1 k.derived;
              closes = k.closes;
            };
        rows = same_rows tokens q₅ q₆ c w₆.0 ∙ w₅.rows ∙ ap (λ (n : ℕ). suc (next n b.args)) (w₄.rows ∙ ap (λ (n : ℕ). suc (next n a.args)) (same_rows tokens q₂ q₃ x w₃ ∙ same_rows tokens q₁ q₂ w w₂ ∙ same_rows tokens p q₁ o w₁));
        room = omega (arith, same_rows tokens q₅ q₆ c w₆.0, w₅.room);
        depth = omega (arith, w₄.frames, w₅.frames);
      })))))))

  declared_done : (p q₁ q₂ q : Position) (o w : Token) (d : Declaration) (k : ℕ) → Took tokens p o q₁ → Opens o → Took tokens q₁ w q₂ → w.kind ≡ TokenKind.Atom
      → Declares (text t w) k → declared text_edition t whole_term (string tokens) is_close w (suc k) q₂ ≡ done d q → DeclarationRead p d q
  unfolding declared body
  declared_done p q₁ q₂ q o w d k w₁ a₁ w₂ a₂ (says_postulate v) e =
      string_elim tokens q₂ _ d q e (λ x q₃ w₃ a₃ e₃.
      after_elim (whole_term q₃) _ d q e₃ (λ a q₄ f₄ e₄.
      after_elim (closing tokens q₄) _ d q e₄ (λ c q₆ f₆ e₆.
      let w₄ = whole_done q₃ q₄ a f₄ in
      let w₆ = closing_done tokens q₄ q₆ c f₆ in
      done_as (DeclarationRead p) e₆ (record {
        derived = λ ds us b.
            let m = w₄.derived 0 nil (c ∷ b.tokens) (stops q₄ (c ∷ b.tokens) (before tokens q₄ q₆ c _ w₆.0 (close_goes _ w₆.1) b.lexed)) in
            record {
              tokens = o ∷ w ∷ x ∷ m.tokens;
              lexed = before tokens p q₁ o _ w₁ (open_goes _ a₁) (before tokens q₁ q₂ w _ w₂ (atom_goes _ a₂) (before tokens q₂ q₃ x _ w₃ (string_goes _ a₃) m.lexed));
              close = b.close;
              derived = postulate a₁ (record { atom = a₂; is = v }) a₃ m.derived w₆.1 b.derived;
              closes = b.closes;
            };
        rows = same_rows tokens q₄ q₆ c w₆.0 ∙ w₄.rows ∙ ap (λ (n : ℕ). suc (next n a.args)) (same_rows tokens q₂ q₃ x w₃ ∙ same_rows tokens q₁ q₂ w w₂ ∙ same_rows tokens p q₁ o w₁);
        room = omega (arith, same_rows tokens q₄ q₆ c w₆.0, w₄.room);
        depth = w₄.frames;
      }))))
  declared_done p q₁ q₂ q o w d k w₁ a₁ w₂ a₂ (says_transparent v) e =
      defined_done p q₁ q₂ q o w d 0 w₁ a₁ w₂ a₂ (λ x c ts us vs a b ds n m y l. transparent a₁ (record { atom = a₂; is = v }) n m y l) e
  declared_done p q₁ q₂ q o w d k w₁ a₁ w₂ a₂ (says_opaque v) e =
      defined_done p q₁ q₂ q o w d 1 w₁ a₁ w₂ a₂ (λ x c ts us vs a b ds n m y l. opaque a₁ (record { atom = a₂; is = v }) n m y l) e

  declaration_done : (p q₁ q : Position) (o : Token) (d : Declaration) → Took tokens p o q₁ → Opens o → declaration text_edition t whole_term (string tokens) is_close q₁ ≡ done d q → DeclarationRead p d q
  unfolding declaration declared
  declaration_done p q₁ q o d w a e =
      after_elim (atom tokens q₁) _ d q e (λ u q₂ f₂ e₂.
      let w₂ = atom_done tokens q₁ q₂ u f₂ in
      go u q₂ (declaration_kind (text t u)) w₂.0 w₂.1 refl e₂)
    where
      go : (u : Token) (q₂ : Position) (k : ℕ) → Took tokens q₁ u q₂ → u.kind ≡ TokenKind.Atom → declaration_kind (text t u) ≡ k → declared text_edition t whole_term (string tokens) is_close u k q₂ ≡ done d q → DeclarationRead p d q
      go u q₂ zero w₂ a₂ f e₂ = no_done e₂
      go u q₂ (suc k) w₂ a₂ f e₂ = declared_done p q₁ q₂ q o u d k w a w₂ a₂ (declaration_kind_is (text t u) k f) e₂

  pub record DeclarationsRead (p : Position) (n : ℕ) (ds : List Declaration) (q : Position) : Type 0 where
    pub derived : (us : List Token) → Tokens tokens q.offset us → BackDeclarations t p ds us
    pub rows : q.rows ≡ total p.rows ds
    pub room : p.rows ≤ limit → q.rows ≤ limit
    pub count : length ds ≤ n
    pub depth : deepest ds ≤ frames

  onwards_done : (p q₁ q : Position) (u : Token) (k : TokenKind) (n : ℕ) (ds : List Declaration) (more : Reader (List Declaration)) → Took tokens p u q₁ → u.kind ≡ k
      → (Opens u → more q₁ ≡ done ds q → DeclarationsRead p n ds q) → onwards text_edition t whole_term (string tokens) is_close more u k q₁ ≡ done ds q → DeclarationsRead p n ds q
  unfolding onwards ending
  onwards_done p q₁ q u TokenKind.LParen n ds more w a ok e = ok a e
  onwards_done p q₁ q u TokenKind.RParen n ds more w a ok e =
      done_as (DeclarationsRead p n) e (record {
        derived = λ us k. record { tokens = u ∷ us; lexed = before tokens p q₁ u us w (close_goes _ a) k; close = u; derived = no_declaration; closes = a };
        rows = same_rows tokens p q₁ u w;
        room = λ h. omega (arith, same_rows tokens p q₁ u w);
        count = omega arith;
        depth = omega arith;
      })
  onwards_done p q₁ q u TokenKind.Atom n ds more w a ok e = no_done e
  onwards_done p q₁ q u TokenKind.String n ds more w a ok e = no_done e
  onwards_done p q₁ q u TokenKind.Eof n ds more w a ok e = no_done e

  pub declarations_done : (n : ℕ) (p q : Position) (ds : List Declaration) → declarations text_edition t whole_term (string tokens) is_close n p ≡ done ds q → DeclarationsRead p n ds q
  unfolding declarations
  declarations_done zero p q ds e =
      after_elim (token tokens p) _ ds q e (λ u q₁ f₁ e₁.
      onwards_done p q₁ q u u.kind 0 ds _ (token_done tokens p q₁ u f₁) refl (λ a k. no_done k) e₁)
  declarations_done (suc n) p q ds e =
      after_elim (token tokens p) _ ds q e (λ u q₁ f₁ e₁.
      let w = token_done tokens p q₁ u f₁ in
      onwards_done p q₁ q u u.kind (suc n) ds _ w refl (λ a k.
      after_elim (declaration text_edition t whole_term (string tokens) is_close q₁) _ ds q k (λ d q₂ f₂ e₂.
      after_elim (declarations text_edition t whole_term (string tokens) is_close n q₂) _ ds q e₂ (λ l q₃ f₃ e₃.
      let x = declaration_done p q₁ q₂ u d w a f₂ in
      let y = declarations_done n q₂ q₃ l f₃ in
      done_as (DeclarationsRead p (suc n)) e₃ (record {
        derived = λ us m. x.derived l us (y.derived us m);
        rows = y.rows ∙ ap (λ (m : ℕ). total m l) x.rows;
        room = λ h. y.room x.room;
        count = omega (arith, y.count);
        depth = omega (arith, x.depth, y.depth);
      })))) e₁)
