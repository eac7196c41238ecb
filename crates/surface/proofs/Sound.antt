-- A term that is read is what the grammar says.
use mathlib.Core.Path.{◌≡◌, refl, sym, ap, ◌∙◌, subst}
use mathlib.Core.List.{List, ◌∷◌}
use mathlib.Core.Option.{Option, none, some}
use Prim.Native.Nat.{ℕ, zero, suc, ◌≤◌, ◌<◌}
use native.Mathlib.Omega.{arith}
use lib.Dec.{ltb}
use borrow.Author.Tests.{ltb-true}
use Rattle.token.specs.declared.TokenKind.{TokenKind}
use Rattle.token.specs.declared.Token.{Token}
use Rattle.terms.specs.Forms.{Shape, alone, with_name, with_numeral, binding, plain, Form, Edition, form_of_word}
use Rattle.terms.specs.Tree.{Forest, nil, node, Tree, tree, next}
use Rattle.terms.specs.Label.{Label}
use Rattle.surface.specs.Text.{text, label_with}
use Rattle.surface.specs.Grammar.{Tokens, Opens, Closes, Terms, no_term, leaf_term, ref_term, universe_term, binding_term, plain_term}
use Rattle.surface.specs.Reader.{Position, done, Reader}
use Rattle.surface.specs.Reading.{Beginning, leaf, frame, store, finish, several, term, token, closing, atom, natural, name, bare, tagged, known, beginning_on, beginning}
use Rattle.surface.proofs.Frames.{frames_of, opens_at_most}
use Rattle.surface.proofs.Steps.{no_done, after_elim, require_elim, done_inj, done_as, open_goes, close_goes, atom_goes, Took, before, same_rows, token_done, closing_done, atom_done, natural_done, name_done}

-- From p on the tokens begin with n terms, which are f, and us follows them.
pub record Back (E : Edition) (s : List ℕ) (p : Position) (n : ℕ) (f : Forest Label) (us : List Token) : Type 0 where
  pub tokens : List Token
  pub lexed : Tokens (E.tokens s) p.offset tokens
  pub derived : Terms E s n tokens f us

-- What the beginning of a term that is read stands for.
abbrev pub Begins : Edition → List ℕ → Position → Beginning → Position → Type 0
Begins E s p (leaf m) q = (n : ℕ) (r : Forest Label) (us : List Token) → Back E s q n r us → Back E s p (suc n) (node m nil r) us
Begins E s p (frame m k) q =
    (n : ℕ) (a r : Forest Label) (c : Token) (us vs : List Token) → Back E s q k a (c ∷ us) → Closes c → Terms E s n us r vs → Back E s p (suc n) (node m a r) vs

module _ (E : Edition) (s : List ℕ) where
  -- one token more in front
  bare_done : (p q₀ q : Position) (t : Token) (f : Form) (h : Beginning) (c : Shape) → Took (E.tokens s) p t q₀ → t.kind ≡ TokenKind.Atom → form_of_word (text s t) E.forms ≡ some f → f.shape ≡ c
      → bare E s t f c q₀ ≡ done h q → Begins E s p h q × (q.rows ≡ p.rows)
  unfolding bare
  bare_done p q₀ q t f h alone w a l c e =
      done_as (λ x y. Begins E s p x y × (y.rows ≡ p.rows)) e
      (λ n r us b. record { tokens = t ∷ b.tokens; lexed = before (E.tokens s) p q₀ t b.tokens w (atom_goes _ a) b.lexed; derived = leaf_term (record { atom = a; is = l; shape = c }) b.derived }, same_rows (E.tokens s) p q₀ t w)
  bare_done p q₀ q t f h with_name w a l c e = no_done e
  bare_done p q₀ q t f h with_numeral w a l c e = no_done e
  bare_done p q₀ q t f h binding w a l c e = no_done e
  bare_done p q₀ q t f h plain w a l c e = no_done e

  -- `(ref NAME)` or `(universe NUMERAL)`, by its production.
  atom_form_done : (p q₁ q₂ q₃ q₄ q : Position) (o t x d : Token) (f : Form) (h : Beginning) → Took (E.tokens s) p o q₁ → Opens o → Took (E.tokens s) q₁ t q₂ → t.kind ≡ TokenKind.Atom
      → Took (E.tokens s) q₂ x q₃ → x.kind ≡ TokenKind.Atom → Took (E.tokens s) q₃ d q₄ → Closes d
      → ((n : ℕ) (r : Forest Label) (ts us : List Token) → Terms E s n ts r us → Terms E s (suc n) (o ∷ t ∷ x ∷ d ∷ ts) (node (label_with f x o.start) nil r) us)
      → done (leaf (label_with f x o.start)) q₄ ≡ done h q → Begins E s p h q × (q.rows ≡ p.rows)
  atom_form_done p q₁ q₂ q₃ q₄ q o t x d f h w₁ a₁ w₂ a₂ w₃ a₃ w₄ a₄ by e =
      done_as (λ x y. Begins E s p x y × (y.rows ≡ p.rows)) e (
        λ n r us b. record {
          tokens = o ∷ t ∷ x ∷ d ∷ b.tokens;
          lexed = before (E.tokens s) p q₁ o _ w₁ (open_goes _ a₁) (before (E.tokens s) q₁ q₂ t _ w₂ (atom_goes _ a₂) (before (E.tokens s) q₂ q₃ x _ w₃ (atom_goes _ a₃) (before (E.tokens s) q₃ q₄ d _ w₄ (close_goes _ a₄) b.lexed)));
          derived = by n r b.tokens us b.derived;
        },
        same_rows (E.tokens s) q₃ q₄ d w₄ ∙ same_rows (E.tokens s) q₂ q₃ x w₃ ∙ same_rows (E.tokens s) q₁ q₂ t w₂ ∙ same_rows (E.tokens s) p q₁ o w₁,
      )

  tagged_done : (p q₁ q₂ q : Position) (o t : Token) (f : Form) (h : Beginning) (c : Shape) → Took (E.tokens s) p o q₁ → Opens o → Took (E.tokens s) q₁ t q₂ → t.kind ≡ TokenKind.Atom
      → form_of_word (text s t) E.forms ≡ some f → f.shape ≡ c → tagged E s o t f c q₂ ≡ done h q → Begins E s p h q × (q.rows ≡ p.rows)
  unfolding tagged
  tagged_done p q₁ q₂ q o t f h alone w₁ a₁ w₂ a₂ l c e = no_done e
  tagged_done p q₁ q₂ q o t f h with_name w₁ a₁ w₂ a₂ l c e =
      after_elim (name E s q₂) _ h q e (λ x q₃ f₃ e₃.
      after_elim (closing (E.tokens s) q₃) _ h q e₃ (λ d q₄ f₄ e₄.
      let w₃ = name_done E s q₂ q₃ x f₃ in
      let w₄ = closing_done (E.tokens s) q₃ q₄ d f₄ in
      atom_form_done p q₁ q₂ q₃ q₄ q o t x d f h w₁ a₁ w₂ a₂ w₃.0 w₃.1.atom w₄.0 w₄.1
      (λ n r ts us k. ref_term a₁ (record { atom = a₂; is = l; shape = c }) w₃.1 w₄.1 k) e₄))
  tagged_done p q₁ q₂ q o t f h with_numeral w₁ a₁ w₂ a₂ l c e =
      after_elim (natural (E.tokens s) s q₂) _ h q e (λ x q₃ f₃ e₃.
      after_elim (closing (E.tokens s) q₃) _ h q e₃ (λ d q₄ f₄ e₄.
      let w₃ = natural_done (E.tokens s) s q₂ q₃ x f₃ in
      let w₄ = closing_done (E.tokens s) q₃ q₄ d f₄ in
      atom_form_done p q₁ q₂ q₃ q₄ q o t x d f h w₁ a₁ w₂ a₂ w₃.0 w₃.1.atom w₄.0 w₄.1
      (λ n r ts us k. universe_term a₁ (record { atom = a₂; is = l; shape = c }) w₃.1 w₄.1 k) e₄))
  tagged_done p q₁ q₂ q o t f h binding w₁ a₁ w₂ a₂ l c e =
      after_elim (name E s q₂) _ h q e (λ x q₃ f₃ e₃.
      let w₃ = name_done E s q₂ q₃ x f₃ in
      done_as (λ x y. Begins E s p x y × (y.rows ≡ p.rows)) e₃ (
        λ n a r d us vs b k g. record {
          tokens = o ∷ t ∷ x ∷ b.tokens;
          lexed = before (E.tokens s) p q₁ o _ w₁ (open_goes _ a₁) (before (E.tokens s) q₁ q₂ t _ w₂ (atom_goes _ a₂) (before (E.tokens s) q₂ q₃ x _ w₃.0 (atom_goes _ w₃.1.atom) b.lexed));
          derived = binding_term a₁ (record { atom = a₂; is = l; shape = c }) w₃.1 b.derived k g;
        },
        same_rows (E.tokens s) q₂ q₃ x w₃.0 ∙ same_rows (E.tokens s) q₁ q₂ t w₂ ∙ same_rows (E.tokens s) p q₁ o w₁,
      ))
  tagged_done p q₁ q₂ q o t f h plain w₁ a₁ w₂ a₂ l c e =
      done_as (λ x y. Begins E s p x y × (y.rows ≡ p.rows)) e (
        λ n a r d us vs b k g. record {
          tokens = o ∷ t ∷ b.tokens;
          lexed = before (E.tokens s) p q₁ o _ w₁ (open_goes _ a₁) (before (E.tokens s) q₁ q₂ t _ w₂ (atom_goes _ a₂) b.lexed);
          derived = plain_term a₁ (record { atom = a₂; is = l; shape = c }) b.derived k g;
        },
        same_rows (E.tokens s) q₁ q₂ t w₂ ∙ same_rows (E.tokens s) p q₁ o w₁,
      )

  known_done : {P : Type 0} (k : Form → Reader Beginning) (t : Token) (o : Option Form) (q₀ q : Position) (h : Beginning) → known E s k t o q₀ ≡ done h q → ((f : Form) → o ≡ some f → k f q₀ ≡ done h q → P) → P
  unfolding known
  known_done k t none q₀ q h e c = no_done e
  known_done k t (some f) q₀ q h e c = c f refl e

  beginning_on_done : (p q₁ q : Position) (o : Token) (h : Beginning) (k : TokenKind) → Took (E.tokens s) p o q₁ → o.kind ≡ k → beginning_on E s o k q₁ ≡ done h q → Begins E s p h q × (q.rows ≡ p.rows)
  unfolding beginning_on
  beginning_on_done p q₁ q o h TokenKind.LParen w a e =
      after_elim (atom (E.tokens s) q₁) _ h q e (λ t q₂ f₂ e₂.
      known_done _ t (form_of_word (text s t) E.forms) q₂ q h e₂ (λ f l e₃.
      let w₂ = atom_done (E.tokens s) q₁ q₂ t f₂ in
      tagged_done p q₁ q₂ q o t f h f.shape w a w₂.0 w₂.1 l refl e₃))
  beginning_on_done p q₁ q o h TokenKind.RParen w a e = no_done e
  beginning_on_done p q₁ q o h TokenKind.Atom w a e = known_done _ o (form_of_word (text s o) E.forms) q₁ q h e (λ f l e₁. bare_done p q₁ q o f h f.shape w a l refl e₁)
  beginning_on_done p q₁ q o h TokenKind.String w a e = no_done e
  beginning_on_done p q₁ q o h TokenKind.Eof w a e = no_done e

  pub beginning_done : (p q : Position) (h : Beginning) → beginning E s p ≡ done h q → Begins E s p h q × (q.rows ≡ p.rows)
  unfolding beginning
  beginning_done p q h e = after_elim (token (E.tokens s) p) _ h q e (λ o q₁ f₁ e₁. beginning_on_done p q₁ q o h o.kind (token_done (E.tokens s) p q₁ o f₁) refl e₁)

  -- A term that is read, and several. `limit` is the number of rows that there is room for.
  module _ (limit : ℕ) where
    pub record TermRead (l : ℕ) (p : Position) (t : Tree Label) (q : Position) : Type 0 where
      pub derived : (n : ℕ) (r : Forest Label) (us : List Token) → Back E s q n r us → Back E s p (suc n) (tree t r) us
      pub rows : q.rows ≡ suc (next p.rows t.args)
      pub room : q.rows ≤ limit
      pub frames : frames_of (tree t nil) ≤ l

    pub record TermsRead (l : ℕ) (p : Position) (n : ℕ) (f : Forest Label) (q : Position) : Type 0 where
      pub derived : (us : List Token) → Tokens (E.tokens s) q.offset us → Back E s p n f us
      pub rows : q.rows ≡ next p.rows f
      pub frames : frames_of f ≤ l

    store_done : (t u : Tree Label) (p q : Position) → store (beginning E s) (closing (E.tokens s)) limit t p ≡ done u q → (t ≡ u) × (q.offset ≡ p.offset) × (q.rows ≡ suc p.rows) × (q.rows ≤ limit)
    unfolding store
    store_done t u p q e =
        require_elim (ltb p.rows limit) _ p _ u q e (λ b e₁.
        let i = done_inj e₁ in
        let r : q.rows ≡ suc p.rows = ap (λ (x : Position). x.rows) (sym i.1) in
        (i.0, ap (λ (x : Position). x.offset) (sym i.1), r, omega (arith, ltb-true p.rows limit b)))

    back_at : (p q : Position) (n : ℕ) (f : Forest Label) (us : List Token) → q.offset ≡ p.offset → Back E s q n f us → Back E s p n f us
    back_at p q n f us e b = record { tokens = b.tokens; lexed = subst (λ (x : ℕ). Tokens (E.tokens s) x b.tokens) e b.lexed; derived = b.derived }

    finish_done : (l k : ℕ) (args : ℕ → Reader (Forest Label)) → ((n : ℕ) (p q : Position) (f : Forest Label) → args n p ≡ done f q → TermsRead k p n f q × (k < l))
        → (p q₁ q : Position) (h : Beginning) (t : Tree Label) → Begins E s p h q₁ → q₁.rows ≡ p.rows → finish (beginning E s) (closing (E.tokens s)) limit args h q₁ ≡ done t q → TermRead l p t q
    unfolding finish
    finish_done l k args ok p q₁ q (leaf m) t b r e =
        let w = store_done _ t q₁ q e in
        subst (λ (x : Tree Label). TermRead l p x q) w.0 (record {
          derived = λ n f us j. b n f us (back_at q₁ q n f us w.1 j);
          rows = w.2 ∙ ap suc r;
          room = w.3;
          frames = omega arith;
        })
    finish_done l k args ok p q₁ q (frame m n) t b r e =
        after_elim (args n q₁) _ t q e (λ a q₂ f₂ e₂.
        after_elim (closing (E.tokens s) q₂) _ t q e₂ (λ c q₃ f₃ e₃.
        let w = store_done _ t q₃ q e₃ in
        let d = closing_done (E.tokens s) q₂ q₃ c f₃ in
        let g = ok n q₁ q₂ a f₂ in
        subst (λ (x : Tree Label). TermRead l p x q) w.0 (record {
          derived = λ j f us i.
              let v = back_at q₃ q j f us w.1 i in
              b j a f c v.tokens us (g.0.derived (c ∷ v.tokens) (before (E.tokens s) q₂ q₃ c v.tokens d.0 (close_goes _ d.1) v.lexed)) d.1 v.derived;
          rows = w.2 ∙ ap suc (same_rows (E.tokens s) q₂ q₃ c d.0 ∙ g.0.rows ∙ ap (λ (x : ℕ). next x a) r);
          room = w.3;
          frames = omega (arith, opens_at_most a (suc (frames_of a)), g.0.frames, g.1);
        })))

    several_done : (l : ℕ) (R : Reader (Tree Label)) → ((p q : Position) (t : Tree Label) → R p ≡ done t q → TermRead l p t q)
        → (n : ℕ) (p q : Position) (f : Forest Label) → several (beginning E s) (closing (E.tokens s)) limit R n p ≡ done f q → TermsRead l p n f q
    unfolding several
    several_done l R ok zero p q f e =
        done_as (TermsRead l p 0) e (record { derived = λ us k. record { tokens = us; lexed = k; derived = no_term }; rows = refl; frames = omega arith })
    several_done l R ok (suc n) p q f e =
        after_elim (R p) _ f q e (λ t q₁ f₁ e₁.
        after_elim (several (beginning E s) (closing (E.tokens s)) limit R n q₁) _ f q e₁ (λ r q₂ f₂ e₂.
        let a = ok p q₁ t f₁ in
        let b = several_done l R ok n q₁ q₂ r f₂ in
        done_as (TermsRead l p (suc n)) e₂ (record {
          derived = λ us k. a.derived n r us (b.derived us k);
          rows = b.rows ∙ ap (λ (x : ℕ). next x r) a.rows;
          frames = omega (arith, a.frames, b.frames);
        })))

    pub term_done : (l : ℕ) (p q : Position) (t : Tree Label) → term (beginning E s) (closing (E.tokens s)) limit l p ≡ done t q → TermRead l p t q
    unfolding term
    term_done zero p q t e =
        after_elim (beginning E s p) _ t q e (λ h q₁ f₁ e₁.
        let w = beginning_done p q₁ h f₁ in
        finish_done 0 0 _ (λ n p q f k. no_done k) p q₁ q h t w.0 w.1 e₁)
    term_done (suc l) p q t e =
        after_elim (beginning E s p) _ t q e (λ h q₁ f₁ e₁.
        let w = beginning_done p q₁ h f₁ in
        finish_done (suc l) l _ (λ n p q f k. (several_done l (term (beginning E s) (closing (E.tokens s)) limit l) (term_done l) n p q f k, omega arith)) p q₁ q h t w.0 w.1 e₁)
