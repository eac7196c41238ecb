-- A head and a core text that are read are what the grammar says.
use mathlib.Core.Path.{◌≡◌, refl, sym, ap, ◌∙◌, subst}
use mathlib.Core.List.{List, [], ◌∷◌}
use mathlib.Core.Bool.{Bool, true, false, ◌&&◌, and-eq-true_iff}
use Prim.Native.Nat.{ℕ, ◌≤◌}
use native.Mathlib.Omega.{arith}
use lib.ListN.{length}
use Rattle.token.specs.declared.Token.{Token}
use Rattle.token.specs.declared.Refusal.{Refusal}
use Rattle.core_token.specs.CoreToken.{next_core_token}
use Rattle.words.specs.Words.{ascii, same_bytes}
use Rattle.words.proofs.Names.{same_eq}
use Rattle.terms.specs.Label.{Declaration}
use Rattle.terms.proofs.Widths.{total}
use Rattle.surface.specs.Text.{text, is_close}
use Rattle.surface.specs.Grammar.{Tokens, the_end, Numeral, Word}
use Rattle.surface.specs.Reader.{Position, start, done, require}
use Rattle.surface.specs.Reading.{opening, closing, word, natural, declarations}
use Rattle.surface.specs.Statements.{deepest}
use Rattle.surface.proofs.Steps.{no_done, after_elim, done_inj, done_as, open_goes, close_goes, atom_goes, before, same_rows, opening_done, closing_done, word_done, natural_done}
use Rattle.core_text.specs.TextReading.{text_edition, string, end_token, zero_one, text_head, declarations_line, read_text}
use Rattle.core_text.specs.TextGrammar.{between, TextHead, head, DerivesText}
use Rattle.core_text.proofs.Strings.{string_goes, string_elim, end_done}
use Rattle.core_text.proofs.SoundDeclarations.{declarations_done}

require_done : (b : Bool) (r : Refusal) (p q : Position) (u : Unit {0}) → require b r p ≡ done u q → (b ≡ true) × (p ≡ q)
require_done true r p q u e = (refl, (done_inj e).1)
require_done false r p q u e = no_done e

module _ (t : List ℕ) where
  -- Numerals that are 0 and 1.
  zero_one_is : (a b : Token) → Numeral t a → Numeral t b → zero_one t a b ≡ true → Word t (ascii "0") a × Word t (ascii "1") b
  zero_one_is a b m n e =
      let i = (and-eq-true_iff (same_bytes (text t a) (ascii "0")) (same_bytes (text t b) (ascii "1"))).0 e in
      (record { atom = m.atom; is = same_eq _ _ i.0 }, record { atom = n.atom; is = same_eq _ _ i.1 })

  -- The head, in front of the tokens that follow it.
  pub record HeadDone (p q : Position) : Type 0 where
    pub derived : (ts : List Token) → Tokens (next_core_token t) q.offset ts → (us : List Token) × Tokens (next_core_token t) p.offset us × TextHead t us ts
    pub rows : q.rows ≡ p.rows

  pub head_done : (p r q : Position) (x : Unit {0}) (y : Token) → text_head t p ≡ done x r → declarations_line t r ≡ done y q → HeadDone p q
  unfolding text_head declarations_line
  head_done p r q x y e₀ l₀ =
      let N = next_core_token t in
      after_elim (opening N p) _ x r e₀ (λ o p₁ f₁ e₁.
      after_elim (word N t (ascii "hott-core") p₁) _ x r e₁ (λ w p₂ f₂ e₂.
      after_elim (opening N p₂) _ x r e₂ (λ o₂ p₃ f₃ e₃.
      after_elim (word N t (ascii "format") p₃) _ x r e₃ (λ v p₄ f₄ e₄.
      after_elim (natural N t p₄) _ x r e₄ (λ a p₅ f₅ e₅.
      after_elim (natural N t p₅) _ x r e₅ (λ b p₆ f₆ e₆.
      after_elim (closing N p₆) _ x r e₆ (λ c p₇ f₇ e₇.
      after_elim (opening N p₇) _ x r e₇ (λ o₃ p₈ f₈ e₈.
      after_elim (word N t (ascii "theory") p₈) _ x r e₈ (λ u p₉ f₉ e₉.
      string_elim N p₉ _ x r e₉ (λ n q₁ j₁ j₀ m₁.
      after_elim (natural N t q₁) _ x r m₁ (λ d q₂ g₂ m₂.
      after_elim (natural N t q₂) _ x r m₂ (λ e q₃ g₃ m₃.
      after_elim (closing N q₃) _ x r m₃ (λ f q₄ g₄ m₄.
      after_elim (opening N r) _ y q l₀ (λ o₄ r₁ h₁ l₁.
      let i₁ = opening_done N p p₁ o f₁ in
      let i₂ = word_done N t (ascii "hott-core") p₁ p₂ w f₂ in
      let i₃ = opening_done N p₂ p₃ o₂ f₃ in
      let i₄ = word_done N t (ascii "format") p₃ p₄ v f₄ in
      let i₅ = natural_done N t p₄ p₅ a f₅ in
      let i₆ = natural_done N t p₅ p₆ b f₆ in
      let i₇ = closing_done N p₆ p₇ c f₇ in
      let i₈ = opening_done N p₇ p₈ o₃ f₈ in
      let i₉ = word_done N t (ascii "theory") p₈ p₉ u f₉ in
      let j₂ = natural_done N t q₁ q₂ d g₂ in
      let j₃ = natural_done N t q₂ q₃ e g₃ in
      let j₄ = closing_done N q₃ q₄ f g₄ in
      let z = require_done (zero_one t a b && (same_bytes (text t (between n)) (ascii "mltt-core") && zero_one t d e)) _ q₄ r x m₄ in
      let v₁ = (and-eq-true_iff (zero_one t a b) _).0 z.0 in
      let v₂ = (and-eq-true_iff (same_bytes (text t (between n)) (ascii "mltt-core")) _).0 v₁.1 in
      let v₃ = zero_one_is a b i₅.1 i₆.1 v₁.0 in
      let v₄ = zero_one_is d e j₂.1 j₃.1 v₂.1 in
      let k₁ = opening_done N r r₁ o₄ h₁ in
      let k₂ = word_done N t (ascii "declarations") r₁ q y l₁ in
      record {
        derived = λ ts k. (
          o ∷ w ∷ o₂ ∷ v ∷ a ∷ b ∷ c ∷ o₃ ∷ u ∷ n ∷ d ∷ e ∷ f ∷ o₄ ∷ y ∷ ts,
          before N p p₁ o _ i₁.0 (open_goes _ i₁.1) (before N p₁ p₂ w _ i₂.0 (atom_goes _ i₂.1.atom)
              (before N p₂ p₃ o₂ _ i₃.0 (open_goes _ i₃.1) (before N p₃ p₄ v _ i₄.0 (atom_goes _ i₄.1.atom) (before N p₄ p₅ a _ i₅.0 (atom_goes _ i₅.1.atom)
              (before N p₅ p₆ b _ i₆.0 (atom_goes _ i₆.1.atom) (before N p₆ p₇ c _ i₇.0 (close_goes _ i₇.1)
              (before N p₇ p₈ o₃ _ i₈.0 (open_goes _ i₈.1) (before N p₈ p₉ u _ i₉.0 (atom_goes _ i₉.1.atom) (before N p₉ q₁ n _ j₁ (string_goes _ j₀)
              (before N q₁ q₂ d _ j₂.0 (atom_goes _ j₂.1.atom) (before N q₂ q₃ e _ j₃.0 (atom_goes _ j₃.1.atom) (before N q₃ q₄ f _ j₄.0 (close_goes _ j₄.1)
              (subst (λ (i : Position). Tokens N i.offset (o₄ ∷ y ∷ ts)) (sym z.1) (before N r r₁ o₄ _ k₁.0 (open_goes _ k₁.1) (before N r₁ q y _ k₂.0 (atom_goes _ k₂.1.atom) k))))))))))))))),
          head i₁.1 i₂.1 i₃.1 i₄.1 v₃.0 v₃.1 i₇.1 i₈.1 i₉.1 (record { quotes = j₀; is = same_eq _ _ v₂.0 }) v₄.0 v₄.1 j₄.1 k₁.1 k₂.1,
        );
        rows = same_rows N r₁ q y k₂.0 ∙ same_rows N r r₁ o₄ k₁.0 ∙ ap (λ (i : Position). i.rows) (sym z.1) ∙ same_rows N q₃ q₄ f j₄.0 ∙ same_rows N q₂ q₃ e j₃.0
            ∙ same_rows N q₁ q₂ d j₂.0 ∙ same_rows N p₉ q₁ n j₁ ∙ same_rows N p₈ p₉ u i₉.0 ∙ same_rows N p₇ p₈ o₃ i₈.0 ∙ same_rows N p₆ p₇ c i₇.0 ∙ same_rows N p₅ p₆ b i₆.0
            ∙ same_rows N p₄ p₅ a i₅.0 ∙ same_rows N p₃ p₄ v i₄.0 ∙ same_rows N p₂ p₃ o₂ i₃.0 ∙ same_rows N p₁ p₂ w i₂.0 ∙ same_rows N p p₁ o i₁.0;
      }))))))))))))))

-- A core text, where there is room for so many rows and declarations, and so many frames may be open in one term.
pub record TextRead (t : List ℕ) (limit room frames : ℕ) (ds : List Declaration) (q : Position) : Type 0 where
  pub derives : DerivesText t ds
  pub rows : q.rows ≡ total 0 ds
  pub few_rows : q.rows ≤ limit
  pub few_declarations : length ds ≤ room
  pub shallow : deepest ds ≤ frames

pub sound : (t : List ℕ) (limit room frames : ℕ) (ds : List Declaration) (q : Position) → read_text t limit room frames start ≡ done ds q → TextRead t limit room frames ds q
unfolding read_text text_edition
sound t limit room frames ds q e₀ =
    let N = next_core_token t in
    after_elim (text_head t start) _ ds q e₀ (λ x p₁ f₁ e₁.
    after_elim (declarations_line t p₁) _ ds q e₁ (λ y p₂ f₂ e₂.
    after_elim (declarations text_edition t _ (string N) is_close room p₂) _ ds q e₂ (λ es p₃ f₃ e₃.
    after_elim (closing N p₃) _ ds q e₃ (λ d p₄ f₄ e₄.
    after_elim (end_token N p₄) _ ds q e₄ (λ z p₅ f₅ e₅.
    let h = head_done t start p₁ p₂ x y f₁ f₂ in
    let g = declarations_done t limit frames room p₂ p₃ es f₃ in
    let c = closing_done N p₃ p₄ d f₄ in
    let l = end_done N p₄ p₅ z f₅ in
    let b = g.derived (d ∷ []) (before N p₃ p₄ d [] c.0 (close_goes _ c.1) (the_end l.0.takes l.1)) in
    let a = h.derived b.tokens b.lexed in
    let r : p₅.rows ≡ p₃.rows = same_rows N p₄ p₅ z l.0 ∙ same_rows N p₃ p₄ d c.0 in
    done_as (TextRead t limit room frames) e₅ (record {
      derives = record {
        tokens = a.0;
        lexed = a.1;
        rest = b.tokens;
        head = a.2;
        close = b.close;
        last = d;
        declarations = b.derived;
        closes = b.closes;
        ends = c.1;
      };
      rows = r ∙ g.rows ∙ ap (λ (m : ℕ). total m es) h.rows;
      few_rows = omega (arith, r, g.room (omega (arith, h.rows)));
      few_declarations = g.count;
      shallow = g.depth;
    }))))))
