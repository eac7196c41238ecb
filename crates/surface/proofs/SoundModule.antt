-- A head and a module that are read are what the grammar says.
use mathlib.Core.Path.{◌≡◌, refl, sym, ap, ◌∙◌, subst}
use mathlib.Core.List.{List, [], ◌∷◌, ◌++◌}
use mathlib.Core.Option.{Option, none, some}
use mathlib.Core.Bool.{Bool, true, false, ◌&&◌, cond, and-eq-true_iff}
use Prim.Native.Nat.{ℕ, ◌≤◌}
use Prim.Native.String.{String}
use native.Mathlib.Omega.{arith}
use lib.ListN.{length}
use Rattle.token.specs.Token.{next_token, Lexed}
use Rattle.token.specs.declared.Token.{Token}
use Rattle.words.specs.Words.{ascii, same_bytes}
use Rattle.words.proofs.Names.{same_eq}
use Rattle.terms.specs.Forms.{Edition, edition_0_1, edition_0_2}
use Rattle.terms.specs.Label.{Declaration}
use Rattle.terms.proofs.Names.{none_some, some_inj}
use Rattle.terms.proofs.Widths.{total}
use Rattle.surface.specs.Text.{text}
use Rattle.surface.specs.Grammar.{Tokens, Word, Numeral, Version, version_0_1, version_0_2, Head, head, Derives}
use Rattle.surface.specs.Reader.{Position, start, done}
use Rattle.surface.specs.Reading.{opening, closing, word, natural, name, Head as HeadRead, edition_of, supported, surface_line, module_line, head as head-reader, read_module}
use Rattle.surface.proofs.Frames.{deepest}
use Rattle.surface.proofs.Editions.{version_meets}
use Rattle.surface.proofs.Steps.{Took, no_done, after_elim, done_inj, done_as, open_goes, close_goes, atom_goes, same_rows, opening_done, closing_done, word_done, natural_done, name_done}
use Rattle.surface.proofs.Runs.{Run, run_end, run_before, run_tokens}
use Rattle.surface.proofs.SoundDeclarations.{declarations_done}

-- An edition that reading supports is the grammar's.
pub edition_is : (s : List ℕ) (a b : Token) (E : Edition) → edition_of (text s a) (text s b) ≡ some E → Numeral s a → Numeral s b → Version s a b E
unfolding edition_of
edition_is s a b E e m n = go (by_bytes "1") (by_bytes "2") refl refl e
  where
    by_bytes : String → Bool
    by_bytes w = same_bytes (text s a) (ascii "0") && same_bytes (text s b) (ascii w)

    words : (w : String) → by_bytes w ≡ true → Word s (ascii "0") a × Word s (ascii w) b
    words w p =
        let h = (and-eq-true_iff (same_bytes (text s a) (ascii "0")) (same_bytes (text s b) (ascii w))).0 p in
        (record { atom = m.atom; is = same_eq _ _ h.0 }, record { atom = n.atom; is = same_eq _ _ h.1 })

    go : (x y : Bool) → by_bytes "1" ≡ x → by_bytes "2" ≡ y → cond x (some edition_0_1) (cond y (some edition_0_2) none) ≡ some E → Version s a b E
    go true y p q f = let w = words "1" p in subst (λ (F : Edition). Version s a b F) (some_inj f) (version_0_1 w.0 w.1)
    go false true p q f = let w = words "2" q in subst (λ (F : Edition). Version s a b F) (some_inj f) (version_0_2 w.0 w.1)
    go false false p q f = none_some f

pub supported_done : {P : Type 0} (o : Option Edition) (p q : Position) (E : Edition) → supported o p ≡ done E q → (o ≡ some E → p ≡ q → P) → P
unfolding supported
supported_done none p q E e k = no_done e
supported_done (some F) p q E e k = let i = done_inj e in k (ap {B = Option Edition} some i.0) i.1

-- The nine tokens of the head. It is the same head in front of the tokens that follow it.
pub record HeadDone (s : List ℕ) (p : Position) (h : HeadRead) (q : Position) : Type 0 where
  pub nine : List Token
  pub run : Run (next_token s) p.offset nine q.offset
  pub derived : Head s nine h.edition h.name []
  pub rows : q.rows ≡ p.rows
  pub tokens : h.edition.tokens ≡ next_token

pub head_before : {s : List ℕ} {ts : List Token} {E : Edition} {x : Token} → Head s ts E x [] → (us : List Token) → Head s (ts ++ us) E x us
head_before (head o₁ o₂ v o₅ o₆ o₇ o₈ o₉) us = head o₁ o₂ v o₅ o₆ o₇ o₈ o₉

pub head_done : (s : List ℕ) (p q : Position) (h : HeadRead) → head-reader s p ≡ done h q → HeadDone s p h q
unfolding head-reader surface_line module_line
head_done s p q h e =
    after_elim (surface_line s p) _ h q e (λ E q₁ f₁ e₁.
    after_elim (module_line s E q₁) _ h q e₁ (λ x r₄ f₂ e₂.
    after_elim (opening (next_token s) p) _ E q₁ f₁ (λ o p₁ g₁ h₁.
    after_elim (word (next_token s) s (ascii "surface") p₁) _ E q₁ h₁ (λ w p₂ g₂ h₂.
    after_elim (natural (next_token s) s p₂) _ E q₁ h₂ (λ a p₃ g₃ h₃.
    after_elim (natural (next_token s) s p₃) _ E q₁ h₃ (λ b p₄ g₄ h₄.
    after_elim (closing (next_token s) p₄) _ E q₁ h₄ (λ c p₅ g₅ h₅.
    supported_done (edition_of (text s a) (text s b)) p₅ q₁ E h₅ (λ v j.
    after_elim (opening (next_token s) q₁) _ x r₄ f₂ (λ u r₁ k₁ l₁.
    after_elim (word (next_token s) s (ascii "module") r₁) _ x r₄ l₁ (λ m r₂ k₂ l₂.
    after_elim (name E s r₂) _ x r₄ l₂ (λ y r₃ k₃ l₃.
    after_elim (closing (next_token s) r₃) _ x r₄ l₃ (λ d r₅ k₄ l₄.
    let o₁ = opening_done (next_token s) p p₁ o g₁ in
    let o₂ = word_done (next_token s) s (ascii "surface") p₁ p₂ w g₂ in
    let o₃ = natural_done (next_token s) s p₂ p₃ a g₃ in
    let o₄ = natural_done (next_token s) s p₃ p₄ b g₄ in
    let o₅ = closing_done (next_token s) p₄ p₅ c g₅ in
    let i₁ = opening_done (next_token s) q₁ r₁ u k₁ in
    let i₂ = word_done (next_token s) s (ascii "module") r₁ r₂ m k₂ in
    let i₃ = name_done E s r₂ r₃ y k₃ in
    let i₄ = closing_done (next_token s) r₃ r₅ d k₄ in
    let v₁ = edition_is s a b E v o₃.1 o₄.1 in
    let i₅ : Took (next_token s) r₂ y r₃ = subst (λ (T : List ℕ → ℕ → Lexed). Took (T s) r₂ y r₃) (version_meets v₁).tokens i₃.0 in
    done_as (HeadDone s p) e₂ (done_as (λ x r. HeadDone s p (record { edition = E; name = x }) r) l₄ (record {
      nine = o ∷ w ∷ a ∷ b ∷ c ∷ u ∷ m ∷ y ∷ d ∷ [];
      run =
          run_before p p₁ o o₁.0 (open_goes _ o₁.1) (run_before p₁ p₂ w o₂.0 (atom_goes _ o₂.1.atom) (run_before p₂ p₃ a o₃.0 (atom_goes _ o₃.1.atom)
          (run_before p₃ p₄ b o₄.0 (atom_goes _ o₄.1.atom) (run_before p₄ p₅ c o₅.0 (close_goes _ o₅.1) (subst (λ (r : Position). Run (next_token s) r.offset (u ∷ m ∷ y ∷ d ∷ []) r₅.offset) (sym j)
          (run_before q₁ r₁ u i₁.0 (open_goes _ i₁.1) (run_before r₁ r₂ m i₂.0 (atom_goes _ i₂.1.atom) (run_before r₂ r₃ y i₅ (atom_goes _ i₃.1.atom)
          (run_before r₃ r₅ d i₄.0 (close_goes _ i₄.1) run_end)))))))));
      derived = head o₁.1 o₂.1 v₁ o₅.1 i₁.1 i₂.1 i₃.1 i₄.1;
      rows = same_rows (next_token s) r₃ r₅ d i₄.0 ∙ same_rows (next_token s) r₂ r₃ y i₅ ∙ same_rows (next_token s) r₁ r₂ m i₂.0 ∙ same_rows (next_token s) q₁ r₁ u i₁.0 ∙ ap (λ (r : Position). r.rows) (sym j)
          ∙ same_rows (next_token s) p₄ p₅ c o₅.0 ∙ same_rows (next_token s) p₃ p₄ b o₄.0 ∙ same_rows (next_token s) p₂ p₃ a o₃.0 ∙ same_rows (next_token s) p₁ p₂ w o₂.0 ∙ same_rows (next_token s) p p₁ o o₁.0;
      tokens = (version_meets v₁).tokens;
    }))))))))))))))

-- A module, where there is room for so many rows and declarations, and so many frames may be open in one term.
pub record ModuleRead (s : List ℕ) (limit room frames : ℕ) (ds : List Declaration) (q : Position) : Type 0 where
  pub derives : Derives s ds
  pub rows : q.rows ≡ total 0 ds
  pub few_rows : q.rows ≤ limit
  pub few_declarations : length ds ≤ room
  pub shallow : deepest ds ≤ frames

pub sound : (s : List ℕ) (limit room frames : ℕ) (ds : List Declaration) (q : Position) → read_module s limit room frames start ≡ done ds q → ModuleRead s limit room frames ds q
unfolding read_module
sound s limit room frames ds q e =
    after_elim (head-reader s start) _ ds q e (λ h p f e₁.
    let a = head_done s start p h f in
    let b = declarations_done h.edition s limit frames room p q ds e₁ in
    let rest = b.derived.tokens in
    record {
      derives = record {
        tokens = a.nine ++ rest;
        lexed = run_tokens a.run (subst (λ (T : List ℕ → ℕ → Lexed). Tokens (T s) p.offset rest) a.tokens b.derived.lexed);
        edition = h.edition;
        name = h.name;
        rest = rest;
        head = head_before a.derived rest;
        declarations = b.derived.derived;
      };
      rows = b.rows ∙ ap (λ (m : ℕ). total m ds) a.rows;
      few_rows = b.room (omega (arith, a.rows));
      few_declarations = b.count;
      shallow = b.depth;
    })
