-- A declaration behind its parenthesis, by its word.
use Rattle.reader.specs.Answers.{DeclarationRead}
use Rattle.token.specs.declared.Class.{Class}
use Rattle.token.specs.Token.{Lexed}
use Rattle.std.specs.Prelude.{Ok, Err}
use mathlib.Core.Path.{◌≡◌, sym, ◌∙◌, ap, subst}
use mathlib.Core.List.{List}
use Prim.Native.Nat.{ℕ, suc, ◌-◌}
use native.Mathlib.Omega.{arith}
use Rattle.token.specs.declared.Token.{Token}
use Rattle.token.specs.declared.Refusal.{Refusal}
use Rattle.surface.specs.Reader.{Result, refused, at_token}
use Rattle.surface.specs.Reading.{atom, declared, declaration, declaration_kind}
use Rattle.surface.specs.Text.{text}
use Rattle.terms.specs.Label.{Declaration}
use Rattle.expects.specs.Expects.{position_at, Reads}
use Rattle.expects.proofs.Ahead.{source, atom_ahead, read_ahead}
use Rattle.expects.specs.declared.Format.{Format}
use Rattle.expects.specs.Formats.{edition}
use Rattle.reader.specs.declared.Limits.{Limits}
use Rattle.reader.specs.ModuleWords.{named_declaration, one_declaration}
use Rattle.reader.specs.Reads.{ModuleInside, Declares}

-- Reading may go on behind the word.
pub behind_word : (format : Format) (limit : ℕ) (s work : List ℕ) (at n : ℕ) (x : Lexed) → Reads (atom ((edition format).tokens s)) at x → (t : Token) → x ≡ Ok t → ModuleInside limit s work at n
    → ModuleInside limit s work t.end n
behind_word format limit s work at n x h t e i =
    let a = read_ahead s (atom ((edition format).tokens s)) (atom_ahead (source format s)) at x h t e n in
    record { source = i.source; area = i.area; within = a.high; few = omega arith; stored = i.stored }

module _ (format : Format) (s : List ℕ) (limit at n : ℕ) (x : Lexed) (h : Reads (atom ((edition format).tokens s)) at x) where
  pub word_refused : (r : Refusal) → x ≡ Err r → one_declaration format s limit (position_at at n) ≡ refused r
  unfolding declaration
  word_refused r e = rw (h n, e)

  module _ (t : Token) (e : x ≡ Ok t) (kind : ℕ) (is : kind ≡ declaration_kind (text s t)) where
    by_kind : one_declaration format s limit (position_at at n) ≡ named_declaration format s limit t kind (position_at t.end n)
    unfolding declaration
    by_kind = rw (h n, e, is)

    pub other_word : kind ≡ 0 → (r : Refusal) → r ≡ at_token Class.Malformed t → one_declaration format s limit (position_at at n) ≡ refused r
    unfolding declared
    other_word z r i = by_kind ∙ ap (λ (j : ℕ). named_declaration format s limit t j (position_at t.end n)) z ∙ ap refused (sym i)

    -- What stands behind a declaration's word.
    pub word_got : (kind ≡ 0 → ⊥) → (limits : Limits) (k : ℕ) (table list : List ℕ) (r : DeclarationRead) (table₁ list₁ : List ℕ)
        → ((u : Token) (j : ℕ) → kind ≡ suc j → Declares format limits (named_declaration format s limit u (suc j) (position_at t.end n)) n k table list r table₁ list₁)
        → Declares format limits (one_declaration format s limit (position_at at n)) n k table list r table₁ list₁
    word_got z limits k table list r table₁ list₁ d =
        let j : kind ≡ suc (kind - 1) = omega (arith, z) in
        subst (λ (y : Result Declaration). Declares format limits y n k table list r table₁ list₁)
        (ap (λ (i : ℕ). named_declaration format s limit t i (position_at t.end n)) (sym j) ∙ sym by_kind) (d t (kind - 1) j)
