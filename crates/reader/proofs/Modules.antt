-- A module: its head, then its declarations.
use Rattle.reader.specs.Answers.{DeclarationsRead, ModuleMeasured, ModuleRead, declarations_read, measured}
use Rattle.surface.specs.Answer.{loaded}
use Rattle.expects.specs.Answers.{HeadRead}
use Rattle.std.specs.Prelude.{Ok, Err}
use mathlib.Core.Path.{◌≡◌, refl, sym, ◌∙◌, ap, ap₂}
use mathlib.Core.List.{List, [], ◌∷◌}
use mathlib.Core.Bool.{Bool}
use Prim.Native.Nat.{ℕ, ◌≤◌}
use native.Mathlib.Omega.{arith}
use lib.ListN.{length}
use Rattle.token.specs.Token.{byte_class, layout_end, token_here, next_token, Lexed}
use Rattle.token.specs.declared.TokenKind.{TokenKind}
use Rattle.token.specs.declared.Token.{Token}
use Rattle.token.specs.declared.Refusal.{Refusal}
use Rattle.core_token.specs.CoreToken.{core_class, core_atom_from, core_token_from, next_core_token}
use Rattle.core_text.specs.TextReading.{text_edition}
use Rattle.terms.specs.Forms.{edition_0_1, edition_0_2, holds_span, holds_span_in}
use Rattle.terms.proofs.Arrow.{holds_same}
use Rattle.terms.specs.Label.{Declaration}
use Rattle.terms.specs.Rows.{row_holding, rows_by, joined}
use Rattle.surface.specs.Reader.{start, Result, done, refused, Reader}
use Rattle.surface.specs.Text.{is_end}
use Rattle.surface.specs.Reading.{name, declarations, read_module}
use Rattle.surface.proofs.SoundModule.{head_done}
use Rattle.tables.specs.Tables.{with_words}
use Rattle.expects.specs.Expects.{position_at, head_read, Heads}
use Rattle.expects.proofs.Heads.{head_got}
use Rattle.expects.specs.declared.Format.{Format}
use Rattle.expects.specs.Formats.{edition, declared_name, ends}
use Rattle.reader.specs.declared.Limits.{Limits}
use Rattle.reader.specs.declared.ModuleSize.{ModuleSize}
use Rattle.surface.specs.Sizes.{deepest}
use Rattle.reader.specs.ModuleWords.{whole_term}
use Rattle.reader.specs.Parts.{ReadsDeclarations}
use Rattle.reader.specs.Reads.{Holds, ModuleInside, Measures, ReadsModule}
use Rattle.reader.proofs.Answers.{inside_first, all_from, all_refused, all_read}

-- A format whose tokens are those of a source has its names, its end and its rows.
record OfSource (f : Format) : Type 0 where
  names : (s : List ℕ) → name (edition f) s ≡ declared_name f s
  ending : is_end ≡ ends f
  spans : holds_span_in (edition f).forms ≡ holds_span

abbrev start_of : Lexed → ℕ
start_of (Ok t) = t.start
start_of (Err r) = 0

-- A comment is layout in a source and an atom in a core text.
other_tokens : next_core_token ≡ next_token → ⊥
unfolding next_core_token core_token_from core_atom_from core_class next_token layout_end token_here byte_class
other_tokens e =
    let z : ◌≡◌ {A = ℕ} 0 1 = ap (λ (T : List ℕ → ℕ → Lexed). start_of (T (59 ∷ []) 0)) e in
    omega arith

of_source : (f : Format) → (edition f).tokens ≡ next_token → OfSource f
unfolding edition_0_1 edition_0_2 text_edition
of_source Format.Surface01 e = record { names = λ s. refl; ending = refl; spans = λ i k. holds_same k i }
of_source Format.Surface02 e = record { names = λ s. refl; ending = refl; spans = refl }
of_source Format.Core01 e = absurd (other_tokens e)

module _ (limits : Limits) (s table list : List ℕ) (x : HeadRead) (h : Heads s x) where
  abbrev answer : Result (List Declaration)
  answer = read_module s limits.rows limits.declarations 512 start

  pub head_refused : (r : Refusal) → x ≡ Err r → (table₁ list₁ : List ℕ) → Measures limits answer table list (Err r) table₁ list₁
  unfolding read_module
  head_refused r e table₁ list₁ = rw (h 0, e) refl

  module _ (format : Format) (t : Token) (next : ℕ) (e : x ≡ Ok (record { format = format; name = t; next = next })) where
    source : OfSource format
    source = of_source format (head_done s start _ _ (h 0 ∙ ap (head_read 0) e)).tokens

    -- What stands behind the head.
    behind_head : answer ≡ all_from format limits s next
    unfolding read_module
    behind_head =
        rw (h 0, e)
        (ap₂ (λ (n : Reader Token) (b : TokenKind → Bool). declarations (edition format) s (whole_term format s limits.rows) n b limits.declarations (position_at next 0))
        (source.names s) source.ending)

    -- The answer r for the declarations.
    module _ (work : List ℕ) (short : length s ≤ 4294967295) (wide : 5632 ≤ length work) (r : DeclarationsRead) (table₁ list₁ : List ℕ)
        (g : ReadsDeclarations format limits s table list work next r table₁ list₁) where
      first : ModuleInside limits.rows s work next 0
      first = inside_first limits.rows s work next short wide (head_got s x h format t next e 0).ahead.high

      pub module_refused : (c : Refusal) → r ≡ Err c → Measures limits answer table list (Err c) table₁ list₁
      module_refused c i = rw (behind_head ∙ all_refused format limits s table list work next first r table₁ list₁ g c i) refl

      pub module_done : (n k at top : ℕ) → r ≡ declarations_read n k at top → Measures limits answer table list (measured n k top) table₁ list₁
      module_done n k at top i =
          let a = all_read format limits s table list work next first r table₁ list₁ g n k at top i in
          rw (behind_head ∙ a.read) (
            ap₂ (measured n) a.count a.frames,
            λ holds. a.rows holds ∙ ap (λ (b : ℕ → Bool). with_words table 0 (joined (rows_by (row_holding b) 0 a.declarations))) source.spans,
            a.records,
          )

-- Tables that hold as much as there is room for, and the frames are not told.
module _ (limits : Limits) (x : Result (List Declaration)) (table list : List ℕ) (r : ModuleMeasured) (table₁ list₁ : List ℕ)
    (a : Holds 8 limits.rows table) (b : Holds 5 limits.declarations list) (h : Measures limits x table list r table₁ list₁) where
  pub whole_refused : (c : Refusal) → r ≡ Err c → ReadsModule x table list (Err c) table₁ list₁
  whole_refused c e = by x h
    where
      by : (y : Result (List Declaration)) → Measures limits y table list r table₁ list₁ → ReadsModule y table list (Err c) table₁ list₁
      by (refused z) g = ap {B = ModuleRead} Err (cc)
      by (done ds q) g = absurd (let z : ◌≡◌ {A = ℕ} 0 1 = cc g.0 in omega arith)

  pub whole_done : (n k top : ℕ) → r ≡ measured n k top → ReadsModule x table list (loaded n k) table₁ list₁
  whole_done n k top e = by x h
    where
      by : (y : Result (List Declaration)) → Measures limits y table list r table₁ list₁ → ReadsModule y table list (loaded n k) table₁ list₁
      by (refused z) g = absurd (let z : ◌≡◌ {A = ℕ} 0 1 = cc in omega arith)
      by (done ds q) g =
          let is : ◌≡◌ {A = ModuleSize} (record { rows = q.rows; declarations = length ds; frames = deepest ds }) (record { rows = n; declarations = k; frames = top }) = cc g.0 in
          (λ i. loaded (sym is i).rows (sym is i).declarations, g.1 a, g.2 b)
