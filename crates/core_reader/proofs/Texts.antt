-- A core text: its head, its declarations, and the end.
use Rattle.token.specs.Token.{Lexed}
use Rattle.std.specs.Prelude.{Ok, Err}
use mathlib.Core.Path.{◌≡◌, refl, sym, ◌∙◌, ap, subst}
use mathlib.Core.List.{List, [], ◌∷◌}
use Prim.Native.Nat.{ℕ, suc, ◌+◌, ◌/◌, ◌≤◌}
use native.Mathlib.Omega.{arith}
use lib.ListN.{length}
use Rattle.token.specs.declared.Token.{Token}
use Rattle.token.specs.declared.Refusal.{Refusal}
use Rattle.words.specs.Words.{ascii}
use Rattle.core_token.specs.CoreToken.{next_core_token}
use Rattle.terms.specs.Tree.{nil, Tree, tree, maybe, next}
use Rattle.terms.specs.Label.{Label, Declaration, trees}
use Rattle.terms.proofs.Cells.{next_cells}
use Rattle.terms.proofs.Widths.{total}
use Rattle.surface.specs.Reader.{Position, start, Result, Reader, after, ◌>>=◌, pure}
use Rattle.surface.specs.Text.{is_close}
use Rattle.surface.specs.Reading.{term, closing, lexed, beginning, declarations}
use Rattle.core_text.specs.TextReading.{text_edition, string, end_token, declarations_line, read_text}
use Rattle.expects.specs.declared.Format.{Format}
use Rattle.expects.specs.Expects.{position_at, Reads}
use Rattle.expects.specs.Lines.{tag}
use Rattle.expects.proofs.Gives.{given}
use Rattle.expects.proofs.Ahead.{Ahead, source, tag_ahead}
use Rattle.expects.proofs.Lines.{after_after}
use Rattle.reader.specs.declared.Limits.{Limits}
use Rattle.reader.specs.Answers.{DeclarationsRead, ModuleRead, declarations_read}
use Rattle.surface.specs.Answer.{loaded}
use Rattle.reader.specs.Parts.{ReadsDeclarations}
use Rattle.reader.proofs.Answers.{inside_first, all_from, all_refused, all_read}
use Rattle.core_reader.specs.Heads.{Passed, head, text_end, behind_tag, passed, Passes}
use Rattle.core_reader.specs.Texts.{ReadsWhole, ReadsBehind}
use Rattle.core_reader.proofs.Flat.{behind, flat, declarations_tag}

-- The end is two tokens.
ends : {B : Type 0} (s : List ℕ) (k : Reader B) (p : Position) → (text_end s >>= (λ e. k)) p ≡ (closing (next_core_token s) >>= (λ c. end_token (next_core_token s) >>= (λ e. k))) p
unfolding text_end
ends s k p =
    after_after (closing (next_core_token s) p) _ _
    ∙ behind (closing (next_core_token s) p) _ _ (λ c q. after_after (end_token (next_core_token s) q) _ _)

-- A declaration has a row at least.
few : (n : ℕ) (ds : List Declaration) → n + length ds ≤ total n ds
few n [] = omega arith
few n (d ∷ l) = let r = maybe d.body nil (λ (b : Tree Label). tree b nil) in omega (arith, few (next n (trees d)) l, next_cells n d.type.args, next_cells (suc (next n d.type.args)) r)

-- Declarations that were read in the format of core text.
pub core_declarations : (f : Format) (limits : Limits) (s table list work : List ℕ) (from : ℕ) (r : DeclarationsRead) (table₁ list₁ : List ℕ) → f ≡ Format.Core01
    → ReadsDeclarations f limits s table list work from r table₁ list₁ → ReadsDeclarations Format.Core01 limits s table list work from r table₁ list₁
core_declarations f limits s table list work from r table₁ list₁ e h = subst (λ (g : Format). ReadsDeclarations g limits s table list work from r table₁ list₁) e h

-- What stands behind the declarations' tag.
module _ (s table list work : List ℕ) (at : ℕ) where
  abbrev limits : Limits
  limits = record { rows = length table / 8; declarations = length list / 5 }

  abbrev answer : Result (List Declaration)
  answer = behind_tag s (length table / 8) (length list / 5) (position_at at 0)

  from_here : answer ≡ after (all_from Format.Core01 limits s at) (λ ds. text_end s >>= (λ e. pure ds))
  unfolding behind_tag text_edition
  from_here = refl

  module _ (x : DeclarationsRead) (table₁ list₁ : List ℕ) (g : ReadsDeclarations Format.Core01 limits s table list work at x table₁ list₁) where
    pub declarations_refused : (r : Refusal) → x ≡ Err r → ReadsBehind answer s table list work at (Err r) table₁ list₁
    declarations_refused r e = λ short wide within.
        let i = inside_first limits.rows s work at short (omega arith) within in
        rw (from_here ∙ ap (λ y. after y (λ ds. text_end s >>= (λ e. pure ds))) (all_refused Format.Core01 limits s table list work at i x table₁ list₁ g r e)) refl

    module _ (n k next frames : ℕ) (e : x ≡ declarations_read n k next frames) (y : Passed) (h : Passes (text_end s) next y) where
      pub end_refused : (r : Refusal) → y ≡ Err r → ReadsBehind answer s table list work at (Err r) table₁ list₁
      end_refused r j = λ short wide within.
          let i = inside_first limits.rows s work at short (omega arith) within in
          let a = all_read Format.Core01 limits s table list work at i x table₁ list₁ g n k next frames e in
          rw (from_here ∙ ap (λ y. after y (λ ds. text_end s >>= (λ e. pure ds))) a.read ∙ ap (λ y. after y (λ e. pure a.declarations)) (h n ∙ ap (passed n) j)) refl

      pub text_done : (end : ℕ) → y ≡ Ok end → ReadsBehind answer s table list work at (loaded n k) table₁ list₁
      unfolding text_edition
      text_done end j = λ short wide within.
          let i = inside_first limits.rows s work at short (omega arith) within in
          let a = all_read Format.Core01 limits s table list work at i x table₁ list₁ g n k next frames e in
          rw (from_here ∙ ap (λ y. after y (λ ds. text_end s >>= (λ e. pure ds))) a.read ∙ ap (λ y. after y (λ e. pure a.declarations)) (h n ∙ ap (passed n) j))
          (ap (loaded n) a.count, a.rows (omega arith), a.records (omega arith), omega (arith, few 0 a.declarations, a.onward.rows, a.onward.slow, a.onward.high, short))

-- A whole text.
module _ (s table list work : List ℕ) (x : Passed) (h : Passes (head s) 0 x) where
  abbrev whole : Result (List Declaration)
  whole = read_text s (length table / 8) (length list / 5) 512 start

  abbrev all : Reader (List Declaration)
  all = declarations text_edition s (term (beginning text_edition s) (closing (next_core_token s)) (length table / 8) 512) (string (next_core_token s)) is_close (length list / 5)

  abbrev finished : List Declaration → Reader (List Declaration)
  finished ds = closing (next_core_token s) >>= (λ c. end_token (next_core_token s) >>= (λ e. pure ds))

  abbrev from_tag : Token → Reader (List Declaration)
  from_tag w = all >>= finished

  abbrev from_head : Unit {0} → Reader (List Declaration)
  from_head u = declarations_line s >>= from_tag

  headed : whole ≡ after (head s start) (λ u. tag (next_core_token s) s (ascii "declarations") >>= (λ w. behind_tag s (length table / 8) (length list / 5)))
  unfolding read_text behind_tag
  headed =
      ap (λ y. after y from_head) (sym (flat s start))
      ∙ behind (head s start) from_head _ (λ u q. ap (λ y. after y from_tag) (declarations_tag s q)
      ∙ behind (tag (next_core_token s) s (ascii "declarations") q) from_tag _ (λ w r. behind (all r) finished _ (λ ds v. sym (ends s (pure ds) v))))

  pub head_stops : (r : Refusal) → x ≡ Err r → (table₁ list₁ : List ℕ) → ReadsWhole s table list work (Err r) table₁ list₁
  head_stops r e table₁ list₁ = λ short wide. rw (headed, h 0, e) refl

  module _ (next : ℕ) (e : x ≡ Ok next) (y : Lexed) (g : Reads (tag (next_core_token s) s (ascii "declarations")) next y) where
    pub tag_stops : (r : Refusal) → y ≡ Err r → (table₁ list₁ : List ℕ) → ReadsWhole s table list work (Err r) table₁ list₁
    tag_stops r i table₁ list₁ = λ short wide. rw (headed, h 0, e, g 0, i) refl

    pub tag_goes : (w : Token) → y ≡ Ok w → (r : ModuleRead) (table₁ list₁ : List ℕ)
        → ReadsBehind (behind_tag s (length table / 8) (length list / 5) (position_at w.end 0)) s table list work w.end r table₁ list₁
        → ReadsWhole s table list work r table₁ list₁
    unfolding text_edition
    tag_goes w i r table₁ list₁ b = λ short wide.
        rw (headed, h 0, e, g 0, i)
        (b short wide (given (λ (t : Token) (q : Position). (t.end ≤ length s) × Ahead s (position_at next 0) q) (tag_ahead (source Format.Core01 s) (ascii "declarations") (position_at next 0)) (g 0 ∙ ap (lexed 0) i)).0)
