-- What stands next in a module: the end, a declaration, or what is refused.
use Rattle.reader.specs.Answers.{DeclarationRead, DeclarationsRead, Stepped, declaration_read, declarations_read}
use Rattle.token.specs.declared.Class.{Class}
use Rattle.token.specs.Token.{Lexed}
use Rattle.std.specs.Prelude.{Ok, Err}
use mathlib.Core.Path.{◌≡◌, refl, sym, ◌∙◌, ap, ap₂, subst}
use mathlib.Core.List.{List, [], ◌∷◌, ◌++◌, map}
use mathlib.Core.Bool.{true, false}
use Prim.Native.Nat.{ℕ, zero, suc, ◌+◌, ◌-◌, ◌*◌, ◌/◌, ◌≤◌, ◌<◌, max}
use native.Mathlib.Omega.{arith}
use lib.ListN.{length}
use Rattle.token.specs.declared.TokenKind.{TokenKind}
use Rattle.token.specs.declared.Token.{Token}
use Rattle.token.specs.declared.Refusal.{Refusal}
use Rattle.terms.specs.Label.{Declaration, trees}
use Rattle.terms.specs.Tree.{next, roots, cells}
use Rattle.terms.specs.Rows.{joined, read_record, read_records}
use Rattle.terms.proofs.Tables.{length_pad}
use Rattle.surface.specs.Reader.{Position, Result, done, refused, Reader, after, ◌>>=◌, ◌>>◌, pure, refuse, require, nowhere, at_token}
use Rattle.surface.specs.Reading.{lexed, token, ending, onwards, declarations}
use Rattle.surface.specs.Sizes.{frames_of, deepest}
use Rattle.tables.specs.Tables.{with_words}
use Rattle.expects.specs.Expects.{position_at}
use Rattle.term_rows.proofs.StoredRows.{with_no_words, with_more_words}
use Rattle.expects.proofs.Ahead.{source, TokenAhead, token_got}
use Rattle.expects.specs.declared.Format.{Format}
use Rattle.expects.specs.Formats.{edition, declared_name, ends}
use Rattle.reader.specs.declared.Limits.{Limits}
use Rattle.reader.specs.declared.ReadDeclaration.{ReadDeclaration}
use Rattle.reader.specs.ModuleWords.{whole_term, one_declaration, all_declarations, format_row, format_rows, row_words}
use Rattle.reader.specs.Parts.{ReadsFrom, left, Went, as_step, ModuleStepped, HasRoom}
use Rattle.reader.specs.Reads.{Holds, ModuleInside, Declares}
use Rattle.reader.proofs.Ahead.{declaration_onward}
use Rattle.reader.proofs.Words.{joined_append, length_forest}

module _ (format : Format) (s : List ℕ) (limit : ℕ) where
  -- What stands behind an opening parenthesis, where there is room for so many declarations.
  abbrev more : ℕ → Reader (List Declaration)
  more zero = refuse (nowhere Class.DeclarationsFull)
  more (suc m) = one_declaration format s limit >>= (λ d. all_declarations format s limit m >>= (λ l. pure (d ∷ l)))

  abbrev tokens : ℕ → Lexed
  tokens = (edition format).tokens s

  -- What stands at a token of a kind, or behind it.
  abbrev going : ℕ → Token → TokenKind → Reader (List Declaration)
  going room t k = onwards (edition format) s (whole_term format s limit) (declared_name format s) (ends format) (more room) t k

  first_token : (room : ℕ) (p : Position) → all_declarations format s limit room p ≡ (token tokens >>= (λ t. going room t t.kind)) p
  unfolding declarations
  first_token zero p = refl
  first_token (suc m) p = refl

  module _ (at n room : ℕ) (x : Lexed) (h : x ≡ tokens at) where
    abbrev answer : Result (List Declaration)
    answer = all_declarations format s limit room (position_at at n)

    pub next_refused : (r : Refusal) → x ≡ Err r → answer ≡ refused r
    unfolding token
    next_refused r e = first_token room _ ∙ rw (sym h ∙ e)

    module _ (t : Token) (e : x ≡ Ok t) where
      on_kind : (k : TokenKind) → t.kind ≡ k → answer ≡ going room t k (position_at t.end n)
      unfolding token
      on_kind k q = first_token room _ ∙ rw (sym h ∙ e, q)

      pub next_full : t.kind ≡ TokenKind.LParen → room ≡ 0 → (r : Refusal) → r ≡ nowhere Class.DeclarationsFull → answer ≡ refused r
      unfolding onwards
      next_full q z r i = on_kind TokenKind.LParen q ∙ ap (λ (j : ℕ). more j (position_at t.end n)) z ∙ ap refused (sym i)

      -- A token that is no opening parenthesis.
      module _ (other : t.kind ≡ TokenKind.LParen → ⊥) where
        on_other : answer ≡ (require (ends format t.kind) (at_token Class.Malformed t) >> pure []) (position_at t.end n)
        unfolding onwards ending
        on_other = by t.kind refl
          where
            by : (k : TokenKind) → t.kind ≡ k → answer ≡ (require (ends format k) (at_token Class.Malformed t) >> pure []) (position_at t.end n)
            by TokenKind.LParen q = absurd (other q)
            by TokenKind.RParen q = on_kind TokenKind.RParen q
            by TokenKind.Atom q = on_kind TokenKind.Atom q
            by TokenKind.String q = on_kind TokenKind.String q
            by TokenKind.Eof q = on_kind TokenKind.Eof q

        pub next_end : ends format t.kind ≡ true → answer ≡ done [] (position_at t.end n)
        next_end q = on_other ∙ rw q

        pub next_other : ends format t.kind ≡ false → (r : Refusal) → r ≡ at_token Class.Malformed t → answer ≡ refused r
        next_other q r i = on_other ∙ rw q (ap refused (sym i))

      pub next_opens : t.kind ≡ TokenKind.LParen → (m : ℕ) → room ≡ suc m
          → answer ≡ after (one_declaration format s limit (position_at t.end n)) (λ d. all_declarations format s limit m >>= (λ l. pure (d ∷ l)))
      unfolding onwards
      next_opens q m z = on_kind TokenKind.LParen q ∙ ap (λ (j : ℕ). more j (position_at t.end n)) z

-- The end: nothing more is stored.
pub ends_here : (format : Format) (limits : Limits) (s table list : List ℕ) (at n k : ℕ) (x : Lexed) → x ≡ (edition format).tokens s at → (t : Token) → x ≡ Ok t
    → (t.kind ≡ TokenKind.LParen → ⊥) → ends format t.kind ≡ true → (top : ℕ) → ReadsFrom format limits n k top (left format limits s at n k) table list (declarations_read n k t.end top) table list
ends_here format limits s table list at n k x h t e other q top =
    rw (next_end format s limits.rows at n (limits.declarations - k) x h t e other q)
    (ap₂ (λ (i j : ℕ). declarations_read n i t.end j) (let z : k ≡ k + 0 = omega arith in z) (let z : top ≡ max top 0 = omega arith in z), λ holds. sym (with_no_words table (n * 8)), λ holds. sym (with_no_words list (k * 5)))

-- A declaration d behind n rows and k declarations, and then others.
module _ (format : Format) (limits : Limits) (n k n₁ : ℕ) (table list table₁ list₁ : List ℕ) (d : Declaration) (rows : n₁ ≡ next n (trees d)) (few : n₁ ≤ limits.rows) (room : k < limits.declarations)
    (long : length table₁ ≡ length table) (far : length list₁ ≡ length list)
    (u : Holds 8 limits.rows table → table₁ ≡ with_words table (n * 8) (row_words format n d)) (v : Holds 5 limits.declarations list → list₁ ≡ with_words list (k * 5) (read_record n d)) where
  more_rows : Holds 8 limits.rows table → (ds : List Declaration) → with_words table₁ (n₁ * 8) (joined (format_rows format n₁ ds)) ≡ with_words table (n * 8) (joined (format_rows format n (d ∷ ds)))
  more_rows holds ds =
      ap (λ (l : List ℕ). with_words l (n₁ * 8) (joined (format_rows format n₁ ds))) (u holds)
      ∙ with_more_words table (n * 8) (n₁ * 8) (row_words format n d) (joined (format_rows format n₁ ds)) (omega (arith, length_forest format n (trees d), rows)) (omega arith)
      ∙ ap (λ (i : ℕ). with_words table (n * 8) (row_words format n d ++ joined (format_rows format i ds))) rows
      ∙ ap (with_words table (n * 8)) (sym (joined_append (map (format_row format) (cells n (trees d))) (format_rows format (next n (trees d)) ds)))

  more_records : Holds 5 limits.declarations list → (ds : List Declaration) → with_words list₁ ((k + 1) * 5) (joined (read_records n₁ ds)) ≡ with_words list (k * 5) (joined (read_records n (d ∷ ds)))
  more_records holds ds =
      ap (λ (l : List ℕ). with_words l ((k + 1) * 5) (joined (read_records n₁ ds))) (v holds)
      ∙ with_more_words list (k * 5) ((k + 1) * 5) (read_record n d) (joined (read_records n₁ ds)) (omega (arith, length_pad 2 (roots n (trees d)))) (omega arith)
      ∙ ap (λ (i : ℕ). with_words list (k * 5) (read_record n d ++ joined (read_records i ds))) rows

  pub further : (top : ℕ) (y : Result (List Declaration)) (r : DeclarationsRead) (table₂ list₂ : List ℕ)
      → ReadsFrom format limits n₁ (k + 1) (max top (frames_of (trees d))) y table₁ list₁ r table₂ list₂
      → ReadsFrom format limits n k top (after y (λ l. pure (d ∷ l))) table list r table₂ list₂
  further top (refused x) r table₂ list₂ h = h
  further top (done ds q) r table₂ list₂ h = (
    h.0
        ∙ ap₂ (λ (i j : ℕ). declarations_read q.rows i q.offset j) (let z : k + 1 + length ds ≡ k + suc (length ds) = omega arith in z)
        (let z : max (max top (frames_of (trees d))) (deepest ds) ≡ max top (max (frames_of (trees d)) (deepest ds)) = omega arith in z),
    λ holds. h.1 (subst (λ (i : ℕ). limits.rows ≤ i / 8) (sym long) holds) ∙ more_rows holds ds,
    λ holds. h.2 (subst (λ (i : ℕ). limits.declarations ≤ i / 5) (sym far) holds) ∙ more_records holds ds,
  )

-- A declaration that was read behind the parenthesis t.
module _ (format : Format) (limits : Limits) (s table list : List ℕ) (at n k : ℕ) (work work₁ : List ℕ) (inside : ModuleInside limits.rows s work at n) (room : k < limits.declarations) (x : Lexed) (h : x ≡ (edition format).tokens s at)
    (t : Token) (e : x ≡ Ok t) (opens : t.kind ≡ TokenKind.LParen) where
  opened : TokenAhead s (position_at at n) t (position_at t.end n)
  unfolding token
  opened = token_got (source format s) _ t _ (ap (lexed n) (sym h ∙ e)) (λ i. let z : ◌≡◌ {A = ℕ} 0 1 = cc in omega arith)

  behind_parenthesis : ModuleInside limits.rows s work t.end n
  behind_parenthesis = record { source = inside.source; area = inside.area; within = opened.high; few = omega (arith, opened, inside.few); stored = inside.stored }

  abbrev one : Result Declaration
  one = one_declaration format s limits.rows (position_at t.end n)

  abbrev others : ℕ
  others = limits.declarations - (k + 1)

  opens_to : left format limits s at n k ≡ after one (λ d. all_declarations format s limits.rows others >>= (λ l. pure (d ∷ l)))
  opens_to = next_opens format s limits.rows at n (limits.declarations - k) x h t e opens others (omega arith)

  module _ (y : DeclarationRead) (table₁ list₁ : List ℕ) (u : length table₁ ≡ length table) (v : length list₁ ≡ length list) (w : length work₁ ≡ length work)
      (g : ModuleInside limits.rows s work t.end n → k < limits.declarations → Declares format limits one n k table list y table₁ list₁) where
    declaration_stops : (r : Refusal) → y ≡ Err r → left format limits s at n k ≡ refused r
    declaration_stops r i = by one refl (g behind_parenthesis room)
      where
        by : (z : Result Declaration) → one ≡ z → Declares format limits z n k table list y table₁ list₁ → left format limits s at n k ≡ refused r
        by (done d q) j f = absurd (let z : ◌≡◌ {A = ℕ} 0 1 = cc f.0 in omega arith)
        by (refused c) j f = opens_to ∙ rw j (ap refused (cc))

    went : (n₁ at₁ own : ℕ) → y ≡ declaration_read n₁ at₁ own → Went format limits s table list at n k at₁ n₁ own table₁ list₁ work₁
    went n₁ at₁ own i = by one refl (g behind_parenthesis room)
      where
        by : (z : Result Declaration) → one ≡ z → Declares format limits z n k table list y table₁ list₁ → Went format limits s table list at n k at₁ n₁ own table₁ list₁ work₁
        by (refused c) j f = absurd (let z : ◌≡◌ {A = ℕ} 0 1 = cc in omega arith)
        by (done d q) j f =
            let same : ◌≡◌ {A = ReadDeclaration} (record { rows = q.rows; next = q.offset; frames = frames_of (trees d) }) (record { rows = n₁; next = at₁; frames = own }) = cc f.0 in
            let is : one ≡ done d (position_at at₁ n₁) = j ∙ (λ i. done d (position_at (same i).next (same i).rows)) in
            let o = declaration_onward format s limits.rows _ _ d is in
            let b = behind_parenthesis in
            let m : n₁ ≤ limits.rows = o.room inside.stored in
            let owned : own ≡ frames_of (trees d) = λ i. (sym same i).frames in
            record {
              inside = record {
                source = inside.source;
                area = omega (arith, inside.area);
                within = o.high b.within;
                few = omega (arith, o.slow, b.few);
                stored = m;
              };
              same = λ top r table₂ list₂ a.
                  subst (λ (l : Result (List Declaration)). ReadsFrom format limits n k top l table list r table₂ list₂)
                  (sym (opens_to ∙ ap (λ (l : Result Declaration). after l (λ d. all_declarations format s limits.rows others >>= (λ l. pure (d ∷ l)))) is))
                  (further format limits n k n₁ table list table₁ list₁ d o.rows m room u v f.1 f.2 top (all_declarations format s limits.rows others (position_at at₁ n₁)) r table₂ list₂
                  (subst (λ (i : ℕ). ReadsFrom format limits n₁ (k + 1) (max top i) (all_declarations format s limits.rows others (position_at at₁ n₁)) table₁ list₁ r table₂ list₂) owned a));
            }

    -- What stood next, then.
    pub declared_step : (r : Stepped) → r ≡ as_step y → ModuleStepped format limits s table list at n k r table₁ list₁ work₁
    declared_step r q = subst (λ (z : Stepped). ModuleStepped format limits s table list at n k z table₁ list₁ work₁) (sym q) (by y refl)
      where
        by : (z : DeclarationRead) → y ≡ z → ModuleStepped format limits s table list at n k (as_step z) table₁ list₁ work₁
        by (Ok d) e = went d.rows d.next d.frames e
        by (Err x) e = declaration_stops x e

pub declared_room : (limits : Limits) (k : ℕ) (y : DeclarationRead) (r : Stepped) → r ≡ as_step y → k < limits.declarations → HasRoom limits k r
declared_room limits k y r q room = subst (HasRoom limits k) (sym q) (by y)
  where
    by : (z : DeclarationRead) → HasRoom limits k (as_step z)
    by (Ok d) = room
    by (Err x) = tt
