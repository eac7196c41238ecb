-- A declaration by its parts: what the reading order gives, and the words that are stored.
use Rattle.reader.specs.Answers.{DeclarationRead, declaration_read}
use Rattle.expects.specs.Answers.{NameRead}
use Rattle.token.specs.Token.{Lexed}
use Rattle.std.specs.Prelude.{Ok, Err}
use mathlib.Core.Path.{◌≡◌, refl, sym, ◌∙◌, ap, ap₂, subst}
use mathlib.Core.List.{List, [], ◌∷◌, ◌++◌}
use mathlib.Core.Option.{Option, none, some}
use Prim.Native.Nat.{ℕ, suc, ◌-◌, ◌*◌, ◌/◌, ◌≤◌, ◌<◌, max}
use native.Mathlib.Omega.{arith}
use lib.ListN.{length}
use Rattle.token.specs.declared.Token.{Token}
use Rattle.token.specs.declared.Refusal.{Refusal}
use Rattle.terms.specs.Label.{Label, Declaration, trees}
use Rattle.terms.specs.Tree.{nil, Tree, tree, next, roots}
use Rattle.terms.specs.Rows.{pad, read_record}
use Rattle.surface.specs.Reader.{Position, Result, done, refused}
use Rattle.surface.specs.Reading.{closing, declared}
use Rattle.surface.specs.Sizes.{frames_of}
use Rattle.tables.specs.Tables.{with_words}
use Rattle.rows.specs.Places.{stored_at}
use Rattle.rows.proofs.Storing.{stored_at_place}
use Rattle.expects.specs.Expects.{position_at, Reads, Names}
use Rattle.term_rows.proofs.StoredRows.{with_more_words}
use Rattle.expects.specs.declared.Format.{Format}
use Rattle.expects.specs.Formats.{edition}
use Rattle.reader.specs.declared.Limits.{Limits}
use Rattle.reader.specs.ModuleWords.{whole_term, one_body, named_declaration, forest_words, body_trees, body_row}
use Rattle.reader.specs.Parts.{Finishes}
use Rattle.reader.specs.Reads.{Holds, Declares}
use Rattle.reader.proofs.Ahead.{Onward, term_onward}
use Rattle.reader.proofs.Words.{length_forest, forest_split}
use Rattle.reader.proofs.Parts.{TypeRead, BodyRead}

-- The end of a declaration, where x is read for its closing parenthesis.
module _ (format : Format) (s : List ℕ) (at n k frames : ℕ) (list words : List ℕ) (x : Lexed) (h : Reads (closing ((edition format).tokens s)) at x) where
  pub end_refused : (r : Refusal) → x ≡ Err r → Finishes (closing ((edition format).tokens s) (position_at at n)) k frames list words (Err r) list
  end_refused r e = rw (h n, e) (refl, refl)

  pub end_got : (c : Token) → x ≡ Ok c → (list₁ : List ℕ) → list₁ ≡ stored_at 5 list k words
      → Finishes (closing ((edition format).tokens s) (position_at at n)) k frames list words (declaration_read n c.end frames) list₁
  end_got c e list₁ i = rw (h n, e) (refl, i)

-- A declaration of kind 1 + j behind its word, by its parts.
module _ (format : Format) (s : List ℕ) (limit : ℕ) (t : Token) (j at n : ℕ) where
  abbrev pub answer : Result Declaration
  answer = named_declaration format s limit t (suc j) (position_at at n)

  module _ (x : NameRead) (h : Names format s at x) where
    pub name_refused : (r : Refusal) → x ≡ Err r → answer ≡ refused r
    unfolding declared
    name_refused r e = rw (h n, e)

    module _ (m : Token) (at₀ : ℕ) (e : x ≡ Ok (m, at₀)) where
      pub type_refused : (r : Refusal) → whole_term format s limit (position_at at₀ n) ≡ refused r → answer ≡ refused r
      unfolding declared
      type_refused r q = rw (h n, e, q)

      module _ (a : Tree Label) (at₁ n₁ : ℕ) (q₁ : whole_term format s limit (position_at at₀ n) ≡ done a (position_at at₁ n₁)) where
        pub body_refused : (r : Refusal) → one_body format s limit j (position_at at₁ n₁) ≡ refused r → answer ≡ refused r
        unfolding declared
        body_refused r q = rw (h n, e, q₁, q)

        module _ (b : Option (Tree Label)) (at₂ n₂ : ℕ) (q₂ : one_body format s limit j (position_at at₁ n₁) ≡ done b (position_at at₂ n₂)) where
          pub close_refused : (r : Refusal) → closing ((edition format).tokens s) (position_at at₂ n₂) ≡ refused r → answer ≡ refused r
          unfolding declared
          close_refused r q = rw (h n, e, q₁, q₂, q)

          pub declared_done : (c : Token) (p : Position) → closing ((edition format).tokens s) (position_at at₂ n₂) ≡ done c p
              → answer ≡ done (record { kind = suc j; start = m.start; length = m.end - m.start; type = a; body = b }) p
          unfolding declared
          declared_done c p q = rw (h n, e, q₁, q₂, q)

pub stops : (format : Format) (limits : Limits) (y : Result Declaration) (x : Refusal) (n k : ℕ) (table list table₁ list₁ : List ℕ) → y ≡ refused x
    → Declares format limits y n k table list (Err x) table₁ list₁
stops format limits y x n k table list table₁ list₁ e = rw e refl

-- The words of a record.
body_word : (n : ℕ) (b : Option (Tree Label)) → body_row n b ∷ [] ≡ pad 1 (roots n (body_trees b))
body_word n none = refl
body_word n (some b) = refl

-- A declaration whose parts were read and whose end was asked for.
module _ (format : Format) (limits : Limits) (s table list : List ℕ) (at n k : ℕ) (t : Token) (j : ℕ) (x : NameRead) (h : Names format s at x) (m : Token) (at₀ : ℕ) (e : x ≡ Ok (m, at₀))
    (row n₁ at₁ h₁ : ℕ) (table₁ : List ℕ) (long : length table₁ ≡ length table) (a : TypeRead format limits.rows (whole_term format s limits.rows (position_at at₀ n)) n table row n₁ at₁ h₁ table₁)
    (body n₂ at₂ h₂ : ℕ) (table₂ : List ℕ) (b : BodyRead format limits.rows (one_body format s limits.rows j (position_at at₁ n₁)) n₁ table₁ body n₂ at₂ h₂ table₂)
    (stored : n ≤ limits.rows) (room : k < limits.declarations) (top : ℕ) (most : top ≡ max h₁ h₂) where
  abbrev limit : ℕ
  limit = limits.rows

  abbrev words : List ℕ
  words = suc j ∷ m.start ∷ (m.end - m.start) ∷ row ∷ body ∷ []

  abbrev made : Declaration
  made = record { kind = suc j; start = m.start; length = m.end - m.start; type = a.type; body = b.body }

  onward : Onward s limit (position_at at₀ n) (tree a.type nil) (position_at at₁ n₁)
  onward = term_onward format s limit _ _ a.type a.read

  first_row : n₁ ≡ suc (next n a.type.args)
  first_row = onward.rows

  rows_are : Holds 8 limit table → table₂ ≡ with_words table (n * 8) (forest_words format n (trees made))
  rows_are holds =
      let u = forest_words format n (tree a.type nil) in
      let f = body_trees b.body in
      b.words (subst (λ (i : ℕ). limit ≤ i / 8) (sym long) holds)
      ∙ ap (λ (l : List ℕ). with_words l (n₁ * 8) (forest_words format n₁ f)) (a.words holds)
      ∙ with_more_words table (n * 8) (n₁ * 8) u (forest_words format n₁ f) (omega (arith, length_forest format n (tree a.type nil), first_row))
      (omega (arith, onward.room stored))
      ∙ ap (λ (i : ℕ). with_words table (n * 8) (u ++ forest_words format i f)) first_row
      ∙ ap (with_words table (n * 8)) (sym (forest_split format n a.type f))

  record_is : words ≡ read_record n made
  record_is = ap₂ (λ (i : ℕ) (l : List ℕ). suc j ∷ m.start ∷ (m.end - m.start) ∷ i ∷ l) a.row_is
      (ap (λ (i : ℕ). i ∷ []) b.row_is ∙ body_word n₁ b.body ∙ ap (λ (i : ℕ). pad 1 (roots i (body_trees b.body))) first_row)

  frames_are : top ≡ frames_of (trees made)
  frames_are = omega (arith, most, a.frames_are, b.frames_are)

  pub ended : (y : Result Token) → closing ((edition format).tokens s) (position_at at₂ n₂) ≡ y → (r : DeclarationRead) (list₁ : List ℕ) → Finishes y k top list words r list₁
      → Declares format limits (answer format s limit t j at n) n k table list r table₂ list₁
  ended (refused z) q r list₁ f = rw (close_refused format s limit t j at n x h m at₀ e a.type at₁ n₁ a.read b.body at₂ n₂ b.read z q) f.0
  ended (done c p) q r list₁ f =
      rw (declared_done format s limit t j at n x h m at₀ e a.type at₁ n₁ a.read b.body at₂ n₂ b.read c p q)
      (f.0 ∙ ap (declaration_read p.rows p.offset) frames_are, rows_are, λ holds. f.1 ∙ stored_at_place 5 list k words refl (omega arith) (omega arith) ∙ ap (with_words list (k * 5)) record_is)
