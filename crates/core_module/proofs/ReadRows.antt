-- What reading stores: the rows of the declarations that it gives, within the limit; and each of their terms begins where its label says.
use Rattle.token.specs.declared.Class.{Class}
use Rattle.token.specs.Token.{Lexed}
use mathlib.Core.Path.{◌≡◌, refl, sym, ap, ◌∙◌}
use mathlib.Core.List.{List, []}
use mathlib.Core.Option.{Option}
use mathlib.Core.Bool.{Bool, true, false, ◌&&◌}
use Prim.Native.Nat.{ℕ, zero, suc, ◌/◌, ◌≤◌}
use native.Mathlib.Omega.{arith}
use borrow.Author.Tests.{leb-true, eqb-true, not-true}
use lib.ListN.{length}
use Rattle.token.specs.declared.TokenKind.{TokenKind}
use Rattle.token.specs.declared.Token.{Token}
use Rattle.core_token.specs.CoreToken.{next_core_token}
use Rattle.words.specs.Words.{ascii, same_bytes}
use Rattle.utf8.specs.Utf8.{valid_length, byte_order_mark}
use Rattle.terms.specs.Tree as forest
use Rattle.terms.specs.Tree.{Forest, nil, Tree, tree, maybe}
use Rattle.terms.specs.Label.{Label, Declaration, trees}
use Rattle.terms.proofs.Widths.{total}
use Rattle.surface.specs.Text.{text, is_string, is_close, is_end}
use Rattle.surface.specs.Reader.{Position, start, Result, done, refused, Reader, after, require, nowhere}
use Rattle.surface.specs.Reading.{term, token, opening, closing, atom, word, natural, declaration_kind, body, declared, declaration, ending, onwards, declarations}
use Rattle.surface.specs.Tables.{Lengths}
use Rattle.surface.specs.Loading.{frame_limit}
use Rattle.surface.proofs.Steps.{no_done, after_elim, require_elim, done_inj, done_as, same_rows, token_done, opening_done, closing_done, atom_done, word_done, natural_done}
use Rattle.surface.proofs.Sound.{term_done}
use Rattle.core_text.specs.TextReading.{text_edition, string, end_token, zero_one, text_head, declarations_line, read_text}
use Rattle.core_module.specs.CoreText.{told, repeated, reading_text}
use Rattle.core_module.proofs.Begins.{AllLabels, AllModule, begin, term_begins}

module _ (s : List ℕ) (limit frames : ℕ) where
  abbrev next : ℕ → Lexed
  next = next_core_token s

  abbrev whole : Reader (Tree Label)
  whole = term (begin s) (closing next) limit frames

  -- What a reader of terms or declarations does: it stores the rows of what it gives, within the limit.
  record Reads (p : Position) (f : Forest Label) (q : Position) : Type 0 where
    begins : AllLabels s f
    rows : q.rows ≡ forest.next p.rows f
    room : p.rows ≤ limit → q.rows ≤ limit

  whole_reads : (p q : Position) (t : Tree Label) → whole p ≡ done t q → Reads p (tree t nil) q
  unfolding text_edition
  whole_reads p q t e =
      let w = term_done text_edition s limit frames p q t e in
      record { begins = term_begins s limit frames p q t e; rows = w.rows; room = λ _. w.room }

  -- A type, and a body behind it.
  both : (p q r : Position) (t u : Tree Label) → Reads p (tree t nil) q → Reads q (tree u nil) r → Reads p (tree t (tree u nil)) r
  both p q r t u a b = record {
    begins = (a.begins.0, a.begins.1, b.begins);
    rows = b.rows ∙ ap (λ (n : ℕ). forest.next n (tree u nil)) a.rows;
    room = λ h. b.room (a.room h);
  }

  -- Tokens store no row.
  moved : (p p₁ q q₁ : Position) (f : Forest Label) → p₁.rows ≡ p.rows → q₁.rows ≡ q.rows → Reads p₁ f q → Reads p f q₁
  moved p p₁ q q₁ f e g w = record { begins = w.begins; rows = g ∙ w.rows ∙ ap (λ (n : ℕ). forest.next n f) e; room = λ h. omega (arith, g, w.room (omega (arith, e))) }

  string_rows : (p q : Position) (x : Token) → string next p ≡ done x q → q.rows ≡ p.rows
  unfolding string
  string_rows p q x e =
      after_elim (token next p) _ x q e (λ t p₁ f₁ e₁.
      require_elim (is_string t.kind) _ p₁ _ x q e₁ (λ b e₂.
      ap (λ (y : Position). y.rows) (sym (done_inj e₂).1) ∙ same_rows next p p₁ t (token_done next p p₁ t f₁)))

  body_reads : (k : ℕ) (p q r : Position) (t : Tree Label) (b : Option (Tree Label)) → Reads p (tree t nil) q → body text_edition s whole k q ≡ done b r → Reads p (tree t (maybe b nil (λ u. tree u nil))) r
  unfolding body
  body_reads zero p q r t b w e = done_as (λ (x : Option (Tree Label)) (y : Position). Reads p (tree t (maybe x nil (λ u. tree u nil))) y) e w
  body_reads (suc k) p q r t b w e =
      after_elim (whole q) _ b r e (λ u q₁ f₁ e₁.
      done_as (λ (x : Option (Tree Label)) (y : Position). Reads p (tree t (maybe x nil (λ u. tree u nil))) y) e₁ (both p q q₁ t u w (whole_reads q q₁ u f₁)))

  declared_reads : (t : Token) (k : ℕ) (p q : Position) (d : Declaration) → declared text_edition s whole (string next) is_close t k p ≡ done d q → Reads p (trees d) q
  unfolding declared text_edition
  declared_reads t zero p q d e = no_done e
  declared_reads t (suc k) p q d e =
      after_elim (string next p) _ d q e (λ x p₁ f₁ e₁.
      after_elim (whole p₁) _ d q e₁ (λ a p₂ f₂ e₂.
      after_elim (body text_edition s whole k p₂) _ d q e₂ (λ b p₃ f₃ e₃.
      after_elim (closing next p₃) _ d q e₃ (λ c p₄ f₄ e₄.
      done_as (λ (y : Declaration) (r : Position). Reads p (trees y) r) e₄
      (moved p p₁ p₃ p₄ _ (string_rows p p₁ x f₁) (same_rows next p₃ p₄ c (closing_done next p₃ p₄ c f₄).0) (body_reads k p₁ p₂ p₃ a b (whole_reads p₁ p₂ a f₂) f₃))))))

  declaration_reads : (p q : Position) (d : Declaration) → declaration text_edition s whole (string next) is_close p ≡ done d q → Reads p (trees d) q
  unfolding declaration text_edition
  declaration_reads p q d e =
      after_elim (atom next p) _ d q e (λ t p₁ f₁ e₁.
      moved p p₁ q q _ (same_rows next p p₁ t (atom_done next p p₁ t f₁).0) refl (declared_reads t (declaration_kind (text s t)) p₁ q d e₁))

  pub record ReadsAll (p : Position) (n : ℕ) (ds : List Declaration) (q : Position) : Type 0 where
    pub begins : AllModule s ds
    pub rows : q.rows ≡ total p.rows ds
    pub room : p.rows ≤ limit → q.rows ≤ limit
    pub few : length ds ≤ n

  ending_reads : (t : Token) (k : TokenKind) (n : ℕ) (p p₁ q : Position) (ds : List Declaration) → p₁.rows ≡ p.rows → ending text_edition s whole (string next) is_close t k p₁ ≡ done ds q → ReadsAll p n ds q
  unfolding ending
  ending_reads t k n p p₁ q ds h e =
      require_elim (is_close k) _ p₁ _ ds q e (λ b e₁.
      done_as (ReadsAll p n) e₁ (record { begins = tt; rows = h; room = λ i. omega (arith, h); few = omega arith }))

  onwards_reads : (more : Reader (List Declaration)) (t : Token) (k : TokenKind) (n : ℕ) (p p₁ q : Position) (ds : List Declaration) → p₁.rows ≡ p.rows
      → (more p₁ ≡ done ds q → ReadsAll p n ds q) → onwards text_edition s whole (string next) is_close more t k p₁ ≡ done ds q → ReadsAll p n ds q
  unfolding onwards
  onwards_reads more t TokenKind.LParen n p p₁ q ds h m e = m e
  onwards_reads more t TokenKind.RParen n p p₁ q ds h m e = ending_reads t TokenKind.RParen n p p₁ q ds h e
  onwards_reads more t TokenKind.Atom n p p₁ q ds h m e = ending_reads t TokenKind.Atom n p p₁ q ds h e
  onwards_reads more t TokenKind.String n p p₁ q ds h m e = ending_reads t TokenKind.String n p p₁ q ds h e
  onwards_reads more t TokenKind.Eof n p p₁ q ds h m e = ending_reads t TokenKind.Eof n p p₁ q ds h e

  pub declarations_read : (n : ℕ) (p q : Position) (ds : List Declaration) → declarations text_edition s whole (string next) is_close n p ≡ done ds q → ReadsAll p n ds q
  unfolding declarations text_edition
  declarations_read zero p q ds e =
      after_elim (token next p) _ ds q e (λ t p₁ f₁ e₁.
      onwards_reads _ t t.kind 0 p p₁ q ds (same_rows next p p₁ t (token_done next p p₁ t f₁)) (λ g. no_done g) e₁)
  declarations_read (suc n) p q ds e =
      after_elim (token next p) _ ds q e (λ t p₁ f₁ e₁.
      let r = same_rows next p p₁ t (token_done next p p₁ t f₁) in
      onwards_reads _ t t.kind (suc n) p p₁ q ds r (λ g.
      after_elim (declaration text_edition s whole (string next) is_close p₁) _ ds q g (λ d p₂ f₂ e₂.
      after_elim (declarations text_edition s whole (string next) is_close n p₂) _ ds q e₂ (λ l p₃ f₃ e₃.
      let w = declaration_reads p₁ p₂ d f₂ in
      let v = declarations_read n p₂ p₃ l f₃ in
      done_as (ReadsAll p (suc n)) e₃ (record {
        begins = (w.begins, v.begins);
        rows = v.rows ∙ ap (λ (m : ℕ). total m l) (w.rows ∙ ap (λ (m : ℕ). forest.next m (trees d)) r);
        room = λ i. v.room (w.room (omega (arith, r)));
        few = omega (arith, v.few);
      })))) e₁)

-- Readers that store no row.
abbrev Keeps : {A : Type 0} → Reader A → Type 0
Keeps {A} r = (p q : Position) (a : A) → r p ≡ done a q → q.rows ≡ p.rows

then_keeps : {A B : Type 0} (r : Reader A) (k : A → Reader B) → Keeps r → ((a : A) → Keeps (k a)) → Keeps (λ p. after (r p) k)
then_keeps r k h g p q b e = after_elim (r p) k b q e (λ a p₁ f e₁. g a p₁ q b e₁ ∙ h p p₁ a f)

module _ (s : List ℕ) where
  abbrev tokens : ℕ → Lexed
  tokens = next_core_token s

  opening_keeps : Keeps (opening tokens)
  opening_keeps p q t e = same_rows tokens p q t (opening_done tokens p q t e).0

  closing_keeps : Keeps (closing tokens)
  closing_keeps p q t e = same_rows tokens p q t (closing_done tokens p q t e).0

  word_keeps : (w : List ℕ) → Keeps (word tokens s w)
  word_keeps w p q t e = same_rows tokens p q t (word_done tokens s w p q t e).0

  natural_keeps : Keeps (natural tokens s)
  natural_keeps p q t e = same_rows tokens p q t (natural_done tokens s p q t e).0

  string_keeps : Keeps (string tokens)
  string_keeps p q t e = string_rows s 0 0 p q t e

  end_keeps : Keeps (end_token tokens)
  unfolding end_token
  end_keeps p q x e =
      after_elim (token tokens p) _ x q e (λ t p₁ f₁ e₁.
      require_elim (is_end t.kind) _ p₁ _ x q e₁ (λ b e₂.
      ap (λ (y : Position). y.rows) (sym (done_inj e₂).1) ∙ same_rows tokens p p₁ t (token_done tokens p p₁ t f₁)))

  require_keeps : (b : Bool) → Keeps (require b (nowhere Class.Version))
  require_keeps true p q a e = ap (λ (y : Position). y.rows) (sym (done_inj e).1)
  require_keeps false p q a e = no_done e

  head_keeps : Keeps (text_head s)
  unfolding text_head
  head_keeps =
      then_keeps _ _ opening_keeps (λ o. then_keeps _ _ (word_keeps _) (λ w. then_keeps _ _ opening_keeps (λ x. then_keeps _ _ (word_keeps _) (λ v.
      then_keeps _ _ natural_keeps (λ a. then_keeps _ _ natural_keeps (λ b. then_keeps _ _ closing_keeps (λ c.
      then_keeps _ _ opening_keeps (λ y. then_keeps _ _ (word_keeps _) (λ u. then_keeps _ _ string_keeps (λ n.
      then_keeps _ _ natural_keeps (λ d. then_keeps _ _ natural_keeps (λ e. then_keeps _ _ closing_keeps (λ f.
      require_keeps (zero_one s a b && (same_bytes (text s n) (ascii "mltt-core") && zero_one s d e)))))))))))))))

  line_keeps : Keeps (declarations_line s)
  unfolding declarations_line
  line_keeps = then_keeps _ _ opening_keeps (λ o. word_keeps (ascii "declarations"))

  text_reads : (limit room frames : ℕ) (q : Position) (ds : List Declaration) → read_text s limit room frames start ≡ done ds q → ReadsAll s limit frames start room ds q
  unfolding read_text
  text_reads limit room frames q ds e =
      after_elim (text_head s start) _ ds q e (λ h p₁ f₁ e₁.
      after_elim (declarations_line s p₁) _ ds q e₁ (λ l p₂ f₂ e₂.
      after_elim (declarations text_edition s (whole s limit frames) (string tokens) is_close room p₂) _ ds q e₂ (λ es p₃ f₃ e₃.
      after_elim (closing tokens p₃) _ ds q e₃ (λ c p₄ f₄ e₄.
      after_elim (end_token tokens p₄) _ ds q e₄ (λ x p₅ f₅ e₅.
      let w = declarations_read s limit frames room p₂ p₃ es f₃ in
      let i : p₂.rows ≡ 0 = line_keeps p₁ p₂ l f₂ ∙ head_keeps start p₁ h f₁ in
      let j : p₅.rows ≡ p₃.rows = end_keeps p₄ p₅ x f₅ ∙ closing_keeps p₃ p₄ c f₄ in
      done_as (ReadsAll s limit frames start room) e₅ (record {
        begins = w.begins;
        rows = j ∙ w.rows ∙ ap (λ (m : ℕ). total m es) i;
        room = λ k. omega (arith, j, w.room (omega (arith, i)));
        few = w.few;
      }))))))

told_done : (x : Result (List Declaration)) (ds : List Declaration) (q : Position) → told x ≡ done ds q → x ≡ done ds q
told_done (done es p) ds q e = e
told_done (refused r) ds q e = no_done e

-- What is known of a text that is taken.
pub record IsTextRead (t : List ℕ) (z : Lengths) (ds : List Declaration) (q : Position) : Type 0 where
  pub work : 16384 ≤ z.work
  pub short : length t ≤ 4294967295
  pub valid : valid_length t ≡ length t
  pub unmarked : byte_order_mark t ≡ false
  pub reads : read_text t (z.core / 8) (z.declarations / 5) frame_limit start ≡ done ds q
  pub distinct : repeated t [] ds ≡ false

pub is_text_read : (t : List ℕ) (z : Lengths) (ds : List Declaration) (q : Position) → reading_text t z start ≡ done ds q → IsTextRead t z ds q
unfolding reading_text
is_text_read t z ds q e =
    require_elim _ _ _ _ ds q e (λ a e₁.
    require_elim _ _ _ _ ds q e₁ (λ b e₂.
    require_elim _ _ _ _ ds q e₂ (λ c e₃.
    require_elim _ _ _ _ ds q e₃ (λ d e₄.
    after_elim (told (read_text t (z.core / 8) (z.declarations / 5) frame_limit start)) _ ds q e₄ (λ es p f e₅.
    require_elim _ _ p _ ds q e₅ (λ g e₆.
    done_as (IsTextRead t z) e₆ (record {
      work = leb-true 16384 z.work a;
      short = leb-true (length t) 4294967295 b;
      valid = eqb-true (valid_length t) (length t) c;
      unmarked = not-true (byte_order_mark t) d;
      reads = told_done _ es p f;
      distinct = not-true (repeated t [] es) g;
    })))))))

pub reading_reads : (t : List ℕ) (z : Lengths) (ds : List Declaration) (q : Position) → reading_text t z start ≡ done ds q → ReadsAll t (z.core / 8) frame_limit start (z.declarations / 5) ds q
reading_reads t z ds q e = text_reads t (z.core / 8) (z.declarations / 5) frame_limit q ds (is_text_read t z ds q e).reads
