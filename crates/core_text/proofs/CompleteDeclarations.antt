-- Declarations of a core text that the grammar derives are read, where there is room.
use Rattle.token.specs.Token.{Lexed}
use mathlib.Core.Path.{◌≡◌, refl, sym, ap, ◌∙◌, subst}
use mathlib.Core.List.{List, [], ◌∷◌}
use mathlib.Core.Option.{none, some}
use Prim.Native.Nat.{ℕ, zero, suc, ◌≤◌}
use native.Mathlib.Omega.{arith}
use lib.ListN.{length}
use Rattle.token.specs.declared.TokenKind.{TokenKind}
use Rattle.token.specs.declared.Token.{Token}
use Rattle.words.specs.Words.{ascii}
use Rattle.terms.specs.Forms.{forms}
use Rattle.terms.specs.TextForms.{text_forms}
use Rattle.terms.specs.Tree.{nil, Tree, tree, next}
use Rattle.terms.specs.Label.{Label, Declaration, trees}
use Rattle.terms.proofs.Widths.{total, total_grows}
use Rattle.surface.specs.Text.{text, is_close}
use Rattle.surface.specs.Grammar.{Tokens, Opens, Closes, Word, Terms}
use Rattle.surface.specs.Statements.{frames_of, deepest}
use Rattle.surface.specs.Reader.{Position, Result, done, Reader}
use Rattle.surface.specs.Reading.{term, closing, declaration_kind, beginning, body, declared, declaration, ending, onwards, declarations}
use Rattle.surface.proofs.Frames.{within}
use Rattle.surface.proofs.Editions.{CountedEdition}
use Rattle.surface.proofs.Takes.{after_go, to, first_token, other_tokens, token_takes, closing_takes, atom_takes}
use Rattle.surface.proofs.Complete.{terms_go}
use Rattle.surface.proofs.CompleteDeclarations.{several_suc, several_zero, tag_postulate, tag_transparent, tag_opaque}
use Rattle.core_text.specs.TextReading.{text_edition, string}
use Rattle.core_text.specs.TextGrammar.{Quotes, declaration_of, TextDeclarations, no_declaration, postulate, transparent, opaque}
use Rattle.core_text.proofs.Strings.{string_takes}

-- The leaves of core text have no argument, and its frames have some.
text_counted : CountedEdition text_edition
unfolding text_edition text_forms forms
text_counted = refl

module _ (t : List ℕ) (limit frames : ℕ) where
  abbrev whole_term : Reader (Tree Label)
  whole_term = term (beginning text_edition t) (closing (text_edition.tokens t)) limit frames

  abbrev tokens : ℕ → Lexed
  tokens = text_edition.tokens t

  -- A declaration behind its parenthesis is read, and us is left.
  pub record DeclarationGoes (p : Position) (d : Declaration) (us : List Token) : Type 0 where
    pub position : Position
    pub reads : declaration text_edition t whole_term (string tokens) is_close p ≡ done d position
    pub left : Tokens tokens position.offset us
    pub rows : position.rows ≡ next p.rows (trees d)

  postulate_goes : (p : Position) (w x c : Token) (ts us : List Token) (a : Tree Label) → Tokens tokens p.offset (w ∷ x ∷ ts) → Word t (ascii "postulate") w → Quotes x
      → Terms text_edition t 1 ts (tree a nil) (c ∷ us) → Closes c → frames_of (tree a nil) ≤ frames → next p.rows (tree a nil) ≤ limit → DeclarationGoes p (declaration_of 1 x a none) us
  unfolding declaration declared body
  postulate_goes p w x c ts us a k v n d e f h =
      let q = to (to p w) x in
      let g = terms_go text_edition t text_counted limit d frames q (other_tokens (other_tokens k)) (within frames (tree a nil) f) h in
      several_suc text_edition t text_counted limit frames 0 q g.position a nil g.reads (λ q₁ r₁ r₂.
      let z = several_zero text_edition t text_counted limit frames q₁ g.position nil r₂ in
      record {
        position = to g.position c;
        reads = after_go _ _ w (to p w) _ (atom_takes tokens p w (first_token k) v.atom)
            (ap (λ (m : ℕ). declared text_edition t whole_term (string tokens) is_close w m (to p w)) (tag_postulate v)
            ∙ after_go _ _ _ q _ (string_takes tokens (to p w) x (first_token (other_tokens k)) n)
            (after_go _ _ a g.position _ (r₁ ∙ ap (λ (y : Position). done a y) z)
            (after_go _ _ c (to g.position c) _ (closing_takes tokens g.position c (first_token g.left) e) refl)));
        left = other_tokens g.left;
        rows = g.rows;
      })

  defined_goes : (p : Position) (w x c : Token) (ts us : List Token) (a b : Tree Label) (j : ℕ) → Tokens tokens p.offset (w ∷ x ∷ ts) → w.kind ≡ TokenKind.Atom → declaration_kind (text t w) ≡ suc (suc j) → Quotes x
      → Terms text_edition t 2 ts (tree a (tree b nil)) (c ∷ us) → Closes c → frames_of (tree a (tree b nil)) ≤ frames → next p.rows (tree a (tree b nil)) ≤ limit
      → DeclarationGoes p (declaration_of (suc (suc j)) x a (some b)) us
  unfolding declaration declared body
  defined_goes p w x c ts us a b j k v i n d e f h =
      let q = to (to p w) x in
      let g = terms_go text_edition t text_counted limit d frames q (other_tokens (other_tokens k)) (within frames (tree a (tree b nil)) f) h in
      several_suc text_edition t text_counted limit frames 1 q g.position a (tree b nil) g.reads (λ q₁ r₁ r₂.
      several_suc text_edition t text_counted limit frames 0 q₁ g.position b nil r₂ (λ q₂ r₃ r₄.
      let z = several_zero text_edition t text_counted limit frames q₂ g.position nil r₄ in
      record {
        position = to g.position c;
        reads = after_go _ _ w (to p w) _ (atom_takes tokens p w (first_token k) v)
            (ap (λ (m : ℕ). declared text_edition t whole_term (string tokens) is_close w m (to p w)) i
            ∙ after_go _ _ _ q _ (string_takes tokens (to p w) x (first_token (other_tokens k)) n)
            (after_go _ _ a q₁ _ r₁
            (after_go _ _ (some b) g.position _ (after_go _ _ b g.position _ (r₃ ∙ ap (λ (y : Position). done b y) z) refl)
            (after_go _ _ c (to g.position c) _ (closing_takes tokens g.position c (first_token g.left) e) refl))));
        left = other_tokens g.left;
        rows = g.rows;
      }))

  -- Declarations and the parenthesis that closes them are read, and us is left.
  pub record DeclarationsGo (n : ℕ) (p : Position) (ds : List Declaration) (us : List Token) : Type 0 where
    pub position : Position
    pub reads : declarations text_edition t whole_term (string tokens) is_close n p ≡ done ds position
    pub left : Tokens tokens position.offset us
    pub rows : position.rows ≡ total p.rows ds

  onwards_close : (more : Reader (List Declaration)) (c : Token) (k : TokenKind) (p : Position) → k ≡ TokenKind.RParen → onwards text_edition t whole_term (string tokens) is_close more c k p ≡ done [] p
  unfolding onwards ending
  onwards_close more c k p e = ap (λ (x : TokenKind). onwards text_edition t whole_term (string tokens) is_close more c x p) e

  onwards_open : (more : Reader (List Declaration)) (o : Token) (k : TokenKind) (p : Position) (r : Result (List Declaration)) → k ≡ TokenKind.LParen → more p ≡ r → onwards text_edition t whole_term (string tokens) is_close more o k p ≡ r
  unfolding onwards ending
  onwards_open more o k p r e f = ap (λ (x : TokenKind). onwards text_edition t whole_term (string tokens) is_close more o x p) e ∙ f

  close_goes : (n : ℕ) (p : Position) (c : Token) (us : List Token) → Tokens tokens p.offset (c ∷ us) → Closes c → DeclarationsGo n p [] us
  unfolding declarations
  close_goes zero p c us k e = record {
    position = to p c;
    reads = after_go _ _ c (to p c) _ (token_takes tokens p c (first_token k)) (onwards_close _ c c.kind (to p c) e);
    left = other_tokens k;
    rows = refl;
  }
  close_goes (suc n) p c us k e = record {
    position = to p c;
    reads = after_go _ _ c (to p c) _ (token_takes tokens p c (first_token k)) (onwards_close _ c c.kind (to p c) e);
    left = other_tokens k;
    rows = refl;
  }

  cons_goes : (n : ℕ) (p : Position) (o : Token) (ts us vs : List Token) (d : Declaration) (ds : List Declaration) → Tokens tokens p.offset (o ∷ ts) → Opens o → (g : DeclarationGoes (to p o) d us)
      → suc (length ds) ≤ n → total (next p.rows (trees d)) ds ≤ limit
      → ((m : ℕ) (q : Position) → Tokens tokens q.offset us → length ds ≤ m → total q.rows ds ≤ limit → DeclarationsGo m q ds vs) → DeclarationsGo n p (d ∷ ds) vs
  unfolding declarations
  cons_goes zero p o ts us vs d ds k a g i h l = absurd (omega arith)
  cons_goes (suc n) p o ts us vs d ds k a g i h l =
      let r = l n g.position g.left (omega arith) (subst (λ (m : ℕ). total m ds ≤ limit) (sym g.rows) h) in
      record {
        position = r.position;
        reads = after_go _ _ o (to p o) _ (token_takes tokens p o (first_token k))
            (onwards_open _ o o.kind (to p o) _ a (after_go _ _ d g.position _ g.reads (after_go _ _ ds r.position _ r.reads refl)));
        left = r.left;
        rows = r.rows ∙ ap (λ (m : ℕ). total m ds) g.rows;
      }

  pub declarations_go : {ts vs : List Token} {ds : List Declaration} {c : Token} → TextDeclarations t ts ds (c ∷ vs) → Closes c → (n : ℕ) (p : Position) → Tokens tokens p.offset ts
      → length ds ≤ n → deepest ds ≤ frames → total p.rows ds ≤ limit → DeclarationsGo n p ds vs
  declarations_go {vs = vs} {c = c} no_declaration z n p k i f h = close_goes n p c vs k z
  declarations_go {vs = vs} (postulate {o = o} {w = w} {x = x} {c = c} {ts = ts} {us = us} {a = a} {ds = ds} u v n d e l) z m p k i f h =
      cons_goes m p o (w ∷ x ∷ ts) us vs _ ds k u
      (postulate_goes (to p o) w x c ts us a (other_tokens k) v n d e (omega arith) (omega (arith, total_grows (next p.rows (tree a nil)) ds))) i h
      (λ j q r g y. declarations_go l z j q r g (omega arith) y)
  declarations_go {vs = vs} (transparent {o = o} {w = w} {x = x} {c = c} {ts = ts} {us = us} {a = a} {b = b} {ds = ds} u v n d e l) z m p k i f h =
      cons_goes m p o (w ∷ x ∷ ts) us vs _ ds k u
      (defined_goes (to p o) w x c ts us a b 0 (other_tokens k) v.atom (tag_transparent v) n d e (omega arith) (omega (arith, total_grows (next p.rows (tree a (tree b nil))) ds))) i h
      (λ j q r g y. declarations_go l z j q r g (omega arith) y)
  declarations_go {vs = vs} (opaque {o = o} {w = w} {x = x} {c = c} {ts = ts} {us = us} {a = a} {b = b} {ds = ds} u v n d e l) z m p k i f h =
      cons_goes m p o (w ∷ x ∷ ts) us vs _ ds k u
      (defined_goes (to p o) w x c ts us a b 1 (other_tokens k) v.atom (tag_opaque v) n d e (omega arith) (omega (arith, total_grows (next p.rows (tree a (tree b nil))) ds))) i h
      (λ j q r g y. declarations_go l z j q r g (omega arith) y)
