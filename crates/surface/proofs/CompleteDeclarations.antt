-- Declarations that the grammar derives are read, where there is room.
use mathlib.Core.Path.{◌≡◌, refl, sym, ap, ◌∙◌, subst}
use mathlib.Core.List.{List, [], ◌∷◌}
use mathlib.Core.Option.{none, some}
use Prim.Native.Nat.{ℕ, zero, suc, ◌-◌, ◌≤◌}
use native.Mathlib.Omega.{arith}
use lib.ListN.{length}
use Rattle.token.specs.declared.TokenKind.{TokenKind}
use Rattle.token.specs.declared.Token.{Token}
use Rattle.words.specs.Words.{ascii, same_bytes}
use Rattle.terms.specs.Forms.{Edition}
use Rattle.terms.specs.Tree.{Forest, nil, Tree, tree, next}
use Rattle.terms.specs.Label.{Label, Declaration, trees}
use Rattle.terms.proofs.Widths.{total, total_grows}
use Rattle.surface.specs.Text.{text, is_end}
use Rattle.surface.specs.Grammar.{Tokens, the_end, Opens, Closes, Word, Name, Terms, Declarations, no_declaration, postulate, transparent, opaque}
use Rattle.surface.specs.Reader.{Position, Result, done, Reader}
use Rattle.surface.specs.Reading.{name, several, term, closing, declaration_kind, beginning, body, declared, declaration, ending, onwards, declarations}
use Rattle.surface.proofs.Frames.{frames_of, deepest, within}
use Rattle.surface.proofs.Steps.{after_elim, done_inj}
use Rattle.surface.proofs.Editions.{CountedEdition}
use Rattle.surface.proofs.Takes.{after_go, to, first_token, other_tokens, token_takes, closing_takes, atom_takes, name_takes}
use Rattle.surface.proofs.Complete.{terms_go}

pub tag_postulate : {s : List ℕ} {t : Token} → Word s (ascii "postulate") t → declaration_kind (text s t) ≡ 1
unfolding declaration_kind same_bytes
tag_postulate w = ap declaration_kind w.is

pub tag_transparent : {s : List ℕ} {t : Token} → Word s (ascii "transparent") t → declaration_kind (text s t) ≡ 2
unfolding declaration_kind same_bytes
tag_transparent w = ap declaration_kind w.is

pub tag_opaque : {s : List ℕ} {t : Token} → Word s (ascii "opaque") t → declaration_kind (text s t) ≡ 3
unfolding declaration_kind same_bytes
tag_opaque w = ap declaration_kind w.is

module _ (E : Edition) (s : List ℕ) (counted : CountedEdition E) (limit frames : ℕ) where
  abbrev whole_term : Reader (Tree Label)
  whole_term = term (beginning E s) (closing (E.tokens s)) limit frames

  -- The first of several.
  pub several_suc : {P : Type 0} (n : ℕ) (p q : Position) (a : Tree Label) (r : Forest Label) → several (beginning E s) (closing (E.tokens s)) limit whole_term (suc n) p ≡ done (tree a r) q
      → ((q₁ : Position) → whole_term p ≡ done a q₁ → several (beginning E s) (closing (E.tokens s)) limit whole_term n q₁ ≡ done r q → P) → P
  unfolding several
  several_suc n p q a r e k =
      after_elim (whole_term p) _ (tree a r) q e (λ t q₁ f₁ e₁.
      after_elim (several (beginning E s) (closing (E.tokens s)) limit whole_term n q₁) _ (tree a r) q e₁ (λ u q₂ f₂ e₂.
      let i = done_inj e₂ in
      let x : t.label ≡ a.label = cc in
      let y : t.args ≡ a.args = cc in
      let z : u ≡ r = cc in
      let v : t ≡ a = λ i. record { label = x i; args = y i } in
      k q₁ (f₁ ∙ ap (λ (b : Tree Label). done b q₁) v) (f₂ ∙ (λ j. done (z j) (i.1 j)))))

  pub several_zero : (p q : Position) (r : Forest Label) → several (beginning E s) (closing (E.tokens s)) limit whole_term 0 p ≡ done r q → p ≡ q
  unfolding several
  several_zero p q r e = (done_inj e).1

  pub record DeclarationGoes (p : Position) (d : Declaration) (us : List Token) : Type 0 where
    pub position : Position
    pub reads : declaration E s whole_term (name E s) is_end p ≡ done d position
    pub left : Tokens (E.tokens s) position.offset us
    pub rows : position.rows ≡ next p.rows (trees d)

  postulate_goes : (p : Position) (t x c : Token) (ts us : List Token) (a : Tree Label) → Tokens (E.tokens s) p.offset (t ∷ x ∷ ts) → Word s (ascii "postulate") t → Name E s x
      → Terms E s 1 ts (tree a nil) (c ∷ us) → Closes c → frames_of (tree a nil) ≤ frames → next p.rows (tree a nil) ≤ limit
      → DeclarationGoes p (record { kind = 1; start = x.start; length = x.end - x.start; type = a; body = none }) us
  unfolding declaration declared body
  postulate_goes p t x c ts us a k w n d e f h =
      let q = to (to p t) x in
      let g = terms_go E s counted limit d frames q (other_tokens (other_tokens k)) (within frames (tree a nil) f) h in
      several_suc 0 q g.position a nil g.reads (λ q₁ r₁ r₂.
      let z = several_zero q₁ g.position nil r₂ in
      record {
        position = to g.position c;
        reads = after_go _ _ t (to p t) _ (atom_takes (E.tokens s) p t (first_token k) w.atom)
            (ap (λ (m : ℕ). declared E s whole_term (name E s) is_end t m (to p t)) (tag_postulate w)
            ∙ after_go _ _ x q _ (name_takes E s (to p t) x (first_token (other_tokens k)) n)
            (after_go _ _ a g.position _ (r₁ ∙ ap (λ (y : Position). done a y) z)
            (after_go _ _ c (to g.position c) _ (closing_takes (E.tokens s) g.position c (first_token g.left) e) refl)));
        left = other_tokens g.left;
        rows = g.rows;
      })

  defined_goes : (p : Position) (t x c : Token) (ts us : List Token) (a b : Tree Label) (j : ℕ) → Tokens (E.tokens s) p.offset (t ∷ x ∷ ts) → t.kind ≡ TokenKind.Atom → declaration_kind (text s t) ≡ suc (suc j) → Name E s x
      → Terms E s 2 ts (tree a (tree b nil)) (c ∷ us) → Closes c → frames_of (tree a (tree b nil)) ≤ frames → next p.rows (tree a (tree b nil)) ≤ limit
      → DeclarationGoes p (record { kind = suc (suc j); start = x.start; length = x.end - x.start; type = a; body = some b }) us
  unfolding declaration declared body
  defined_goes p t x c ts us a b j k v w n d e f h =
      let q = to (to p t) x in
      let g = terms_go E s counted limit d frames q (other_tokens (other_tokens k)) (within frames (tree a (tree b nil)) f) h in
      several_suc 1 q g.position a (tree b nil) g.reads (λ q₁ r₁ r₂.
      several_suc 0 q₁ g.position b nil r₂ (λ q₂ r₃ r₄.
      let z = several_zero q₂ g.position nil r₄ in
      record {
        position = to g.position c;
        reads = after_go _ _ t (to p t) _ (atom_takes (E.tokens s) p t (first_token k) v)
            (ap (λ (m : ℕ). declared E s whole_term (name E s) is_end t m (to p t)) w
            ∙ after_go _ _ x q _ (name_takes E s (to p t) x (first_token (other_tokens k)) n)
            (after_go _ _ a q₁ _ r₁
            (after_go _ _ (some b) g.position _ (after_go _ _ b g.position _ (r₃ ∙ ap (λ (y : Position). done b y) z) refl)
            (after_go _ _ c (to g.position c) _ (closing_takes (E.tokens s) g.position c (first_token g.left) e) refl))));
        left = other_tokens g.left;
        rows = g.rows;
      }))

  pub record DeclarationsGo (n : ℕ) (p : Position) (ds : List Declaration) : Type 0 where
    pub position : Position
    pub reads : declarations E s whole_term (name E s) is_end n p ≡ done ds position
    pub rows : position.rows ≡ total p.rows ds

  onwards_end : (more : Reader (List Declaration)) (t : Token) (k : TokenKind) (p : Position) → k ≡ TokenKind.Eof → onwards E s whole_term (name E s) is_end more t k p ≡ done [] p
  unfolding onwards ending
  onwards_end more t k p e = ap (λ (x : TokenKind). onwards E s whole_term (name E s) is_end more t x p) e

  onwards_open : (more : Reader (List Declaration)) (t : Token) (k : TokenKind) (p : Position) (o : Result (List Declaration)) → k ≡ TokenKind.LParen → more p ≡ o → onwards E s whole_term (name E s) is_end more t k p ≡ o
  unfolding onwards ending
  onwards_open more t k p o e f = ap (λ (x : TokenKind). onwards E s whole_term (name E s) is_end more t x p) e ∙ f

  end_goes : (n : ℕ) (p : Position) → Tokens (E.tokens s) p.offset [] → DeclarationsGo n p []
  unfolding declarations
  end_goes zero p (the_end {t = t} e k) = record { position = to p t; reads = after_go _ _ t (to p t) _ (token_takes (E.tokens s) p t e) (onwards_end _ t t.kind (to p t) k); rows = refl }
  end_goes (suc n) p (the_end {t = t} e k) = record { position = to p t; reads = after_go _ _ t (to p t) _ (token_takes (E.tokens s) p t e) (onwards_end _ t t.kind (to p t) k); rows = refl }

  cons_goes : (n : ℕ) (p : Position) (o : Token) (ts us : List Token) (d : Declaration) (ds : List Declaration) → Tokens (E.tokens s) p.offset (o ∷ ts) → Opens o → (g : DeclarationGoes (to p o) d us)
      → suc (length ds) ≤ n → total (next p.rows (trees d)) ds ≤ limit
      → ((m : ℕ) (q : Position) → Tokens (E.tokens s) q.offset us → length ds ≤ m → total q.rows ds ≤ limit → DeclarationsGo m q ds) → DeclarationsGo n p (d ∷ ds)
  unfolding declarations
  cons_goes zero p o ts us d ds k a g i h l = absurd (omega arith)
  cons_goes (suc n) p o ts us d ds k a g i h l =
      let r = l n g.position g.left (omega arith) (subst (λ (m : ℕ). total m ds ≤ limit) (sym g.rows) h) in
      record {
        position = r.position;
        reads = after_go _ _ o (to p o) _ (token_takes (E.tokens s) p o (first_token k))
            (onwards_open _ o o.kind (to p o) _ a (after_go _ _ d g.position _ g.reads (after_go _ _ ds r.position _ r.reads refl)));
        rows = r.rows ∙ ap (λ (m : ℕ). total m ds) g.rows;
      }

  pub declarations_go : {ts : List Token} {ds : List Declaration} → Declarations E s ts ds → (n : ℕ) (p : Position) → Tokens (E.tokens s) p.offset ts → length ds ≤ n → deepest ds ≤ frames → total p.rows ds ≤ limit → DeclarationsGo n p ds
  declarations_go no_declaration n p k c f h = end_goes n p k
  declarations_go (postulate {o = o} {t = t} {x = x} {c = c} {ts = ts} {us = us} {a = a} {ds = ds} v w n d e l) m p k i f h =
      cons_goes m p o (t ∷ x ∷ ts) us _ ds k v
      (postulate_goes (to p o) t x c ts us a (other_tokens k) w n d e (omega arith) (omega (arith, total_grows (next p.rows (tree a nil)) ds))) i h
      (λ j q u z y. declarations_go l j q u z (omega arith) y)
  declarations_go (transparent {o = o} {t = t} {x = x} {c = c} {ts = ts} {us = us} {a = a} {b = b} {ds = ds} v w n d e l) m p k i f h =
      cons_goes m p o (t ∷ x ∷ ts) us _ ds k v
      (defined_goes (to p o) t x c ts us a b 0 (other_tokens k) w.atom (tag_transparent w) n d e (omega arith) (omega (arith, total_grows (next p.rows (tree a (tree b nil))) ds))) i h
      (λ j q u z y. declarations_go l j q u z (omega arith) y)
  declarations_go (opaque {o = o} {t = t} {x = x} {c = c} {ts = ts} {us = us} {a = a} {b = b} {ds = ds} v w n d e l) m p k i f h =
      cons_goes m p o (t ∷ x ∷ ts) us _ ds k v
      (defined_goes (to p o) t x c ts us a b 1 (other_tokens k) w.atom (tag_opaque w) n d e (omega arith) (omega (arith, total_grows (next p.rows (tree a (tree b nil))) ds))) i h
      (λ j q u z y. declarations_go l j q u z (omega arith) y)
