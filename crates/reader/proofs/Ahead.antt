-- Reading goes on behind what was read and within the source; its rows are stored, and there are no more of them than bytes.
use Rattle.token.specs.declared.Class.{Class}
use mathlib.Core.Path.{◌≡◌, refl, ◌∙◌, ap}
use mathlib.Core.List.{List, []}
use mathlib.Core.Option.{Option}
use Prim.Native.Nat.{ℕ, zero, suc, ◌+◌, ◌≤◌}
use native.Mathlib.Omega.{arith}
use lib.ListN.{length}
use Rattle.token.specs.declared.TokenKind.{TokenKind}
use Rattle.token.specs.declared.Token.{Token}
use Rattle.token.proofs.Bounds.{SpanOf}
use Rattle.terms.specs.Label.{Label, Declaration, trees}
use Rattle.terms.specs.Tree.{Forest, nil, Tree, tree, next}
use Rattle.terms.proofs.Widths.{total}
use Rattle.surface.specs.Reader.{Position, done, Reader, pure, at_token}
use Rattle.surface.specs.Reading.{token, closing, atom, beginning, body, declared, declaration, declaration_kind, ending, onwards, declarations}
use Rattle.surface.specs.Text.{text}
use Rattle.surface.proofs.Sound.{term_done}
use Rattle.expects.proofs.Gives.{Gives, given, gives_after, gives_require}
use Rattle.expects.proofs.Ahead.{source, Ahead, TokenAhead, AnyToken, NameAhead, behind, not_end, token_any, closing_ahead, atom_ahead, declared_ahead}
use Rattle.term_rows.proofs.Counting.{gives}
use Rattle.term_rows.proofs.Growth.{term_grown}
use Rattle.term_rows.proofs.Readers.{format_sound}
use Rattle.expects.specs.declared.Format.{Format}
use Rattle.expects.specs.Formats.{edition, declared_name, ends}
use Rattle.reader.specs.ModuleWords.{whole_term, one_body, named_declaration, one_declaration, all_declarations, body_trees}

-- From p to q the trees f are read.
pub record Onward (s : List ℕ) (limit : ℕ) (p : Position) (f : Forest Label) (q : Position) : Type 0 where
  pub past : p.offset ≤ q.offset
  pub high : p.offset ≤ length s → q.offset ≤ length s
  pub slow : q.rows + p.offset ≤ p.rows + q.offset
  pub rows : q.rows ≡ next p.rows f
  pub room : p.rows ≤ limit → q.rows ≤ limit

-- From p to q the declarations ds and what ends them are read.
pub record AllOnward (s : List ℕ) (limit : ℕ) (p : Position) (ds : List Declaration) (q : Position) : Type 0 where
  pub past : p.offset ≤ q.offset
  pub high : q.offset ≤ length s
  pub slow : q.rows + p.offset ≤ p.rows + q.offset
  pub rows : q.rows ≡ total p.rows ds
  pub room : q.rows ≤ limit

-- Any token, also the end token, ends ahead and within the source.
token_end : (k : TokenKind) (lo a e hi : ℕ) → lo ≤ hi → SpanOf k lo a e hi → (lo ≤ e) × (e ≤ hi)
token_end TokenKind.LParen lo a e hi h w = (omega arith, w.high)
token_end TokenKind.RParen lo a e hi h w = (omega arith, w.high)
token_end TokenKind.Atom lo a e hi h w = (omega arith, w.high)
token_end TokenKind.String lo a e hi h w = (omega arith, w.high)
token_end TokenKind.Eof lo a e hi h w = (omega (arith, (w h).1), omega (arith, (w h).1))

module _ (format : Format) (s : List ℕ) (limit : ℕ) where
  stays : (p : Position) → Onward s limit p nil p
  stays p = record { past = omega arith; high = λ h. h; slow = omega arith; rows = refl; room = λ h. h }

  -- A token or a name, then trees; or trees, then a token.
  token_first : (p q r : Position) (f : Forest Label) → Ahead s p q → Onward s limit q f r → Onward s limit p f r
  token_first p q r f a b =
      record { past = omega arith; high = λ h. b.high (omega arith); slow = omega arith; rows = b.rows ∙ ap (λ (n : ℕ). next n f) a.rows; room = λ h. b.room (omega arith) }

  token_last : (p q r : Position) (f : Forest Label) (t : Token) → Onward s limit p f q → TokenAhead s q t r → Onward s limit p f r
  token_last p q r f t a b = record { past = omega arith; high = λ h. omega arith; slow = omega arith; rows = b.rows ∙ a.rows; room = λ h. omega (arith, a.room h) }

  -- A tree, then others.
  tree_first : (p q r : Position) (t : Tree Label) (f : Forest Label) → Onward s limit p (tree t nil) q → Onward s limit q f r → Onward s limit p (tree t f) r
  tree_first p q r t f a b =
      record { past = omega arith; high = λ h. b.high (a.high h); slow = omega arith; rows = b.rows ∙ ap (λ (n : ℕ). next n f) a.rows; room = λ h. b.room (a.room h) }

  abbrev TreeBehind : Position → Tree Label → Position → Type 0
  TreeBehind p t q = Onward s limit p (tree t nil) q

  term_behind : (p : Position) → Gives (TreeBehind p) (whole_term format s limit p)
  term_behind p =
      gives (TreeBehind p) (whole_term format s limit p)
      (λ t q e.
      let g = term_grown (beginning (edition format) s) (closing ((edition format).tokens s)) limit s (format_sound format s).begins (format_sound format s).closes 512 p q t e in
      let r = term_done (edition format) s limit 512 p q t e in
      record { past = omega arith; high = λ h. g.high; slow = g.slow; rows = r.rows; room = λ h. r.room })

  abbrev BodyBehind : Position → Option (Tree Label) → Position → Type 0
  BodyBehind p b q = Onward s limit p (body_trees b) q

  body_behind : (j : ℕ) (p : Position) → Gives (BodyBehind p) (one_body format s limit j p)
  unfolding body
  body_behind zero p = stays p
  body_behind (suc j) p = gives_after (TreeBehind p) (BodyBehind p) (whole_term format s limit p) _ (term_behind p) (λ b q a. a)

  abbrev DeclarationBehind : Position → Declaration → Position → Type 0
  DeclarationBehind p d q = Onward s limit p (trees d) q

  declared_behind : (t : Token) (kind : ℕ) (p q : Position) → TokenAhead s p t q → Gives (DeclarationBehind p) (named_declaration format s limit t kind q)
  unfolding declared
  declared_behind t zero p q h = tt
  declared_behind t (suc j) p q h =
      gives_after (NameAhead s q) (DeclarationBehind p) (declared_name format s q) _ (declared_ahead format s q)
      (λ x q₁ a₁. gives_after (TreeBehind q₁) (DeclarationBehind p) (whole_term format s limit q₁) _ (term_behind q₁)
      (λ a q₂ a₂. gives_after (BodyBehind q₂) (DeclarationBehind p) (one_body format s limit j q₂) _ (body_behind j q₂)
      (λ b q₃ a₃. gives_after (TokenAhead s q₃) (DeclarationBehind p) (closing ((edition format).tokens s) q₃) _ (closing_ahead (source format s) q₃)
      (λ c q₄ a₄. token_first p q q₄ _ (behind (source format s) p t q h) (token_first q q₁ q₄ _ a₁.ahead (token_last q₁ q₃ q₄ _ c (tree_first q₁ q₂ q₃ a (body_trees b) a₂ a₃) a₄))))))

  declaration_behind : (p : Position) → Gives (DeclarationBehind p) (one_declaration format s limit p)
  unfolding declaration
  declaration_behind p =
      gives_after (TokenAhead s p) (DeclarationBehind p) (atom ((edition format).tokens s) p) _ (atom_ahead (source format s) p) (λ t q a. declared_behind t (declaration_kind (text s t)) p q a)

  abbrev AllBehind : Position → List Declaration → Position → Type 0
  AllBehind p ds q = AllOnward s limit p ds q

  ends_behind : (p : Position) (t : Token) (q : Position) → p.offset ≤ length s → p.rows ≤ limit → AnyToken s p t q → AllOnward s limit p [] q
  ends_behind p t q w l a =
      let e = token_end t.kind p.offset t.start t.end (length s) w a.span in
      record { past = omega (arith, e.0, a.next); high = omega (arith, e.1, a.next); slow = omega (arith, e.0, a.next, a.rows); rows = a.rows; room = omega (arith, a.rows) }

  onwards_behind : (more : Reader (List Declaration)) (p : Position) (t : Token) (q : Position) → AllOnward s limit p [] q → (k : TokenKind) → (k ≡ TokenKind.LParen → Gives (AllBehind p) (more q))
      → Gives (AllBehind p) (onwards (edition format) s (whole_term format s limit) (declared_name format s) (ends format) more t k q)
  unfolding onwards ending
  onwards_behind more p t q e TokenKind.LParen g = g refl
  onwards_behind more p t q e TokenKind.RParen g = gives_require (AllBehind p) (ends format TokenKind.RParen) (at_token Class.Malformed t) (pure []) q (λ y. e)
  onwards_behind more p t q e TokenKind.Atom g = gives_require (AllBehind p) (ends format TokenKind.Atom) (at_token Class.Malformed t) (pure []) q (λ y. e)
  onwards_behind more p t q e TokenKind.String g = gives_require (AllBehind p) (ends format TokenKind.String) (at_token Class.Malformed t) (pure []) q (λ y. e)
  onwards_behind more p t q e TokenKind.Eof g = gives_require (AllBehind p) (ends format TokenKind.Eof) (at_token Class.Malformed t) (pure []) q (λ y. e)

  all_behind : (room : ℕ) (p : Position) → p.offset ≤ length s → p.rows ≤ limit → Gives (AllBehind p) (all_declarations format s limit room p)
  unfolding declarations
  all_behind zero p w l =
      gives_after (AnyToken s p) (AllBehind p) (token ((edition format).tokens s) p) _ (token_any (source format s) p)
      (λ t q a. onwards_behind _ p t q (ends_behind p t q w l a) t.kind (λ i. tt))
  all_behind (suc m) p w l =
      gives_after (AnyToken s p) (AllBehind p) (token ((edition format).tokens s) p) _ (token_any (source format s) p)
      (λ t q a. onwards_behind _ p t q (ends_behind p t q w l a) t.kind (λ i.
      let b = not_end (source format s) p t q a (λ e. let z : ◌≡◌ {A = ℕ} 0 1 = cc in omega arith) in
      gives_after (DeclarationBehind q) (AllBehind p) (one_declaration format s limit q) _ (declaration_behind q)
      (λ d q₁ o. gives_after (AllBehind q₁) (AllBehind p) (all_declarations format s limit m q₁) _ (all_behind m q₁ (o.high (omega (arith, b.high, b.next))) (o.room (omega (arith, b.rows))))
      (λ ds q₂ r. record {
        past = omega (arith, b.low, b.some, b.next, o.past, r.past);
        high = r.high;
        slow = omega (arith, b.low, b.some, b.next, b.rows, o.slow, r.slow);
        rows = r.rows ∙ ap (λ (n : ℕ). total n ds) (o.rows ∙ ap (λ (n : ℕ). next n (trees d)) b.rows);
        room = r.room;
      }))))

-- The same, of what was read.
module _ (format : Format) (s : List ℕ) (limit : ℕ) (p q : Position) where
  pub term_onward : (t : Tree Label) → whole_term format s limit p ≡ done t q → Onward s limit p (tree t nil) q
  term_onward t e = given (TreeBehind format s limit p) (term_behind format s limit p) e

  pub declaration_onward : (d : Declaration) → one_declaration format s limit p ≡ done d q → Onward s limit p (trees d) q
  declaration_onward d e = given (DeclarationBehind format s limit p) (declaration_behind format s limit p) e

  pub all_onward : (room : ℕ) (ds : List Declaration) → p.offset ≤ length s → p.rows ≤ limit → all_declarations format s limit room p ≡ done ds q → AllOnward s limit p ds q
  all_onward room ds w l e = given (AllBehind format s limit p) (all_behind format s limit room p w l) e
