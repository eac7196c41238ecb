-- A declaration has seventeen bytes and more, so that a declaration list for a seventeenth of the source's bytes is never short.
use Rattle.token.specs.declared.Class.{Class}
use Rattle.token.specs.Token.{Lexed}
use mathlib.Core.Path.{◌≡◌, refl, sym, ap}
use mathlib.Core.Logic.{◌⊎◌, inl, inr}
use mathlib.Core.Bool.{Bool, true, false}
use mathlib.Core.List.{List, []}
use mathlib.Core.Option.{Option}
use Prim.Native.Nat.{ℕ, zero, suc, ◌+◌, ◌*◌, ◌/◌, ◌≤◌}
use native.Mathlib.Omega.{arith}
use lib.ListN.{length}
use Rattle.token.specs.declared.TokenKind.{TokenKind}
use Rattle.token.specs.declared.Token.{Token}
use Rattle.token.proofs.Bounds.{SpanOf}
use Rattle.words.specs.Words.{ascii, same_bytes}
use Rattle.words.proofs.Names.{same_eq}
use Rattle.terms.specs.Forms.{Edition}
use Rattle.terms.specs.Tree.{Tree}
use Rattle.terms.specs.Label.{Label, Declaration}
use Rattle.surface.specs.Text.{text}
use Rattle.surface.specs.Reader.{Position, Reader, pure, at_token}
use Rattle.surface.specs.Reading.{token, closing, atom, declaration_kind, body, declared, declaration, ending, onwards, declarations}
use Rattle.least_storage.proofs.FromSource.{Comes, comes_as, comes_after, comes_require}
use Rattle.least_storage.proofs.TokenBytes.{Ahead, text_bytes, Gap, AtomAhead, Taken, token_taken, taken_ahead, atom_ahead, closing_ahead}
use Rattle.least_storage.proofs.FormBytes.{Fine}
use Rattle.least_storage.proofs.TermBytes.{Held, Stored, Grown}

-- How many bodies stand in a declaration of kind 1 + k.
abbrev bodies : ℕ → ℕ
bodies zero = 0
bodies (suc j) = 1

-- The word of a declaration has nine bytes, where a body counts for three of them: `opaque` has six.
kind_bytes : (w : List ℕ) (k : ℕ) → declaration_kind w ≡ suc k → 9 ≤ length w + bodies k * 3
unfolding declaration_kind
kind_bytes w k e = go (same_bytes w (ascii "postulate")) (same_bytes w (ascii "transparent")) (same_bytes w (ascii "opaque")) refl refl refl e
  where
    long : (v : List ℕ) → same_bytes w v ≡ true → length w ≡ length v
    long v f = ap length (same_eq w v f)

    two : (j : ℕ) → suc (suc j) ≡ suc k → bodies k ≡ 1
    two j f = let i : suc j ≡ k = omega arith in sym (ap bodies i)

    go : (a b c : Bool) → same_bytes w (ascii "postulate") ≡ a → same_bytes w (ascii "transparent") ≡ b → same_bytes w (ascii "opaque") ≡ c
        → elim a as (λ _. ℕ) [ true ↦ 1 | false ↦ elim b as (λ _. ℕ) [ true ↦ 2 | false ↦ elim c as (λ _. ℕ) [ true ↦ 3 | false ↦ 0 ] ] ] ≡ suc k
        → 9 ≤ length w + bodies k * 3
    go true b c f g h e = let n : length w ≡ 9 = long (ascii "postulate") f in omega arith
    go false true c f g h e = let n : length w ≡ 11 = long (ascii "transparent") g in omega arith
    go false false true f g h e = let n : length w ≡ 6 = long (ascii "opaque") h in let m = two 1 e in omega arith
    go false false false f g h e = absurd (omega arith)

-- The name of a declaration, behind an atom: it has two bytes with what separates it, and then no atom stands at once; or it has three.
pub record Named (next : ℕ → Lexed) (hi : ℕ) (p q : Position) : Type 0 where
  pub bytes : p.offset + 2 ≤ q.offset
  pub more : (p.offset + 3 ≤ q.offset) ⊎ Gap next q.offset
  pub high : q.offset ≤ hi
  pub rows : q.rows ≡ p.rows

-- From p to q there are n bytes and more, and three for each row that is stored.
pub record Passed (hi n : ℕ) (p q : Position) : Type 0 where
  pub stored : Stored hi 0 p q
  pub bytes : p.offset + n ≤ q.offset

-- Any token, also the end, stands behind p and within the source.
pub span_high : (k : TokenKind) (lo a e hi : ℕ) → lo ≤ hi → SpanOf k lo a e hi → (lo ≤ e) × (e ≤ hi)
span_high TokenKind.LParen lo a e hi h w = (omega (arith, w.low, w.some), w.high)
span_high TokenKind.RParen lo a e hi h w = (omega (arith, w.low, w.some), w.high)
span_high TokenKind.Atom lo a e hi h w = (omega (arith, w.low, w.some), w.high)
span_high TokenKind.String lo a e hi h w = (omega (arith, w.low, w.some), w.high)
span_high TokenKind.Eof lo a e hi h w = let i : e ≡ hi = (w h).1 in (omega arith, omega arith)

module _ (E : Edition) (F : Fine E) (s : List ℕ) (whole_term : Reader (Tree Label))
    (reads : (p : Position) → Held (length s) p → Comes (λ t q. Grown (length s) (Gap (E.tokens s) p.offset) p q) (whole_term p)) where
  abbrev hi : ℕ
  hi = length s

  abbrev next : ℕ → Lexed
  next = E.tokens s

  abbrev TermFrom : Position → Tree Label → Position → Type 0
  TermFrom p t q = Grown hi (Gap next p.offset) p q

  abbrev BodyFrom : ℕ → Position → Option (Tree Label) → Position → Type 0
  BodyFrom k p b q = Stored hi (bodies k) p q

  body_comes : (k : ℕ) (p : Position) → Held hi p → Comes (BodyFrom k p) (body E s whole_term k p)
  unfolding body
  body_comes zero p h = record { rows = omega arith; slow = omega arith; high = h.high }
  body_comes (suc j) p h = comes_after (TermFrom p) (BodyFrom (suc j) p) (whole_term p) _ (reads p h) (λ t q g. g.stored)

  module _ (declared_name : Reader Token) (ends : TokenKind → Bool)
      (names : (p : Position) → Gap next p.offset → Comes (λ x q. Named next hi p q) (declared_name p)) where
    abbrev NameFrom : Position → Token → Position → Type 0
    NameFrom p x q = Named next hi p q

    abbrev From : {A : Type 0} → ℕ → Position → A → Position → Type 0
    From n p d q = Passed hi n p q

    -- Behind the word, at p. The name and the type have six bytes, with what separates them.
    named_term : (p q r : Position) → Named next hi p q → Grown hi (Gap next q.offset) q r → p.offset + 6 ≤ r.offset
    named_term p q r x a = go x.more
      where
        go : (p.offset + 3 ≤ q.offset) ⊎ Gap next q.offset → p.offset + 6 ≤ r.offset
        go (inl h) = let w = a.stored in omega arith
        go (inr g) = let i : q.offset + 4 ≤ r.offset = a.more g in let j = x.bytes in omega arith

    declared_comes : (t : Token) (k : ℕ) (p : Position) → Held hi p → Gap next p.offset
        → Comes (From (7 + bodies k * 3) p) (declared E s whole_term declared_name ends t (suc k) p)
    unfolding declared
    declared_comes t k p h g =
        let G = From {A = Declaration} (7 + bodies k * 3) p in
        comes_after (NameFrom p) G (declared_name p) _ (names p g)
        (λ x p₁ n. comes_after (TermFrom p₁) G (whole_term p₁) _ (reads p₁ (record { rows = omega arith; high = n.high }))
        (λ a p₂ v. let w = v.stored in let six = named_term p p₁ p₂ n v in
        comes_after (BodyFrom k p₂) G (body E s whole_term k p₂) _ (body_comes k p₂ (record { rows = omega arith; high = w.high }))
        (λ b p₃ u. comes_after (Ahead hi p₃) G (closing next p₃) _ (closing_ahead next hi (F.tokens s) p₃)
        (λ c p₄ z. record { stored = record { rows = omega arith; slow = omega arith; high = omega arith }; bytes = omega arith }))))

    -- Behind the parenthesis.
    declaration_comes : (p : Position) → Held hi p → Comes (From 16 p) (declaration E s whole_term declared_name ends p)
    unfolding declaration declared
    declaration_comes p h =
        comes_after (AtomAhead next hi p) (From 16 p) (atom next p) _ (atom_ahead next hi (F.tokens s) p)
        (λ t q a. by t q a (declaration_kind (text s t)) refl)
      where
        by : (t : Token) (q : Position) → AtomAhead next hi p t q → (k : ℕ) → declaration_kind (text s t) ≡ k
            → Comes (From {A = Declaration} 16 p) (declared E s whole_term declared_name ends t k q)
        by t q a zero e = refl
        by t q a (suc k) e =
            let v = a.ahead in
            let n : 9 ≤ length (text s t) + bodies k * 3 = kind_bytes (text s t) k e in
            let m : t.start + length (text s t) ≤ t.end = text_bytes s (text s t) t refl (omega arith) in
            comes_as (From {A = Declaration} (7 + bodies k * 3) q) (From {A = Declaration} 16 p) (declared E s whole_term declared_name ends t (suc k) q)
            (declared_comes t k q (record { rows = omega arith; high = omega arith }) a.gap)
            (λ d r w. let y = w.stored in record { stored = record { rows = omega arith; slow = omega arith; high = y.high }; bytes = omega arith })

    -- Declarations to the end, from p on.
    abbrev ListFrom : Position → List Declaration → Position → Type 0
    ListFrom p ds q = Passed hi (length ds * 17) p q

    ending_comes : (p q : Position) (t : Token) (k : TokenKind) → Held hi p → Taken next hi (F.tokens s) p t q
        → Comes (ListFrom p) (ending E s whole_term declared_name ends t k q)
    unfolding ending
    ending_comes p q t k h a =
        let y = span_high t.kind p.offset t.start t.end hi h.high a.span in
        let e = a.end in
        let r = a.rows in
        comes_require (ListFrom p) (ends k) (at_token Class.Malformed t) (pure []) q refl
        (λ b. record { stored = record { rows = omega arith; slow = omega (arith, y.0); high = omega (arith, y.1) }; bytes = omega (arith, y.0) })

    onwards_comes : (p q : Position) (t : Token) (k : TokenKind) (more : Reader (List Declaration)) → t.kind ≡ k → Held hi p → Taken next hi (F.tokens s) p t q
        → (Ahead hi p t q → Comes (ListFrom p) (more q)) → Comes (ListFrom p) (onwards E s whole_term declared_name ends more t k q)
    unfolding onwards
    onwards_comes p q t TokenKind.LParen more k h a f = f (taken_ahead next hi (F.tokens s) p t q a (λ i. let z : ◌≡◌ {A = ℕ} 0 1 = cc in omega arith))
    onwards_comes p q t TokenKind.RParen more k h a f = ending_comes p q t TokenKind.RParen h a
    onwards_comes p q t TokenKind.Atom more k h a f = ending_comes p q t TokenKind.Atom h a
    onwards_comes p q t TokenKind.String more k h a f = ending_comes p q t TokenKind.String h a
    onwards_comes p q t TokenKind.Eof more k h a f = ending_comes p q t TokenKind.Eof h a

    -- Where k declarations and sixteen bytes more stand before p, and there is room for n others.
    pub declarations_comes : (n k : ℕ) (p : Position) → Held (length s) p → 16 + k * 17 ≤ p.offset → length s / 17 ≤ n + k
        → Comes (λ ds q. Passed (length s) (length ds * 17) p q) (declarations E s whole_term declared_name ends n p)
    unfolding declarations
    declarations_comes zero k p h b r =
        comes_after (Taken next hi (F.tokens s) p) (ListFrom p) (token next p) _ (token_taken next hi (F.tokens s) p)
        (λ t q a. onwards_comes p q t t.kind _ refl h a (λ o. absurd (omega arith)))
    declarations_comes (suc n) k p h b r =
        comes_after (Taken next hi (F.tokens s) p) (ListFrom p) (token next p) _ (token_taken next hi (F.tokens s) p)
        (λ t q a. onwards_comes p q t t.kind _ refl h a
        (λ o. comes_after (From 16 q) (ListFrom p) (declaration E s whole_term declared_name ends q) _
        (declaration_comes q (record { rows = omega arith; high = omega arith }))
        (λ d u v. let w = v.stored in
        comes_after (ListFrom u) (ListFrom p) (declarations E s whole_term declared_name ends n u) _
        (declarations_comes n (suc k) u (record { rows = omega arith; high = w.high }) (omega (arith, v.bytes)) (omega arith))
        (λ l x y. let z = y.stored in
        record { stored = record { rows = omega arith; slow = omega arith; high = z.high }; bytes = omega (arith, v.bytes, y.bytes) }))))
