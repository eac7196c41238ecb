-- What is printed for a core text is its own tokens with a print's layout between them: atoms, numerals, strings and parentheses are printed as
-- their own bytes.
use mathlib.Core.Path.{◌≡◌, refl, sym, ap, ◌∙◌}
use mathlib.Core.List.{List, [], ◌∷◌, ◌++◌, append_assoc, map}
use mathlib.Core.Bool.{Bool, true, false}
use Prim.Native.Nat.{ℕ}
use Rattle.token.specs.declared.TokenKind.{TokenKind}
use Rattle.token.specs.declared.Token.{Token}
use Rattle.core_token.specs.CoreToken.{next_core_token}
use Rattle.terms.specs.Tree.{Forest, relabel}
use Rattle.terms.specs.Label.{Label, Declaration, named}
use Rattle.surface.specs.Text.{text, is_open}
use Rattle.surface.specs.Grammar.{Tokens, the_end, the_next, Opens, Closes, Word, Terms, no_term, leaf_term, ref_term, universe_term, binding_term, plain_term}
use Rattle.core_text.specs.TextReading.{text_edition}
use Rattle.core_text.specs.TextGrammar.{Quotes, between, Spells, TextDeclarations, no_declaration, postulate, transparent, opaque, TextHead, head, DerivesText}
use Rattle.printing.specs.Printing.{print_shape, print_terms, declaration_word, print_declarations, text_head, print_module}
use Rattle.core_module.specs.CoreText.{spelled_text}
use Rattle.core_layout.specs.inner.Layout.{gap}
use Rattle.core_layout.proofs.Starts.{open_text, close_text, string_text}
use Rattle.core_layout.proofs.Joined.{join}
use Rattle.core_layout.proofs.Forms.{tag_word, tag_prints, no_name, no_binder}

module _ (t : List ℕ) where
  -- The bytes of parentheses and strings.
  record Shows (u : Token) : Type 0 where
    opens : Opens u → text t u ≡ 40 ∷ []
    closes : Closes u → text t u ≡ 41 ∷ []
    quotes : Quotes u → text t u ≡ 34 ∷ (text t (between u) ++ (34 ∷ []))

  abbrev Written : List Token → Type 0
  Written [] = Unit {0}
  Written (u ∷ ts) = Shows u × Written ts

  written : {at : ℕ} {ts : List Token} → Tokens (next_core_token t) at ts → Written ts
  written (the_end e k) = tt
  written {at} (the_next {t = u} e g k) = (record { opens = open_text t at u e; closes = close_text t at u e; quotes = string_text t at u e }, written k)

  -- Joined, some tokens are these bytes.
  record Joins (tight : Bool) (ts : List Token) (m : List ℕ) : Type 0 where
    bytes : join t tight ts ≡ m

  -- One token in front of others.
  module _ (tight : Bool) {u : Token} {ts : List Token} {m : List ℕ} where
    with_open : Shows u → Opens u → Joins true ts m → Joins tight (u ∷ ts) (gap tight TokenKind.LParen ++ (40 ∷ m))
    with_open s k e = record {
      bytes = (λ i. gap tight (k i) ++ (s.opens k i ++ join t (is_open (k i)) ts)) ∙ ap (λ (l : List ℕ). gap tight TokenKind.LParen ++ (40 ∷ l)) e.bytes;
    }

    with_close : Shows u → Closes u → Joins false ts m → Joins tight (u ∷ ts) (gap tight TokenKind.RParen ++ (41 ∷ m))
    with_close s k e = record {
      bytes = (λ i. gap tight (k i) ++ (s.closes k i ++ join t (is_open (k i)) ts)) ∙ ap (λ (l : List ℕ). gap tight TokenKind.RParen ++ (41 ∷ l)) e.bytes;
    }

    with_word : {w : List ℕ} → Word t w u → Joins false ts m → Joins tight (u ∷ ts) (gap tight TokenKind.Atom ++ (w ++ m))
    with_word {w} f e = record {
      bytes = (λ i. gap tight (f.atom i) ++ (f.is i ++ join t (is_open (f.atom i)) ts)) ∙ ap (λ (l : List ℕ). gap tight TokenKind.Atom ++ (w ++ l)) e.bytes;
    }

    with_string : {w : List ℕ} → Shows u → Spells t w u → Joins false ts m → Joins tight (u ∷ ts) (gap tight TokenKind.String ++ (34 ∷ (w ++ (34 ∷ m))))
    with_string {w} s f e =
        let k = f.quotes in
        record {
          bytes = (λ i. gap tight (k i) ++ (s.quotes k i ++ join t (is_open (k i)) ts))
              ∙ (λ i. gap tight TokenKind.String ++ ((34 ∷ (f.is i ++ (34 ∷ []))) ++ e.bytes i))
              ∙ ap (λ (l : List ℕ). gap tight TokenKind.String ++ (34 ∷ l)) (append_assoc w (34 ∷ []) m);
        }

  -- Terms, and what follows them.
  record TermsJoin (ts : List Token) (f : Forest Label) (us : List Token) : Type 0 where
    joins : (m : List ℕ) → Joins false us m → Joins false ts (print_terms (relabel (named t) f) ++ m)
    left : Written us

  -- A term that is printed as q, and the terms r behind it.
  first_term : {ts : List Token} {q p : List ℕ} (r m : List ℕ) → q ≡ p → Joins false ts (32 ∷ (p ++ (r ++ m))) → Joins false ts (32 ∷ ((q ++ r) ++ m))
  first_term {p = p} r m e j = record {
    bytes = j.bytes ∙ sym (ap (λ (l : List ℕ). 32 ∷ ((l ++ r) ++ m)) e ∙ ap {B = List ℕ} (λ (l : List ℕ). 32 ∷ l) (append_assoc p r m));
  }

  -- The same bytes, grouped otherwise.
  reassociated : {tight : Bool} {ts : List Token} {a b : List ℕ} → a ≡ b → Joins tight ts a → Joins tight ts b
  reassociated e j = record { bytes = j.bytes ∙ e }

  terms_join : {n : ℕ} {ts us : List Token} {f : Forest Label} → Terms text_edition t n ts f us → Written ts → TermsJoin ts f us
  unfolding print_terms print_shape
  terms_join no_term w = record { joins = λ m j. j; left = w }
  terms_join (leaf_term {r = r} {f = f} g k) w =
      let i = terms_join k w.1 in
      record {
        joins = λ m j. first_term (print_terms (relabel (named t) r)) m (tag_prints g _ []) (with_word false (record { atom = g.atom; is = tag_word g }) (i.joins m j));
        left = i.left;
      }
  terms_join (ref_term o g x c k) w = no_name g
  terms_join (universe_term {x = x} {r = r} {f = f} o g y c k) w =
      let i = terms_join k w.1.1.1.1 in
      let R = print_terms (relabel (named t) r) in
      record {
        joins = λ m j. first_term R m (tag_prints g (text t x) []) (reassociated (simp append_assoc)
            (with_open false w.0 o (with_word true (record { atom = g.atom; is = tag_word g }) (with_word false (record { atom = y.atom; is = refl })
            (with_close false w.1.1.1.0 c (i.joins m j))))));
        left = i.left;
      }
  terms_join (binding_term o g x a c k) w = no_binder g
  terms_join (plain_term {a = a} {r = r} {f = f} o g d c k) w =
      let h = terms_join d w.1.1 in
      let i = terms_join k h.left.1 in
      let A = print_terms (relabel (named t) a) in
      let R = print_terms (relabel (named t) r) in
      record {
        joins = λ m j. first_term R m (tag_prints g _ A) (reassociated (simp append_assoc)
            (with_open false w.0 o (with_word true (record { atom = g.atom; is = tag_word g })
            (h.joins (41 ∷ (R ++ m)) (with_close false h.left.0 c (i.joins m j))))));
        left = i.left;
      }

  -- Declarations, and what follows them.
  record DeclarationsJoin (ts : List Token) (ds : List Declaration) (us : List Token) : Type 0 where
    joins : (m : List ℕ) → Joins false us m → Joins false ts (print_declarations (map (spelled_text t) ds) ++ m)
    left : Written us

  -- A declaration by its word, its name and its terms, and what follows it.
  first_declaration : {n : ℕ} {o w x c : Token} {ts us vs : List Token} {f : Forest Label} {v : List ℕ} {ds : List Declaration}
      → Opens o → Word t v w → Quotes x → Terms text_edition t n ts f (c ∷ us) → Closes c → Written (o ∷ w ∷ x ∷ ts) → (Written us → DeclarationsJoin us ds vs)
      → ((m : List ℕ) → Joins false vs m → Joins false (o ∷ w ∷ x ∷ ts)
      ((32 ∷ 40 ∷ (v ++ (32 ∷ 34 ∷ (text t (between x) ++ (34 ∷ (print_terms (relabel (named t) f) ++ (41 ∷ print_declarations (map (spelled_text t) ds)))))))) ++ m)) × Written vs
  first_declaration {f = f} {ds = ds} o w x d c h l =
      let i = terms_join d h.1.1.1 in
      let k = l i.left.1 in
      let D = print_declarations (map (spelled_text t) ds) in (
        λ m j. reassociated (simp append_assoc) (with_open false h.0 o (with_word true w (with_string false h.1.1.0 (record { quotes = x; is = refl })
            (i.joins (41 ∷ (D ++ m)) (with_close false i.left.0 c (k.joins m j)))))),
        k.left,
      )

  declarations_join : {ts us : List Token} {ds : List Declaration} → TextDeclarations t ts ds us → Written ts → DeclarationsJoin ts ds us
  unfolding print_declarations declaration_word
  declarations_join no_declaration w = record { joins = λ m j. j; left = w }
  declarations_join (postulate o w x d c k) h = let i = first_declaration o w x d c h (λ y. declarations_join k y) in record { joins = i.0; left = i.1 }
  declarations_join (transparent o w x d c k) h = let i = first_declaration o w x d c h (λ y. declarations_join k y) in record { joins = i.0; left = i.1 }
  declarations_join (opaque o w x d c k) h = let i = first_declaration o w x d c h (λ y. declarations_join k y) in record { joins = i.0; left = i.1 }

  head_join : {ts us : List Token} → TextHead t ts us → Written ts → ((m : List ℕ) → Joins false us m → Joins true ts (text_head ++ m)) × Written us
  head_join (head o₁ w₁ o₂ w₂ w₃ w₄ c₁ o₃ w₅ x w₆ w₇ c₂ o₄ w₈) h₁ =
      let h₂ = h₁.1 in
      let h₃ = h₂.1 in
      let h₄ = h₃.1 in
      let h₅ = h₄.1 in
      let h₆ = h₅.1 in
      let h₇ = h₆.1 in
      let h₈ = h₇.1 in
      let h₉ = h₈.1 in
      let i₁ = h₉.1 in
      let i₂ = i₁.1 in
      let i₃ = i₂.1 in
      let i₄ = i₃.1 in
      let i₅ = i₄.1 in
      let i₆ = i₅.1 in (
        λ m j.
            with_open true h₁.0 o₁ (with_word true w₁
            (with_open false h₃.0 o₂ (with_word true w₂ (with_word false w₃ (with_word false w₄ (with_close false h₇.0 c₁
            (with_open false h₈.0 o₃ (with_word true w₅ (with_string false i₁.0 x (with_word false w₆ (with_word false w₇ (with_close false i₄.0 c₂
            (with_open false i₅.0 o₄ (with_word true w₈ j)))))))))))))),
        i₆.1,
      )

  -- The whole print.
  pub printed : (ds : List Declaration) (d : DerivesText t ds) → print_module (map (spelled_text t) ds) ≡ join t true d.tokens
  unfolding print_module
  printed ds d =
      let h = head_join d.head (written d.lexed) in
      let i = declarations_join d.declarations h.1 in
      let e : Joins false [] (10 ∷ []) = record { bytes = refl } in
      sym (h.0 _ (i.joins _ (with_close false i.left.0 d.closes (with_close false i.left.1.0 d.ends e)))).bytes
