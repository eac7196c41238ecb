-- The names and numerals of a module are parts of its source that do not overlap: together they are no longer than it.
use Prim.Native.Nat.{ℕ, ◌+◌, ◌-◌, ◌≤◌}
use mathlib.Core.Path.{◌≡◌, refl, subst}
use mathlib.Core.List.{List, [], ◌∷◌}
use native.Mathlib.Omega.{arith}
use lib.ListN.{length}
use Rattle.token.specs.Token.{next_token}
use Rattle.token.specs.declared.TokenKind.{TokenKind}
use Rattle.token.specs.declared.Token.{Token}
use Rattle.token.proofs.Bounds.{Span, SpanOf, Within, bounds}
use Rattle.terms.specs.Forms.{Edition}
use Rattle.terms.specs.Tree.{Forest, nil, node}
use Rattle.terms.specs.Label.{Label, Declaration, trees}
use Rattle.surface.specs.Grammar.{Tokens, the_end, the_next, Terms, no_term, leaf_term, ref_term, universe_term, binding_term, plain_term, Declarations, no_declaration, postulate, transparent, opaque, Head, head, Derives}

-- The bytes of tokens, of the atoms that terms hold, and of those of declarations.
abbrev token_bytes : List Token → ℕ
token_bytes [] = 0
token_bytes (t ∷ ts) = (t.end - t.start) + token_bytes ts

abbrev pub label_bytes : Forest Label → ℕ
label_bytes nil = 0
label_bytes (node l a r) = label_bytes a + (l.length + label_bytes r)

abbrev pub term_bytes : List Declaration → ℕ
term_bytes [] = 0
term_bytes (d ∷ l) = label_bytes (trees d) + term_bytes l

abbrev pub name_bytes : List Declaration → ℕ
name_bytes [] = 0
name_bytes (d ∷ l) = d.length + name_bytes l

-- A token that is not the end token has bytes, behind the offset that it was asked at.
spans : (k : TokenKind) (lo a e hi : ℕ) → ¬ (k ≡ TokenKind.Eof) → SpanOf k lo a e hi → Span lo a e hi
spans TokenKind.LParen lo a e hi g w = w
spans TokenKind.RParen lo a e hi g w = w
spans TokenKind.Atom lo a e hi g w = w
spans TokenKind.String lo a e hi g w = w
spans TokenKind.Eof lo a e hi g w = absurd (g refl)

tokens_inside : (s : List ℕ) (at : ℕ) (ts : List Token) → Tokens (next_token s) at ts → at ≤ length s → token_bytes ts + at ≤ length s
tokens_inside s at [] (the_end e g) h = omega arith
tokens_inside s at (t ∷ ts) (the_next e g k) h =
    let w = spans t.kind at t.start t.end (length s) g (subst (Within at (length s)) e (bounds s at)) in
    omega (arith, w.low, w.some, w.high, tokens_inside s t.end ts k w.high)

module _ {E : Edition} {s : List ℕ} where
  terms_inside : {n : ℕ} {ts us : List Token} {f : Forest Label} → Terms E s n ts f us → label_bytes f + token_bytes us ≤ token_bytes ts
  terms_inside no_term = omega arith
  terms_inside (leaf_term g k) = omega (arith, terms_inside k)
  terms_inside (ref_term o g x c k) = omega (arith, terms_inside k)
  terms_inside (universe_term o g x c k) = omega (arith, terms_inside k)
  terms_inside (binding_term o g x d c k) = omega (arith, terms_inside d, terms_inside k)
  terms_inside (plain_term o g d c k) = omega (arith, terms_inside d, terms_inside k)

  declarations_inside : {ts : List Token} {ds : List Declaration} → Declarations E s ts ds → name_bytes ds + term_bytes ds ≤ token_bytes ts
  declarations_inside no_declaration = omega arith
  declarations_inside (postulate o t x a c k) = omega (arith, terms_inside a, declarations_inside k)
  declarations_inside (transparent o t x a c k) = omega (arith, terms_inside a, declarations_inside k)
  declarations_inside (opaque o t x a c k) = omega (arith, terms_inside a, declarations_inside k)

head_inside : {s : List ℕ} {ts us : List Token} {E : Edition} {x : Token} → Head s ts E x us → token_bytes us ≤ token_bytes ts
head_inside (head o w v c p m x d) = omega arith

pub atoms_inside : (s : List ℕ) (ds : List Declaration) → Derives s ds → name_bytes ds + term_bytes ds ≤ length s
atoms_inside s ds d = omega (arith, tokens_inside s 0 d.tokens d.lexed (omega arith), head_inside d.head, declarations_inside d.declarations)
