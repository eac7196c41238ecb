-- Document 02, Req 03: which tokens are a core text, production by production, as `Parser` in format/parser.rs takes them. Its terms are those
-- of surface/specs/Grammar with the forms of core text.
use Rattle.std.specs.Prelude.{◌≡◌, List, [], ◌∷◌, ℕ, ◌+◌, ◌-◌}
use Rattle.std.proofs.Math.Option.{Option, none, some}
use Rattle.token.specs.declared.TokenKind.{TokenKind}
use Rattle.token.specs.declared.Token.{Token}
use Rattle.core_token.specs.CoreToken.{next_core_token}
use Rattle.words.specs.Words.{ascii}
use Rattle.terms.specs.Tree.{nil, Tree, tree}
use Rattle.terms.specs.Label.{Label, Declaration}
use Rattle.surface.specs.Text.{text}
use Rattle.surface.specs.Grammar.{Tokens, Opens, Closes, Word, Terms}
use Rattle.core_text.specs.TextReading.{text_edition}

-- STRING
abbrev pub Quotes : Token → Type 0
Quotes x = x.kind ≡ TokenKind.String

-- What is kept of a string: the bytes between its quotes, as they stand.
abbrev pub between : Token → Token
between x = record { kind = TokenKind.String; start = x.start + 1; end = x.end - 1 }

-- The string of the bytes w.
pub record Spells (t : List ℕ) (w : List ℕ) (x : Token) : Type 0 where
  pub quotes : Quotes x
  pub is : text t (between x) ≡ w

-- A declaration whose name is the string x.
abbrev pub declaration_of : ℕ → Token → Tree Label → Option (Tree Label) → Declaration
declaration_of k x a b = record { kind = k; start = (between x).start; length = (between x).end - (between x).start; type = a; body = b }

-- `TextDeclarations t ts ds us`: the tokens ts begin with the declarations ds, and us follows them.
pub data TextDeclarations (t : List ℕ) : List Token → List Declaration → List Token → Type 0 where
  no_declaration : {ts : List Token} → TextDeclarations t ts [] ts
  -- `(postulate STRING TYPE)`
  postulate : {o w x c : Token} {ts us vs : List Token} {a : Tree Label} {ds : List Declaration}
      → Opens o → Word t (ascii "postulate") w → Quotes x → Terms text_edition t 1 ts (tree a nil) (c ∷ us) → Closes c
      → TextDeclarations t us ds vs
      → TextDeclarations t (o ∷ w ∷ x ∷ ts) (declaration_of 1 x a none ∷ ds) vs
  -- `(transparent STRING TYPE BODY)`
  transparent : {o w x c : Token} {ts us vs : List Token} {a b : Tree Label} {ds : List Declaration}
      → Opens o → Word t (ascii "transparent") w → Quotes x → Terms text_edition t 2 ts (tree a (tree b nil)) (c ∷ us) → Closes c
      → TextDeclarations t us ds vs
      → TextDeclarations t (o ∷ w ∷ x ∷ ts) (declaration_of 2 x a (some b) ∷ ds) vs
  -- `(opaque STRING TYPE BODY)`
  opaque : {o w x c : Token} {ts us vs : List Token} {a b : Tree Label} {ds : List Declaration}
      → Opens o → Word t (ascii "opaque") w → Quotes x → Terms text_edition t 2 ts (tree a (tree b nil)) (c ∷ us) → Closes c
      → TextDeclarations t us ds vs
      → TextDeclarations t (o ∷ w ∷ x ∷ ts) (declaration_of 3 x a (some b) ∷ ds) vs

-- `TextHead t ts us`: the tokens ts begin with the head, and us follows it.
pub data TextHead (t : List ℕ) : List Token → List Token → Type 0 where
  -- `(hott-core`, `(format 0 1)`, `(theory "mltt-core" 0 1)`, `(declarations`
  head : {o w p v a b c q u n d e f r k : Token} {ts : List Token}
      → Opens o → Word t (ascii "hott-core") w
      → Opens p → Word t (ascii "format") v → Word t (ascii "0") a → Word t (ascii "1") b → Closes c
      → Opens q → Word t (ascii "theory") u → Spells t (ascii "mltt-core") n → Word t (ascii "0") d → Word t (ascii "1") e → Closes f
      → Opens r → Word t (ascii "declarations") k
      → TextHead t (o ∷ w ∷ p ∷ v ∷ a ∷ b ∷ c ∷ q ∷ u ∷ n ∷ d ∷ e ∷ f ∷ r ∷ k ∷ ts) ts

-- The text t is a core text with the declarations ds: the head, the declarations, and the parentheses that close `(declarations` and the text.
pub record DerivesText (t : List ℕ) (ds : List Declaration) : Type 0 where
  pub tokens : List Token
  pub lexed : Tokens (next_core_token t) 0 tokens
  pub rest : List Token
  pub head : TextHead t tokens rest
  pub close : Token
  pub last : Token
  pub declarations : TextDeclarations t rest ds (close ∷ last ∷ [])
  pub closes : Closes close
  pub ends : Closes last
