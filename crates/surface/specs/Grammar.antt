-- Document 01, "The module read", and document 02, Req 10: which tokens are a module, a declaration, a term, production by production.
use Rattle.std.specs.Prelude.{◌≡◌, List, [], ◌∷◌, true, false, ℕ, suc, ◌-◌, Ok}
use Rattle.std.proofs.Math.Option.{none, some}
use Rattle.token.specs.Token.{next_token, Lexed}
use Rattle.token.specs.declared.TokenKind.{TokenKind}
use Rattle.token.specs.declared.Token.{Token}
use Rattle.words.specs.Words.{ascii, identifier, numeral}
use Rattle.terms.specs.Forms.{Shape, alone, with_name, with_numeral, binding, plain, Form, Edition, edition_0_1, edition_0_2, form_of_word}
use Rattle.terms.specs.Tree.{Forest, nil, node, Tree, tree}
use Rattle.terms.specs.Label.{Label, Declaration}
use Rattle.surface.specs.Text.{text, label_with, label_alone}

-- The tokens from an offset on are ts, and then comes the end token; `next` gives the one at or behind an offset.
pub data Tokens (next : ℕ → Lexed) : ℕ → List Token → Type 0 where
  the_end : {at : ℕ} {t : Token} → next at ≡ Ok t → t.kind ≡ TokenKind.Eof → Tokens next at []
  the_next : {at : ℕ} {t : Token} {ts : List Token} → next at ≡ Ok t → ¬ (t.kind ≡ TokenKind.Eof) → Tokens next t.end ts → Tokens next at (t ∷ ts)

abbrev pub Opens : Token → Type 0
Opens t = t.kind ≡ TokenKind.LParen

abbrev pub Closes : Token → Type 0
Closes t = t.kind ≡ TokenKind.RParen

-- The atom w.
pub record Word (s : List ℕ) (w : List ℕ) (t : Token) : Type 0 where
  pub atom : t.kind ≡ TokenKind.Atom
  pub is : text s t ≡ w

-- NUMERAL. "A numeral is `0` or digits without a leading 0, of any length."
pub record Numeral (s : List ℕ) (t : Token) : Type 0 where
  pub atom : t.kind ≡ TokenKind.Atom
  pub is : numeral (text s t) ≡ true

-- NAME. "Identifier: first a letter or `_`, then letters, digits, `_`. Reserved, never a name."
pub record Name (E : Edition) (s : List ℕ) (t : Token) : Type 0 where
  pub atom : t.kind ≡ TokenKind.Atom
  pub unreserved : E.reserved (text s t) ≡ false
  pub is : identifier (text s t) ≡ true

-- The word of the form f, which has the shape c.
pub record Tag (E : Edition) (s : List ℕ) (f : Form) (c : Shape) (t : Token) : Type 0 where
  pub atom : t.kind ≡ TokenKind.Atom
  pub is : form_of_word (text s t) E.forms ≡ some f
  pub shape : f.shape ≡ c

-- `Terms E s n ts f us`: the tokens ts begin with n terms, which are f, and us follows them.
pub data Terms (E : Edition) (s : List ℕ) : ℕ → List Token → Forest Label → List Token → Type 0 where
  -- no term
  no_term : {ts : List Token} → Terms E s 0 ts nil ts
  -- WORD: "Leaf terms: `empty unit star nat zero`"
  leaf_term : {t : Token} {ts us : List Token} {n : ℕ} {r : Forest Label} {f : Form}
      → Tag E s f alone t
      → Terms E s n ts r us
      → Terms E s (suc n) (t ∷ ts) (node (label_alone f t.start) nil r) us
  -- `(ref NAME)`
  ref_term : {o t x c : Token} {ts us : List Token} {n : ℕ} {r : Forest Label} {f : Form}
      → Opens o → Tag E s f with_name t → Name E s x → Closes c
      → Terms E s n ts r us
      → Terms E s (suc n) (o ∷ t ∷ x ∷ c ∷ ts) (node (label_with f x o.start) nil r) us
  -- `(universe NUMERAL)`
  universe_term : {o t x c : Token} {ts us : List Token} {n : ℕ} {r : Forest Label} {f : Form}
      → Opens o → Tag E s f with_numeral t → Numeral s x → Closes c
      → Terms E s n ts r us
      → Terms E s (suc n) (o ∷ t ∷ x ∷ c ∷ ts) (node (label_with f x o.start) nil r) us
  -- (WORD NAME T .. T): "`(pi NAME T T)`, `(sigma NAME T T)` and `(lam NAME T)` bind."
  binding_term : {o t x c : Token} {ts us vs : List Token} {n : ℕ} {a r : Forest Label} {f : Form}
      → Opens o → Tag E s f binding t → Name E s x → Terms E s f.arity ts a (c ∷ us) → Closes c
      → Terms E s n us r vs
      → Terms E s (suc n) (o ∷ t ∷ x ∷ ts) (node (label_with f x o.start) a r) vs
  -- (WORD T .. T): "One argument: `fst snd refl succ`; two: .."
  plain_term : {o t c : Token} {ts us vs : List Token} {n : ℕ} {a r : Forest Label} {f : Form}
      → Opens o → Tag E s f plain t → Terms E s f.arity ts a (c ∷ us) → Closes c
      → Terms E s n us r vs
      → Terms E s (suc n) (o ∷ t ∷ ts) (node (label_alone f o.start) a r) vs

-- `Declarations E s ts ds`: the tokens ts are the declarations ds.
pub data Declarations (E : Edition) (s : List ℕ) : List Token → List Declaration → Type 0 where
  no_declaration : Declarations E s [] []
  -- `(postulate NAME TYPE)`
  postulate : {o t x c : Token} {ts us : List Token} {a : Tree Label} {ds : List Declaration}
      → Opens o → Word s (ascii "postulate") t → Name E s x → Terms E s 1 ts (tree a nil) (c ∷ us) → Closes c
      → Declarations E s us ds
      → Declarations E s (o ∷ t ∷ x ∷ ts) (record { kind = 1; start = x.start; length = x.end - x.start; type = a; body = none } ∷ ds)
  -- `(transparent NAME TYPE BODY)`
  transparent : {o t x c : Token} {ts us : List Token} {a b : Tree Label} {ds : List Declaration}
      → Opens o → Word s (ascii "transparent") t → Name E s x → Terms E s 2 ts (tree a (tree b nil)) (c ∷ us) → Closes c
      → Declarations E s us ds
      → Declarations E s (o ∷ t ∷ x ∷ ts) (record { kind = 2; start = x.start; length = x.end - x.start; type = a; body = some b } ∷ ds)
  -- `(opaque NAME TYPE BODY)`
  opaque : {o t x c : Token} {ts us : List Token} {a b : Tree Label} {ds : List Declaration}
      → Opens o → Word s (ascii "opaque") t → Name E s x → Terms E s 2 ts (tree a (tree b nil)) (c ∷ us) → Closes c
      → Declarations E s us ds
      → Declarations E s (o ∷ t ∷ x ∷ ts) (record { kind = 3; start = x.start; length = x.end - x.start; type = a; body = some b } ∷ ds)

-- The two numerals of an edition: 0 1, or 0 2.
pub data Version (s : List ℕ) (v₀ v₁ : Token) : Edition → Type 0 where
  version_0_1 : Word s (ascii "0") v₀ → Word s (ascii "1") v₁ → Version s v₀ v₁ edition_0_1
  version_0_2 : Word s (ascii "0") v₀ → Word s (ascii "2") v₁ → Version s v₀ v₁ edition_0_2

-- `Head s ts E x us`: the tokens ts begin with the head, which gives the edition E and the module's name x, and us follows it.
pub data Head (s : List ℕ) : List Token → Edition → Token → List Token → Type 0 where
  -- `(surface 0 1)` or `(surface 0 2)`, `(module NAME)`
  head : {o w v₀ v₁ c p m x d : Token} {ts : List Token} {E : Edition}
      → Opens o → Word s (ascii "surface") w → Version s v₀ v₁ E → Closes c
      → Opens p → Word s (ascii "module") m → Name E s x → Closes d
      → Head s (o ∷ w ∷ v₀ ∷ v₁ ∷ c ∷ p ∷ m ∷ x ∷ d ∷ ts) E x ts

-- The source s is a module of either edition with the declarations ds: "`(surface 0 1)`, `(module NAME)`, then declarations".
pub record Derives (s : List ℕ) (ds : List Declaration) : Type 0 where
  pub tokens : List Token
  pub lexed : Tokens (next_token s) 0 tokens
  pub edition : Edition
  pub name : Token
  pub rest : List Token
  pub head : Head s tokens edition name rest
  pub declarations : Declarations edition s rest ds
