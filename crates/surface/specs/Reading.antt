-- Document 01, "The module read" and "When nothing is loaded", and document 02, Req 10: reading order, as a plain recursive reader.
use Rattle.token.specs.declared.Class.{Class}
use Rattle.std.specs.Prelude.{List, [], ◌∷◌, Bool, true, false, not, ◌&&◌, cond, ℕ, zero, suc, ◌-◌, ltb, Ok, Err}
use Rattle.std.proofs.Math.Option.{Option, none, some}
use Rattle.token.specs.Token.{next_token, Lexed}
use Rattle.token.specs.declared.TokenKind.{TokenKind}
use Rattle.token.specs.declared.Token.{Token}
use Rattle.words.specs.Words.{ascii, same_bytes, identifier, numeral}
use Rattle.terms.specs.Forms.{Shape, alone, with_name, with_numeral, binding, plain, Form, Edition, edition_0_1, edition_0_2, form_of_word}
use Rattle.terms.specs.Tree.{Forest, nil, Tree, tree}
use Rattle.terms.specs.Label.{Label, Declaration}
use Rattle.surface.specs.Text.{text, label_with, label_alone, is_open, is_close, is_atom, is_end}
use Rattle.surface.specs.Reader.{Result, done, refused, Reader, ◌>>=◌, ◌>>◌, pure, refuse, position, move_to, require, nowhere, at_token}

-- What a term begins with: the whole of a term without arguments; or a frame, with the number of its arguments.
pub data Beginning : Type 0 where
  leaf : Label → Beginning
  frame : Label → (arity : ℕ) → Beginning

-- Terms, given the readers of what they begin with and of what closes a form, and the number of rows that there is room for.
module _ (beginning : Reader Beginning) (close : Reader Token) (limit : ℕ) where
  -- "8 surface row table (..) full when a completed term must be stored"
  unfoldable pub store : Tree Label → Reader (Tree Label)
  store t = do
    p ← position
    require (ltb p.rows limit) (nowhere Class.SurfaceFull)
    move_to (record { offset = p.offset; rows = suc p.rows })
    pure t

  -- The rest of a term, given the reader of so many arguments.
  unfoldable pub finish : (ℕ → Reader (Forest Label)) → Beginning → Reader (Tree Label)
  finish arguments (leaf l) = store (record { label = l; args = nil })
  finish arguments (frame l n) = do
    a ← arguments n
    c ← close
    store (record { label = l; args = a })

  -- n terms, given the reader of one.
  unfoldable pub several : Reader (Tree Label) → ℕ → Reader (Forest Label)
  several one zero = pure nil
  several one (suc n) = do
    t ← one
    r ← several one n
    pure (tree t r)

  -- A term, where so many frames may still be opened.
  -- "7 more than 512 frames open in one term, nowhere, given after the tag and binder"
  unfoldable pub term : ℕ → Reader (Tree Label)
  term zero = do
    b ← beginning
    finish (λ n. refuse (nowhere Class.Frames)) b
  term (suc frames) = do
    b ← beginning
    finish (several (term frames)) b

abbrev pub lexed : ℕ → Lexed → Result Token
lexed rows (Err r) = refused r
lexed rows (Ok t) = done t (record { offset = t.end; rows = rows })

-- Tokens, given the one at or behind an offset. "1 malformed, with offset: that byte's, else the first byte of the token that doesn't fit"
module _ (next : ℕ → Lexed) where
  unfoldable pub token : Reader Token
  token p = lexed p.rows (next p.offset)

  unfoldable pub opening : Reader Token
  opening = do
    t ← token
    require (is_open t.kind) (at_token Class.Malformed t)
    pure t

  unfoldable pub closing : Reader Token
  closing = do
    t ← token
    require (is_close t.kind) (at_token Class.Malformed t)
    pure t

  unfoldable pub atom : Reader Token
  atom = do
    t ← token
    require (is_atom t.kind) (at_token Class.Malformed t)
    pure t

  module _ (s : List ℕ) where
    unfoldable pub word : List ℕ → Reader Token
    word w = do
      t ← atom
      require (same_bytes (text s t) w) (at_token Class.Malformed t)
      pure t

    unfoldable pub natural : Reader Token
    natural = do
      t ← atom
      require (numeral (text s t)) (at_token Class.Malformed t)
      pure t

-- "declaration record: kind (postulate 1, transparent 2, opaque 3)": the kind of a declaration's word, 0 for any other word.
unfoldable pub declaration_kind : List ℕ → ℕ
declaration_kind w =
    elim (same_bytes w (ascii "postulate")) [
      | true ↦ 1
      | false ↦ elim (same_bytes w (ascii "transparent")) [ true ↦ 2 | false ↦ elim (same_bytes w (ascii "opaque")) [ true ↦ 3 | false ↦ 0 ] ]
    ]

-- With the tokens, the reserved words and the forms of an edition.
module _ (E : Edition) (s : List ℕ) where
  -- "The reserved test comes before the identifier test." "3 reserved name, with offset"
  unfoldable pub name : Reader Token
  name = do
    t ← atom (E.tokens s)
    require (not (E.reserved (text s t))) (at_token Class.ReservedName t)
    require (identifier (text s t)) (at_token Class.Malformed t)
    pure t

  -- The form f of a word t that stands without a parenthesis.
  unfoldable pub bare : Token → Form → Shape → Reader Beginning
  bare t f alone = pure (leaf (label_alone f t.start))
  bare t f with_name = refuse (at_token Class.Malformed t)
  bare t f with_numeral = refuse (at_token Class.Malformed t)
  bare t f binding = refuse (at_token Class.Malformed t)
  bare t f plain = refuse (at_token Class.Malformed t)

  -- The form f of a word t behind the parenthesis o.
  unfoldable pub tagged : Token → Token → Form → Shape → Reader Beginning
  tagged o t f alone = refuse (at_token Class.Malformed t)
  tagged o t f with_name = do
    x ← name
    c ← closing (E.tokens s)
    pure (leaf (label_with f x o.start))
  tagged o t f with_numeral = do
    x ← natural (E.tokens s) s
    c ← closing (E.tokens s)
    pure (leaf (label_with f x o.start))
  tagged o t f binding = do
    x ← name
    pure (frame (label_with f x o.start) f.arity)
  tagged o t f plain = pure (frame (label_alone f o.start) f.arity)

  unfoldable pub known : (Form → Reader Beginning) → Token → Option Form → Reader Beginning
  known k t none = refuse (at_token Class.Malformed t)
  known k t (some f) = k f

  unfoldable pub beginning_on : Token → TokenKind → Reader Beginning
  beginning_on t TokenKind.LParen = do
    w ← atom (E.tokens s)
    known (λ f. tagged t w f f.shape) w (form_of_word (text s w) E.forms)
  beginning_on t TokenKind.RParen = refuse (at_token Class.Malformed t)
  beginning_on t TokenKind.Atom = known (λ f. bare t f f.shape) t (form_of_word (text s t) E.forms)
  beginning_on t TokenKind.String = refuse (at_token Class.Malformed t)
  beginning_on t TokenKind.Eof = refuse (at_token Class.Malformed t)

  -- What stands at the beginning of a term.
  unfoldable pub beginning : Reader Beginning
  beginning = do
    t ← token (E.tokens s)
    beginning_on t t.kind

  -- Declarations, given the reader of a type or a body.
  module _ (whole_term : Reader (Tree Label)) where
    -- The body of a declaration of kind 1 + k: a postulate, of kind 1, has none.
    unfoldable pub body : ℕ → Reader (Option (Tree Label))
    body zero = pure none
    body (suc j) = do
      b ← whole_term
      pure (some b)

    -- Given besides the reader of a declaration's name, and the tokens that end the declarations.
    module _ (declared_name : Reader Token) (ends : TokenKind → Bool) where
      -- A declaration of some kind behind its word t.
      unfoldable pub declared : Token → ℕ → Reader Declaration
      declared t zero = refuse (at_token Class.Malformed t)
      declared t (suc k) = do
        x ← declared_name
        a ← whole_term
        b ← body k
        c ← closing (E.tokens s)
        pure (record { kind = suc k; start = x.start; length = x.end - x.start; type = a; body = b })

      -- A declaration behind its parenthesis.
      unfoldable pub declaration : Reader Declaration
      declaration = do
        t ← atom (E.tokens s)
        declared t (declaration_kind (text s t))

      unfoldable pub ending : Token → TokenKind → Reader (List Declaration)
      ending t k = do
        require (ends k) (at_token Class.Malformed t)
        pure []

      -- Declarations to the end, given the reader of those behind an opening parenthesis t.
      unfoldable pub onwards : Reader (List Declaration) → Token → TokenKind → Reader (List Declaration)
      onwards more t TokenKind.LParen = more
      onwards more t TokenKind.RParen = ending t TokenKind.RParen
      onwards more t TokenKind.Atom = ending t TokenKind.Atom
      onwards more t TokenKind.String = ending t TokenKind.String
      onwards more t TokenKind.Eof = ending t TokenKind.Eof

      -- Declarations to the end, where there is room for so many.
      -- "9 declaration list (..) full when a declaration's parenthesis opens, before its tag"
      unfoldable pub declarations : ℕ → Reader (List Declaration)
      declarations zero = do
        t ← token (E.tokens s)
        onwards (refuse (nowhere Class.DeclarationsFull)) t t.kind
      declarations (suc n) = do
        t ← token (E.tokens s)
        onwards (do
          d ← declaration
          l ← declarations n
          pure (d ∷ l)) t t.kind

-- The head: what the first two lines give.
pub record Head : Type 0 where
  pub edition : Edition
  pub name : Token

-- The edition of two numerals: 0 1, or 0 2.
unfoldable pub edition_of : List ℕ → List ℕ → Option Edition
edition_of a b =
    cond (same_bytes a (ascii "0") && same_bytes b (ascii "1")) (some edition_0_1)
    (cond (same_bytes a (ascii "0") && same_bytes b (ascii "2")) (some edition_0_2) none)

-- "Refusal 2 is now for source versions other than 0 1 and 0 2": "nowhere, given after its closing parenthesis"
unfoldable pub supported : Option Edition → Reader Edition
supported none = refuse (nowhere Class.Version)
supported (some E) = pure E

module _ (s : List ℕ) where
  -- `(surface 0 1)` or `(surface 0 2)`
  unfoldable pub surface_line : Reader Edition
  surface_line = do
    o ← opening (next_token s)
    w ← word (next_token s) s (ascii "surface")
    a ← natural (next_token s) s
    b ← natural (next_token s) s
    c ← closing (next_token s)
    supported (edition_of (text s a) (text s b))

  -- `(module NAME)`
  unfoldable pub module_line : Edition → Reader Token
  module_line E = do
    o ← opening (next_token s)
    w ← word (next_token s) s (ascii "module")
    x ← name E s
    c ← closing (next_token s)
    pure x

  unfoldable pub head : Reader Head
  head = do
    E ← surface_line
    x ← module_line E
    pure (record { edition = E; name = x })

  -- A module, where there is room for so many rows and declarations, and so many frames may be open in one term.
  -- "`(surface 0 1)`, `(module NAME)`, then declarations"
  unfoldable pub read_module : ℕ → ℕ → ℕ → Reader (List Declaration)
  read_module rows room frames = do
    h ← head
    let E = h.edition in declarations E s (term (beginning E s) (closing (E.tokens s)) rows frames) (name E s) is_end room
