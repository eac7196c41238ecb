-- Readers go on: a token takes a byte at least, a term too, and a declaration five with its parenthesis.
use Rattle.token.specs.declared.Class.{Class}
use mathlib.Core.Path.{◌≡◌, refl, ap}
use mathlib.Core.List.{List}
use mathlib.Core.Option.{Option, none, some}
use mathlib.Core.Bool.{Bool, true, false}
use Prim.Native.Nat.{ℕ, zero, suc, ◌+◌, ◌≤◌}
use native.Mathlib.Omega.{arith}
use lib.Dec.{ltb}
use lib.ListN.{length}
use Rattle.token.specs.declared.TokenKind.{TokenKind}
use Rattle.token.specs.declared.Token.{Token}
use Rattle.token.specs.declared.Refusal.{Refusal}
use Rattle.token.proofs.Bounds.{Within}
use Rattle.terms.specs.Forms.{Shape, alone, with_name, with_numeral, binding, plain, Form, Edition, form_of_word}
use Rattle.terms.specs.Tree.{Forest, Tree}
use Rattle.terms.specs.Label.{Label, Declaration}
use Rattle.surface.specs.Text.{text, is_end}
use Rattle.surface.specs.Reader.{Position, done, Reader, ◌>>=◌, ◌>>◌, pure, refuse, move_to, require, nowhere}
use Rattle.surface.specs.Reading.{Beginning, leaf, frame, store, finish, several, term, token, closing, atom, natural, name, bare, tagged, known, beginning_on, beginning, body, declared, declaration, declaration_kind}
use Rattle.surface.proofs.Steps.{no_done, after_elim, done_inj, open_goes, atom_goes}
use Rattle.expects.proofs.Gives.{given}
use Rattle.expects.proofs.Ahead.{Source, source_of, TokenAhead, natural_ahead, name_ahead, token_got, closing_got, atom_got}

-- A reader that succeeds goes on by so many bytes at least.
abbrev pub Moves : {A : Type 0} → ℕ → Reader A → Type 0
Moves {A} n r = (p q : Position) (a : A) → r p ≡ done a q → p.offset + n ≤ q.offset

pub pure_moves : {A : Type 0} (x : A) → Moves 0 (pure x)
pure_moves x p q a e = let i : p.offset ≡ q.offset = ap (λ (z : Position). z.offset) (done_inj e).1 in omega arith

pub refuse_moves : {A : Type 0} (n : ℕ) (r : Refusal) → Moves {A = A} n (refuse r)
refuse_moves n r p q a e = no_done e

require_moves : (t : Bool) (r : Refusal) → Moves 0 (require t r)
require_moves true r = pure_moves tt
require_moves false r = refuse_moves 0 r

pub then_moves : {A B : Type 0} (m n k : ℕ) (r : Reader A) (f : A → Reader B) → k ≤ m + n → Moves m r → ((a : A) → Moves n (f a)) → Moves k (r >>= f)
then_moves m n k r f l h g p q b e = after_elim (r p) f b q e (λ a v x y. omega (arith, h p v a x, g a v q b y))

module _ (S : Source) where
  abbrev s : List ℕ
  s = S.bytes

  -- A token that is not the end, whatever it is wanted for.
  ahead_moves : (p q : Position) (t : Token) → TokenAhead s p t q → p.offset + 1 ≤ q.offset
  ahead_moves p q t a = omega (arith, a.low, a.some, a.next)

  closing_moves : Moves 1 (closing S.next)
  closing_moves p q t e = ahead_moves p q t (closing_got S p t q e)

  atom_moves : Moves 1 (atom S.next)
  atom_moves p q t e = ahead_moves p q t (atom_got S p t q e)

  natural_moves : Moves 1 (natural S.next S.bytes)
  natural_moves p q t e = ahead_moves p q t (given (TokenAhead s p) (natural_ahead S p) e)

module _ (E : Edition) (within : (s : List ℕ) (at : ℕ) → Within at (length s) (E.tokens s at)) (s : List ℕ) where
  abbrev S : Source
  S = source_of E within s

  name_moves : Moves 1 (name E s)
  name_moves p q t e = ahead_moves S p q t (given (TokenAhead s p) (name_ahead E within s p) e)

  bare_moves : (t : Token) (f : Form) (c : Shape) → Moves 0 (bare E s t f c)
  unfolding bare
  bare_moves t f alone = pure_moves _
  bare_moves t f with_name = refuse_moves 0 _
  bare_moves t f with_numeral = refuse_moves 0 _
  bare_moves t f binding = refuse_moves 0 _
  bare_moves t f plain = refuse_moves 0 _

  tagged_moves : (o t : Token) (f : Form) (c : Shape) → Moves 0 (tagged E s o t f c)
  unfolding tagged
  tagged_moves o t f alone = refuse_moves 0 _
  tagged_moves o t f with_name = then_moves 1 1 0 (name E s) _ (omega arith) name_moves (λ x. then_moves 1 0 1 (closing (E.tokens s)) _ (omega arith) (closing_moves S) (λ c. pure_moves _))
  tagged_moves o t f with_numeral = then_moves 1 1 0 (natural (E.tokens s) s) _ (omega arith) (natural_moves S) (λ x. then_moves 1 0 1 (closing (E.tokens s)) _ (omega arith) (closing_moves S) (λ c. pure_moves _))
  tagged_moves o t f binding = then_moves 1 0 0 (name E s) _ (omega arith) name_moves (λ x. pure_moves _)
  tagged_moves o t f plain = pure_moves _

  known_moves : (k : Form → Reader Beginning) → ((f : Form) → Moves 0 (k f)) → (t : Token) (o : Option Form) → Moves 0 (known E s k t o)
  unfolding known
  known_moves k h t none = refuse_moves 0 _
  known_moves k h t (some f) = h f

  pub beginning_moves : Moves 1 (beginning E s)
  unfolding beginning beginning_on
  beginning_moves p q b e = after_elim (token (E.tokens s) p) _ b q e (λ t v f e₁. by_kind t v f t.kind refl e₁)
    where
      by_kind : (t : Token) (v : Position) → token (E.tokens s) p ≡ done t v → (k : TokenKind) → t.kind ≡ k → beginning_on E s t k v ≡ done b q → p.offset + 1 ≤ q.offset
      by_kind t v f TokenKind.LParen h e =
          omega (arith, ahead_moves S p v t (token_got S p t v f (open_goes t.kind h)), then_moves 1 0 0 (atom (E.tokens s)) _ (omega arith) (atom_moves S) (λ u. known_moves _ (λ g. tagged_moves t u g g.shape) u (form_of_word (text s u) E.forms)) v q b e)
      by_kind t v f TokenKind.RParen h e = no_done e
      by_kind t v f TokenKind.Atom h e =
          omega (arith, ahead_moves S p v t (token_got S p t v f (atom_goes t.kind h)), known_moves _ (λ g. bare_moves t g g.shape) t (form_of_word (text s t) E.forms) v q b e)
      by_kind t v f TokenKind.String h e = no_done e
      by_kind t v f TokenKind.Eof h e = no_done e

  -- Terms, given how many rows there is room for.
  module _ (limit : ℕ) where
    store_moves : (t : Tree Label) → Moves 0 (store (beginning E s) (closing (E.tokens s)) limit t)
    unfolding store
    store_moves t p q a e =
        after_elim (require (ltb p.rows limit) (nowhere Class.SurfaceFull) p) (λ _. move_to (record { offset = p.offset; rows = suc p.rows }) >> pure t) a q e
        (λ u v f e₁. let i : p.offset ≡ q.offset = ap (λ (z : Position). z.offset) (done_inj e₁).1 in omega arith)

    finish_moves : (k : ℕ → Reader (Forest Label)) → ((n : ℕ) → Moves 0 (k n)) → (b : Beginning) → Moves 0 (finish (beginning E s) (closing (E.tokens s)) limit k b)
    unfolding finish
    finish_moves k h (leaf l) = store_moves _
    finish_moves k h (frame l n) = then_moves 0 0 0 (k n) _ (omega arith) (h n) (λ a. then_moves 1 0 0 (closing (E.tokens s)) _ (omega arith) (closing_moves S) (λ c. store_moves _))

    several_moves : (r : Reader (Tree Label)) → Moves 0 r → (n : ℕ) → Moves 0 (several (beginning E s) (closing (E.tokens s)) limit r n)
    unfolding several
    several_moves r h zero = pure_moves _
    several_moves r h (suc n) = then_moves 0 0 0 r _ (omega arith) h (λ t. then_moves 0 0 0 (several (beginning E s) (closing (E.tokens s)) limit r n) _ (omega arith) (several_moves r h n) (λ f. pure_moves _))

    pub term_moves : (frames : ℕ) → Moves 1 (term (beginning E s) (closing (E.tokens s)) limit frames)
    unfolding term
    term_moves zero = then_moves 1 0 1 (beginning E s) _ (omega arith) beginning_moves (λ b. finish_moves _ (λ n. refuse_moves 0 _) b)
    term_moves (suc frames) =
        then_moves 1 0 1 (beginning E s) _ (omega arith) beginning_moves
        (λ b. finish_moves _ (λ n. several_moves (term (beginning E s) (closing (E.tokens s)) limit frames) (at_least_none (term_moves frames)) n) b)
      where
        at_least_none : {A : Type 0} {r : Reader A} → Moves 1 r → Moves 0 r
        at_least_none h p q a e = omega (arith, h p q a e)

  -- Declarations, given the reader of a type or a body.
  module _ (whole_term : Reader (Tree Label)) (whole-moves : Moves 1 whole_term) where
    body_moves : (k : ℕ) → Moves 0 (body E s whole_term k)
    unfolding body
    body_moves zero = pure_moves none
    body_moves (suc j) = then_moves 1 0 0 whole_term _ (omega arith) whole-moves (λ b. pure_moves (some b))

    declared_moves : (t : Token) (k : ℕ) → Moves 3 (declared E s whole_term (name E s) is_end t k)
    unfolding declared
    declared_moves t zero = refuse_moves 3 _
    declared_moves t (suc k) =
        then_moves 1 2 3 (name E s) _ (omega arith) name_moves (λ x.
        then_moves 1 1 2 whole_term _ (omega arith) whole-moves (λ a.
        then_moves 0 1 1 (body E s whole_term k) _ (omega arith) (body_moves k) (λ b.
        then_moves 1 0 1 (closing (E.tokens s)) _ (omega arith) (closing_moves S) (λ c. pure_moves _))))

    -- Four bytes behind the parenthesis: the tag, the name, the type, and the closing parenthesis.
    declaration_moves : Moves 4 (declaration E s whole_term (name E s) is_end)
    unfolding declaration
    declaration_moves = then_moves 1 3 4 (atom (E.tokens s)) _ (omega arith) (atom_moves S) (λ t. declared_moves t (declaration_kind (text s t)))

    -- With its parenthesis, a declaration takes five bytes at least, within the source.
    pub five_bytes : (p v q : Position) (t : Token) (d : Declaration) → token (E.tokens s) p ≡ done t v → t.kind ≡ TokenKind.LParen → declaration E s whole_term (name E s) is_end v ≡ done d q → p.offset + 5 ≤ q.offset
    five_bytes p v q t d f h e = omega (arith, ahead_moves S p v t (token_got S p t v f (open_goes t.kind h)), declaration_moves v q d e)
