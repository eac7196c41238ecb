-- Reading with room for fewer rows goes the same way until a row has no room.
use Rattle.token.specs.declared.Class.{Class}
use Rattle.token.specs.Token.{Lexed}
use Rattle.std.specs.Prelude.{Ok, Err}
use mathlib.Core.Path.{◌≡◌, refl}
use mathlib.Core.List.{List}
use mathlib.Core.Option.{Option, none, some}
use mathlib.Core.Bool.{Bool, true, false, not}
use Prim.Native.Nat.{ℕ, zero, suc, ◌≤◌, ◌<◌}
use native.Mathlib.Omega.{arith}
use lib.Dec.{ltb}
use borrow.Author.Tests.{ltb-true, ltb-false}
use Rattle.token.specs.declared.TokenKind.{TokenKind}
use Rattle.token.specs.declared.Token.{Token}
use Rattle.token.specs.declared.Refusal.{Refusal}
use Rattle.words.specs.Words.{identifier, numeral}
use Rattle.terms.specs.Forms.{Shape, alone, with_name, with_numeral, binding, plain, Form, Edition, form_of_word}
use Rattle.terms.specs.Tree.{Forest, nil, Tree, tree}
use Rattle.terms.specs.Label.{Label}
use Rattle.surface.specs.Text.{text, is_close, is_atom}
use Rattle.surface.specs.Reader.{Position, Result, done, refused, Reader, after, ◌>>=◌, pure, refuse, require, nowhere}
use Rattle.surface.specs.Reading.{Beginning, leaf, frame, store, finish, several, term, lexed, token, closing, atom, natural, name, bare, tagged, known, beginning_on, beginning, body, declared, declaration, declaration_kind}

-- A result of a reader that was asked at p does not lose rows.
abbrev pub Rises : {A : Type 0} → Position → Result A → Type 0
Rises p (done a q) = p.rows ≤ q.rows
Rises p (refused c) = Unit {0}

-- More than r rows were stored, if it got so far.
abbrev pub Beyond : {A : Type 0} → ℕ → Result A → Type 0
Beyond r (done a q) = r < q.rows
Beyond r (refused c) = Unit {0}

-- `Cut r x y`: what room for r rows gives, x, where more room gives y.
pub data Cut {A : Type 0} (r : ℕ) : Result A → Result A → Type 0 where
  goes_on : {a : A} {q : Position} → q.rows ≤ r → Cut r (done a q) (done a q)
  stops : {c : Refusal} → Cut r (refused c) (refused c)
  full : {y : Result A} → Beyond r y → Cut r (refused (nowhere Class.SurfaceFull)) y

higher : {A : Type 0} (p q : Position) (z : Result A) → p.rows ≤ q.rows → Rises q z → Rises p z
higher p q (done b v) h k = omega arith
higher p q (refused c) h k = tt

rises_after : {A B : Type 0} (p : Position) (y : Result A) (f : A → Reader B) → Rises p y → ((a : A) (q : Position) → Rises q (f a q)) → Rises p (after y f)
rises_after p (done a q) f h m = higher p q (f a q) h (m a q)
rises_after p (refused c) f h m = tt

beyond_rises : {A : Type 0} (r : ℕ) (q : Position) (z : Result A) → r < q.rows → Rises q z → Beyond r z
beyond_rises r q (done a v) h k = omega arith
beyond_rises r q (refused c) h k = tt

cut_after : {A B : Type 0} (r : ℕ) (x y : Result A) (f g : A → Reader B) → Cut r x y → ((a : A) (q : Position) → q.rows ≤ r → Cut r (f a q) (g a q))
    → ((a : A) (q : Position) → Rises q (g a q))
    → Cut r (after x f) (after y g)
cut_after r x y f g (goes_on {a} {q} h) k m = k a q h
cut_after r x y f g stops k m = stops
cut_after r x (done a q) f g (full h) k m = full (beyond_rises r q (g a q) h (m a q))
cut_after r x (refused c) f g (full h) k m = full tt

-- A reader f with room for r rows, and the same with more room, g.
pub record Under {A : Type 0} (r : ℕ) (f g : Reader A) : Type 0 where
  pub cut : (p : Position) → p.rows ≤ r → Cut r (f p) (g p)
  pub rises : (p : Position) → Rises p (g p)

module _ (r : ℕ) where
  pure_under : {A : Type 0} (a : A) → Under r (pure a) (pure a)
  pure_under a = record { cut = λ p h. goes_on h; rises = λ p. omega arith }

  refuse_under : {A : Type 0} (c : Refusal) → Under {A = A} r (refuse c) (refuse c)
  refuse_under c = record { cut = λ p h. stops; rises = λ p. tt }

  then_under : {A B : Type 0} {f g : Reader A} {k l : A → Reader B} → Under r f g → ((a : A) → Under r (k a) (l a)) → Under r (f >>= k) (g >>= l)
  then_under {A} {B} {f} {g} {k} {l} u v = record {
    cut = λ p h. cut_after r (f p) (g p) k l (u.cut p h) (λ a q i. (v a).cut q i) (λ a q. (v a).rises q);
    rises = λ p. rises_after p (g p) l (u.rises p) (λ a q. (v a).rises q);
  }

  require_under : (t : Bool) (c : Refusal) → Under r (require t c) (require t c)
  require_under true c = pure_under tt
  require_under false c = refuse_under c

  module _ (next : ℕ → Lexed) where
    lexed_cut : (x : Lexed) (p : Position) → p.rows ≤ r → Cut r (lexed p.rows x) (lexed p.rows x)
    lexed_cut (Ok t) p h = goes_on h
    lexed_cut (Err c) p h = stops

    lexed_rises : (x : Lexed) (p : Position) → Rises p (lexed p.rows x)
    lexed_rises (Ok t) p = omega arith
    lexed_rises (Err c) p = tt

    token_under : Under r (token next) (token next)
    unfolding token
    token_under = record { cut = λ p h. lexed_cut (next p.offset) p h; rises = λ p. lexed_rises (next p.offset) p }

    closing_under : Under r (closing next) (closing next)
    unfolding closing
    closing_under = then_under token_under (λ t. then_under (require_under (is_close t.kind) _) (λ _. pure_under t))

    atom_under : Under r (atom next) (atom next)
    unfolding atom
    atom_under = then_under token_under (λ t. then_under (require_under (is_atom t.kind) _) (λ _. pure_under t))

    natural_under : (s : List ℕ) → Under r (natural next s) (natural next s)
    unfolding natural
    natural_under s = then_under atom_under (λ t. then_under (require_under (numeral (text s t)) _) (λ _. pure_under t))

  module _ (E : Edition) (s : List ℕ) where
    pub name_under : Under r (name E s) (name E s)
    unfolding name
    name_under =
        then_under (atom_under (E.tokens s)) (λ t.
        then_under (require_under (not (E.reserved (text s t))) _) (λ _. then_under (require_under (identifier (text s t)) _) (λ _. pure_under t)))

    bare_under : (t : Token) (f : Form) (c : Shape) → Under r (bare E s t f c) (bare E s t f c)
    unfolding bare
    bare_under t f alone = pure_under _
    bare_under t f with_name = refuse_under _
    bare_under t f with_numeral = refuse_under _
    bare_under t f binding = refuse_under _
    bare_under t f plain = refuse_under _

    tagged_under : (o t : Token) (f : Form) (c : Shape) → Under r (tagged E s o t f c) (tagged E s o t f c)
    unfolding tagged
    tagged_under o t f alone = refuse_under _
    tagged_under o t f with_name = then_under name_under (λ x. then_under (closing_under (E.tokens s)) (λ c. pure_under _))
    tagged_under o t f with_numeral = then_under (natural_under (E.tokens s) s) (λ x. then_under (closing_under (E.tokens s)) (λ c. pure_under _))
    tagged_under o t f binding = then_under name_under (λ x. pure_under _)
    tagged_under o t f plain = pure_under _

    known_under : (k : Form → Reader Beginning) → ((f : Form) → Under r (k f) (k f)) → (t : Token) (o : Option Form) → Under r (known E s k t o) (known E s k t o)
    unfolding known
    known_under k h t none = refuse_under _
    known_under k h t (some f) = h f

    on_under : (t : Token) (k : TokenKind) → Under r (beginning_on E s t k) (beginning_on E s t k)
    unfolding beginning_on
    on_under t TokenKind.LParen =
        then_under (atom_under (E.tokens s)) (λ w. known_under _ (λ f. tagged_under t w f f.shape) w (form_of_word (text s w) E.forms))
    on_under t TokenKind.RParen = refuse_under _
    on_under t TokenKind.Atom = known_under _ (λ f. bare_under t f f.shape) t (form_of_word (text s t) E.forms)
    on_under t TokenKind.String = refuse_under _
    on_under t TokenKind.Eof = refuse_under _

    beginning_under : Under r (beginning E s) (beginning E s)
    unfolding beginning
    beginning_under = then_under (token_under (E.tokens s)) (λ t. on_under t t.kind)

  -- Terms, with room for r rows, and for m.
  module _ (begins : Reader Beginning) (close : Reader Token) (u : Under r begins begins) (v : Under r close close) (m : ℕ) (r≤m : r ≤ m) where
    store_under : (t : Tree Label) → Under r (store begins close r t) (store begins close m t)
    unfolding store
    store_under t = record { cut = λ p h. by p (ltb p.rows r) (ltb p.rows m) refl refl h; rises = λ p. up p (ltb p.rows m) }
      where
        stored : Bool → Position → Result (Tree Label)
        stored b p = after (require b (nowhere Class.SurfaceFull) p) (λ _ q. done t (record { offset = p.offset; rows = suc p.rows }))

        by : (p : Position) (a b : Bool) → ltb p.rows r ≡ a → ltb p.rows m ≡ b → p.rows ≤ r → Cut r (stored a p) (stored b p)
        by p true true e f h = goes_on {q = record { offset = p.offset; rows = suc p.rows }} (omega (arith, ltb-true p.rows r e))
        by p true false e f h = absurd (omega (arith, ltb-true p.rows r e, ltb-false p.rows m f))
        by p false true e f h = full {y = stored true p} (omega (arith, ltb-false p.rows r e))
        by p false false e f h = full tt

        up : (p : Position) (b : Bool) → Rises p (stored b p)
        up p true = omega arith
        up p false = tt

    finish_under : (k l : ℕ → Reader (Forest Label)) → ((n : ℕ) → Under r (k n) (l n)) → (b : Beginning)
        → Under r (finish begins close r k b) (finish begins close m l b)
    unfolding finish
    finish_under k l h (leaf x) = store_under _
    finish_under k l h (frame x n) = then_under (h n) (λ a. then_under v (λ c. store_under _))

    several_under : (f g : Reader (Tree Label)) → Under r f g → (n : ℕ) → Under r (several begins close r f n) (several begins close m g n)
    unfolding several
    several_under f g h zero = pure_under nil
    several_under f g h (suc n) = then_under h (λ t. then_under (several_under f g h n) (λ l. pure_under (tree t l)))

    term_under : (frames : ℕ) → Under r (term begins close r frames) (term begins close m frames)
    unfolding term
    term_under zero = then_under u (λ b. finish_under _ _ (λ n. refuse_under _) b)
    term_under (suc frames) = then_under u (λ b. finish_under _ _ (several_under _ _ (term_under frames)) b)

  module _ (E : Edition) (s : List ℕ) where
    pub whole_under : (m : ℕ) → r ≤ m → (frames : ℕ)
        → Under r (term (beginning E s) (closing (E.tokens s)) r frames) (term (beginning E s) (closing (E.tokens s)) m frames)
    whole_under = term_under (beginning E s) (closing (E.tokens s)) (beginning_under E s) (closing_under (E.tokens s))

    -- Declarations, given the readers of a type or a body.
    module _ (f g : Reader (Tree Label)) (u : Under r f g) (declared_name : Reader Token) (v : Under r declared_name declared_name) (ends : TokenKind → Bool) where
      body_under : (k : ℕ) → Under r (body E s f k) (body E s g k)
      unfolding body
      body_under zero = pure_under none
      body_under (suc j) = then_under u (λ b. pure_under (some b))

      declared_under : (t : Token) (k : ℕ) → Under r (declared E s f declared_name ends t k) (declared E s g declared_name ends t k)
      unfolding declared
      declared_under t zero = refuse_under _
      declared_under t (suc k) =
          then_under v (λ x. then_under u (λ a. then_under (body_under k) (λ b. then_under (closing_under (E.tokens s)) (λ c. pure_under _))))

      pub declaration_under : Under r (declaration E s f declared_name ends) (declaration E s g declared_name ends)
      unfolding declaration
      declaration_under = then_under (atom_under (E.tokens s)) (λ t. declared_under t (declaration_kind (text s t)))
