-- Reading with less room ends as with more room, or with 8 or 9, whichever is met first.
use Rattle.token.specs.declared.Class.{Class}
use mathlib.Core.Path.{◌≡◌, refl, sym, ap, ◌∙◌, subst}
use mathlib.Core.List.{List, ◌∷◌}
use mathlib.Core.Option.{Option, none, some}
use mathlib.Core.Bool.{Bool, true, false, not}
use Prim.Native.Nat.{ℕ, zero, suc, ◌/◌, ◌≤◌, ◌<◌}
use native.Mathlib.Omega.{arith}
use lib.Dec.{leb, eqb}
use lib.ListN.{length}
use borrow.Author.Tests.{lt-ltb, le-ltb}
use Rattle.token.specs.declared.TokenKind.{TokenKind}
use Rattle.token.specs.declared.Token.{Token}
use Rattle.token.specs.declared.Refusal.{Refusal}
use Rattle.utf8.specs.Utf8.{valid_length, byte_order_mark}
use Rattle.terms.specs.Forms.{Edition}
use Rattle.terms.specs.Tree.{Tree, next}
use Rattle.terms.specs.Label.{Label, Declaration, trees}
use Rattle.surface.specs.Text.{is_end}
use Rattle.surface.specs.Grammar.{Opens}
use Rattle.surface.specs.Reader.{Position, start, Result, done, refused, Reader, after, pure, require, nowhere, at_token}
use Rattle.surface.specs.Reading.{term, token, closing, name, beginning, declaration, ending, onwards, declarations, head, read_module}
use Rattle.surface.specs.Loading.{Lengths, frame_limit, parsing}
use Rattle.surface.proofs.Steps.{Took, token_done}
use Rattle.surface.proofs.SoundDeclarations.{declaration_done}
use Rattle.surface.proofs.SoundModule.{head_done}
use Rattle.least_storage.specs.Statements.{past, met_first, cut_short}
use Rattle.least_storage.proofs.Cut.{Cut, goes_on, stops, full, Under, name_under, whole_under, declaration_under}

-- What less room gives, where more room refuses for c.
pub data Stopped (c : Refusal) : Result (List Declaration) → Type 0 where
  as_before : Stopped c (refused c)
  no_row : Stopped c (refused (nowhere Class.SurfaceFull))
  no_declaration : Stopped c (refused (nowhere Class.DeclarationsFull))

-- `Ends r d n x y`: what room for r rows, of which n are taken, and for d declarations gives, x, where more room gives y.
abbrev pub Ends : (r d n : ℕ) → Result (List Declaration) → Result (List Declaration) → Type 0
Ends r d n x (done ds q) = x ≡ cut_short (met_first r d n ds) (done ds q)
Ends r d n x (refused c) = Stopped c x

ends_after : {A : Type 0} (r d n : ℕ) (x : Result A) (f g : A → Reader (List Declaration))
    → ((a : A) (q : Position) → x ≡ done a q → Ends r d n (f a q) (g a q)) → Ends r d n (after x f) (after x g)
ends_after r d n (done a q) f g h = h a q refl
ends_after r d n (refused c) f g h = as_before

ends_require : (r d n : ℕ) (t : Bool) (c : Refusal) (p : Position) (f g : Unit {0} → Reader (List Declaration)) → Ends r d n (f tt p) (g tt p)
    → Ends r d n (after (require t c p) f) (after (require t c p) g)
ends_require r d n true c p f g h = h
ends_require r d n false c p f g h = as_before

-- The declarations behind the first, and it in front of them.
abbrev in_front : Declaration → Result (List Declaration) → Result (List Declaration)
in_front e x = after x (λ l. pure (e ∷ l))

push : (e : Declaration) (o : Option Class) (l : List Declaration) (u : Position) → in_front e (cut_short o (done l u)) ≡ cut_short o (done (e ∷ l) u)
push e none l u = refl
push e (some c) l u = refl

stopped_front : (e : Declaration) (c : Refusal) (x : Result (List Declaration)) → Stopped c x → Stopped c (in_front e x)
stopped_front e c x as_before = as_before
stopped_front e c x no_row = no_row
stopped_front e c x no_declaration = no_declaration

module _ (r : ℕ) where
  goes_front : (d n k : ℕ) (e : Declaration) (x y : Result (List Declaration)) → k ≡ next n (trees e) → k ≤ r → Ends r d k x y
      → Ends r (suc d) n (in_front e x) (in_front e y)
  goes_front d n k e x (done l u) i h w =
      ap (in_front e) w ∙ push e (met_first r d k l) l u
      ∙ ap (λ (o : Option Class). cut_short o (done (e ∷ l) u))
      (ap (λ (m : ℕ). met_first r d m l) i ∙ ap (λ (b : Bool). past b (met_first r d (next n (trees e)) l)) (sym (le-ltb r (next n (trees e)) (omega arith))))
  goes_front d n k e x (refused c) i h w = stopped_front e c x w

  full_front : (d n k : ℕ) (e : Declaration) (y : Result (List Declaration)) → k ≡ next n (trees e) → r < k
      → Ends r (suc d) n (refused (nowhere Class.SurfaceFull)) (in_front e y)
  full_front d n k e (done l u) i h =
      ap (λ (b : Bool). cut_short (past b (met_first r d (next n (trees e)) l)) (done (e ∷ l) u)) (sym (lt-ltb r (next n (trees e)) (omega arith)))
  full_front d n k e (refused c) i h = no_row

  nine_front : (n : ℕ) (e : Declaration) (y : Result (List Declaration)) → Ends r 0 n (refused (nowhere Class.DeclarationsFull)) (in_front e y)
  nine_front n e (done l u) = refl
  nine_front n e (refused c) = no_declaration

  nine_ends : (n : ℕ) (y : Result Declaration) (k : Reader (List Declaration)) → Ends r 0 n (refused (nowhere Class.DeclarationsFull)) (after y (λ e q. in_front e (k q)))
  nine_ends n (done e q) k = nine_front n e (k q)
  nine_ends n (refused c) k = no_declaration

  first_ends : (d n : ℕ) (x y : Result Declaration) (h k : Reader (List Declaration)) → Cut r x y
      → ((e : Declaration) (q : Position) → y ≡ done e q → q.rows ≡ next n (trees e))
      → ((q : Position) → q.rows ≤ r → Ends r d q.rows (h q) (k q)) → Ends r (suc d) n (after x (λ e q. in_front e (h q))) (after y (λ e q. in_front e (k q)))
  first_ends d n x y h k (goes_on {a} {q} l) c ih = goes_front d n q.rows a (h q) (k q) (c a q refl) l (ih q l)
  first_ends d n x y h k stops c ih = as_before
  first_ends d n x (done e q) h k (full b) c ih = full_front d n q.rows e (k q) (c e q refl) b
  first_ends d n x (refused a) h k (full b) c ih = no_row

  -- Given the readers of a type or a body with less and with more room, and that a declaration's rows are those of its terms.
  module _ (E : Edition) (s : List ℕ) (f g : Reader (Tree Label)) (declared_name : Reader Token) (ends : TokenKind → Bool)
      (under : Under r (declaration E s f declared_name ends) (declaration E s g declared_name ends))
      (rows : (p v q : Position) (o : Token) (e : Declaration) → Took (E.tokens s) p o v → Opens o
      → declaration E s g declared_name ends v ≡ done e q → q.rows ≡ next p.rows (trees e)) where
    ending_ends : (d n : ℕ) (t : Token) (k : TokenKind) (v : Position)
        → Ends r d n (ending E s f declared_name ends t k v) (ending E s g declared_name ends t k v)
    unfolding ending
    ending_ends d n t k v = ends_require r d n (ends k) (at_token Class.Malformed t) v _ _ refl

    onwards_ends : (d n : ℕ) (a b : Reader (List Declaration)) (t : Token) (k : TokenKind) (v : Position) → (k ≡ TokenKind.LParen → Ends r d n (a v) (b v))
        → Ends r d n (onwards E s f declared_name ends a t k v) (onwards E s g declared_name ends b t k v)
    unfolding onwards
    onwards_ends d n a b t TokenKind.LParen v h = h refl
    onwards_ends d n a b t TokenKind.RParen v h = ending_ends d n t TokenKind.RParen v
    onwards_ends d n a b t TokenKind.Atom v h = ending_ends d n t TokenKind.Atom v
    onwards_ends d n a b t TokenKind.String v h = ending_ends d n t TokenKind.String v
    onwards_ends d n a b t TokenKind.Eof v h = ending_ends d n t TokenKind.Eof v

    declarations_end : (d l : ℕ) → d ≤ l → (n : ℕ) (p : Position) → p.rows ≡ n → n ≤ r
        → Ends r d n (declarations E s f declared_name ends d p) (declarations E s g declared_name ends l p)
    unfolding declarations
    declarations_end zero zero h n p i j = ends_after r 0 n (token (E.tokens s) p) _ _ (λ t v e. onwards_ends 0 n _ _ t t.kind v (λ k. as_before))
    declarations_end zero (suc l) h n p i j =
        ends_after r 0 n (token (E.tokens s) p) _ _ (λ t v e.
        onwards_ends 0 n _ _ t t.kind v (λ k. nine_ends n (declaration E s g declared_name ends v) (declarations E s g declared_name ends l)))
    declarations_end (suc d) zero h n p i j = absurd (omega arith)
    declarations_end (suc d) (suc l) h n p i j =
        ends_after r (suc d) n (token (E.tokens s) p) _ _ (λ t v e.
        let w = token_done (E.tokens s) p v t e in
        let a : v.rows ≡ n = ap (λ (x : Position). x.rows) w.position ∙ i in
        onwards_ends (suc d) n _ _ t t.kind v (λ o.
        first_ends d n (declaration E s f declared_name ends v) (declaration E s g declared_name ends v)
        (declarations E s f declared_name ends d) (declarations E s g declared_name ends l) (under.cut v (omega arith))
        (λ x q b. rows p v q t x w o b ∙ ap (λ (y : ℕ). next y (trees x)) i)
        (λ q c. declarations_end d l (omega arith) q.rows q refl c)))

-- A module; and a source, of which the other tests are the same.
module_ends : (s : List ℕ) (r m : ℕ) → r ≤ m → (d l : ℕ) → d ≤ l → (frames : ℕ) → Ends r d 0 (read_module s r d frames start) (read_module s m l frames start)
unfolding read_module
module_ends s r m i d l j frames =
    ends_after r d 0 (head s start) _ _ (λ h p e.
    let E = h.edition in
    let f = term (beginning E s) (closing (E.tokens s)) r frames in
    let g = term (beginning E s) (closing (E.tokens s)) m frames in
    declarations_end r E s f g (name E s) is_end (declaration_under r E s f g (whole_under r E s m i frames) (name E s) (name_under r E s) is_end)
    (λ p v q o e w a b. (declaration_done E s m frames p v q o e w a b).rows) d l j 0 p (head_done s start p h e).rows (omega arith))

pub parsing_ends : (s : List ℕ) (y z : Lengths) → y.work ≡ z.work → y.surface / 8 ≤ z.surface / 8 → y.declarations / 5 ≤ z.declarations / 5
    → Ends (y.surface / 8) (y.declarations / 5) 0 (parsing s y start) (parsing s z start)
unfolding parsing
parsing_ends s y z e h k =
    let r = y.surface / 8 in
    let d = y.declarations / 5 in
    subst (λ (w : ℕ). Ends r d 0 (parsing s y start) (parsing s (record { surface = z.surface; core = z.core; declarations = z.declarations; work = w }) start)) e
    (ends_require r d 0 (leb 16384 y.work) _ start _ _
    (ends_require r d 0 (leb (length s) 65535) _ start _ _
    (ends_require r d 0 (eqb (valid_length s) (length s)) _ start _ _
    (ends_require r d 0 (not (byte_order_mark s)) _ start _ _
    (module_ends s r (z.surface / 8) h d (z.declarations / 5) k frame_limit)))))
