-- Terms that are printed are read back, where there is room.
use mathlib.Core.Path.{◌≡◌, refl, sym, ap, ◌∙◌, subst}
use mathlib.Core.List.{List, [], ◌∷◌, ◌++◌, append_assoc}
use mathlib.Core.Option.{Option, some}
use mathlib.Core.Bool.{true}
use Prim.Native.Nat.{ℕ, zero, suc, ◌+◌, ◌-◌, ◌≤◌}
use native.Mathlib.Omega.{arith}
use lib.ListN.{length, drop}
use Rattle.token.specs.declared.TokenKind.{TokenKind}
use Rattle.token.specs.declared.Token.{Token}
use Rattle.core_token.specs.CoreToken.{next_core_token}
use Rattle.words.specs.Words.{numeral}
use Rattle.terms.specs.Forms.{Shape, alone, with_name, with_numeral, binding, plain, Form, form_of_word, form_of_kind}
use Rattle.terms.specs.TextForms.{text_forms}
use Rattle.terms.specs.Tree.{Forest, nil, node, Tree, next, count, relabel}
use Rattle.terms.specs.Label.{Label, Named, named}
use Rattle.terms.proofs.Cells.{next_cells}
use Rattle.surface.specs.Text.{label_with, label_alone}
use Rattle.surface.specs.Reader.{Position, Result, done, Reader}
use Rattle.surface.specs.Reading.{Beginning, leaf, frame, several, term, closing, tagged, known, beginning_on, beginning}
use Rattle.surface.proofs.Takes.{after_go, token_takes, begins_leaf}
use Rattle.core_text.specs.TextReading.{text_edition}
use Rattle.printing.specs.Printing.{print_shape, print_form, print_terms}
use Rattle.core_module.proofs.Tokens.{Stop, space_stops, close_stops, wordlike_is, behind, behind_one, part_at}
use Rattle.core_module.proofs.Takes.{to, the_token, open_next, spaced_word_next, closes, takes_atom, text_is, takes_natural}
use Rattle.core_module.proofs.TermSteps.{stored, leaf_takes, frame_takes, several_takes}
use Rattle.core_module.proofs.Forms.{kind_is, legible}
use Rattle.core_module.proofs.Printable.{Fit, Printable, Within, within_rest}
use Rattle.core_module.proofs.Numerals.{numeral_wordlike}

-- What follows terms ends an atom, and so does what follows the first of them.
pub terms_stop : (f : Forest Named) (r : List ℕ) → Stop r → Stop (print_terms f ++ r)
unfolding print_terms
terms_stop nil r h = h
terms_stop (node m a f) r h = space_stops []

-- The print of a term of a known form, and of those behind it.
print_node : (m : Named) (a f : Forest Named) (g : Form) (c : Shape) (r : List ℕ) → form_of_kind m.kind text_forms ≡ some g → g.shape ≡ c
    → print_terms (node m a f) ++ r ≡ 32 ∷ (print_shape g c m.name (print_terms a) ++ (print_terms f ++ r))
unfolding print_terms print_form
print_node m a f g c r e h =
    ap (λ (o : Option Form). 32 ∷ ((print_form o m.name (print_terms a) ++ print_terms f) ++ r)) e
    ∙ ap (λ (x : Shape). 32 ∷ ((print_shape g x m.name (print_terms a) ++ print_terms f) ++ r)) h
    ∙ ap (λ (l : List ℕ). 32 ∷ l) (append_assoc (print_shape g c m.name (print_terms a)) (print_terms f) r)

module _ (s : List ℕ) where
  abbrev pub begin : Reader Beginning
  begin = beginning text_edition s

  abbrev pub close : Reader Token
  close = closing (next_core_token s)

  -- A term without arguments is read from p on, whose name or numeral is m's; l follows it.
  record Leaf (p : Position) (m : Named) (l : List ℕ) : Type 0 where
    label : Label
    position : Position
    begins : begin p ≡ done (leaf label) position
    left : drop position.offset s ≡ l
    rows : position.rows ≡ p.rows
    spelled : named s label ≡ m

  -- A form with n arguments is opened.
  record Frame (p : Position) (m : Named) (n : ℕ) (l : List ℕ) : Type 0 where
    label : Label
    position : Position
    begins : begin p ≡ done (frame label n) position
    left : drop position.offset s ≡ l
    rows : position.rows ≡ p.rows
    spelled : named s label ≡ m

  alone_begins : (p : Position) (m : Named) (g : Form) (l : List ℕ) → form_of_kind m.kind text_forms ≡ some g → g.shape ≡ alone → m.name ≡ []
      → drop p.offset s ≡ 32 ∷ (g.word ++ l) → Stop l → Leaf p m l
  unfolding text_edition
  alone_begins p m g l k c n e h =
      let y = legible m.kind g k in
      let at = p.offset + 1 in
      let t = the_token TokenKind.Atom at (at + length g.word) in
      let d = behind_one s p.offset 32 (g.word ++ l) e in
      let i = kind_is m.kind text_forms g k in
      record {
        label = label_alone g at;
        position = to p (at + length g.word);
        begins = begins_leaf text_edition s p t g (spaced_word_next s p.offset g.word l e (wordlike_is g.word y.is_word) h)
            (record { atom = refl; is = ap (λ (w : List ℕ). form_of_word w text_forms) (text_is s at g.word l d) ∙ y.found; shape = c });
        left = behind s at g.word l d;
        rows = refl;
        spelled = let u = sym n in λ j. record { kind = i j; name = u j };
      }

  -- What stands behind the parenthesis and the word of a form.
  tag_begins : (p : Position) (m : Named) (g : Form) (c : Shape) (l : List ℕ) (o : Result Beginning) → form_of_kind m.kind text_forms ≡ some g → g.shape ≡ c
      → drop p.offset s ≡ 32 ∷ 40 ∷ (g.word ++ l) → Stop l
      → tagged text_edition s (the_token TokenKind.LParen (p.offset + 1) (p.offset + 1 + 1)) (the_token TokenKind.Atom (p.offset + 1 + 1) (p.offset + 1 + 1 + length g.word)) g c (to p (p.offset + 1 + 1 + length g.word)) ≡ o
      → begin p ≡ o
  unfolding beginning beginning_on known text_edition
  tag_begins p m g c l o k h e st z =
      let y = legible m.kind g k in
      let a = p.offset + 1 + 1 in
      let u = the_token TokenKind.LParen (p.offset + 1) a in
      let t = the_token TokenKind.Atom a (a + length g.word) in
      let d = behind_one s (p.offset + 1) 40 (g.word ++ l) (behind_one s p.offset 32 (40 ∷ (g.word ++ l)) e) in
      after_go _ _ u (to p a) _ (token_takes (next_core_token s) p u (open_next s p.offset (g.word ++ l) e))
      (after_go _ _ t (to p (a + length g.word)) _ (takes_atom s (to p a) g.word l d (wordlike_is g.word y.is_word) st)
      (ap (λ (x : Option Form). known text_edition s (λ f. tagged text_edition s u t f f.shape) t x (to p (a + length g.word))) (ap (λ (w : List ℕ). form_of_word w text_forms) (text_is s a g.word l d) ∙ y.found)
      ∙ ap (λ (x : Shape). tagged text_edition s u t g x (to p (a + length g.word))) h ∙ z))

  numeral_begins : (p : Position) (m : Named) (g : Form) (l : List ℕ) → form_of_kind m.kind text_forms ≡ some g → g.shape ≡ with_numeral → numeral m.name ≡ true
      → drop p.offset s ≡ 32 ∷ 40 ∷ (g.word ++ (32 ∷ (m.name ++ (41 ∷ l)))) → Leaf p m l
  unfolding tagged text_edition
  numeral_begins p m g l k c n e =
      let a = p.offset + 1 + 1 in
      let b = a + length g.word in
      let x = b + 1 + length m.name in
      let t = the_token TokenKind.Atom (b + 1) x in
      let i = kind_is m.kind text_forms g k in
      let d : drop b s ≡ 32 ∷ (m.name ++ (41 ∷ l)) =
      behind s a g.word _ (behind_one s (p.offset + 1) 40 _ (behind_one s p.offset 32 _ e)) in
      let v = behind_one s b 32 (m.name ++ (41 ∷ l)) d in
      let f = behind s (b + 1) m.name (41 ∷ l) v in
      let u = part_at s (b + 1) (x - (b + 1)) m.name (41 ∷ l) v (omega arith) in
      record {
        label = label_with g t (p.offset + 1);
        position = to p (x + 1);
        begins = tag_begins p m g with_numeral (32 ∷ (m.name ++ (41 ∷ l))) _ k c e (space_stops (m.name ++ (41 ∷ l)))
            (after_go _ _ t (to p x) _ (takes_natural s (to p b) m.name (41 ∷ l) d (numeral_wordlike m.name n) n (close_stops l))
            (after_go _ _ (the_token TokenKind.RParen x (x + 1)) (to p (x + 1)) _ (closes s (to p x) l f) refl));
        left = behind_one s x 41 l f;
        rows = refl;
        spelled = λ j. record { kind = i j; name = u j };
      }

  plain_begins : (p : Position) (m : Named) (g : Form) (l : List ℕ) → form_of_kind m.kind text_forms ≡ some g → g.shape ≡ plain → m.name ≡ []
      → drop p.offset s ≡ 32 ∷ 40 ∷ (g.word ++ l) → Stop l → Frame p m g.arity l
  unfolding tagged
  plain_begins p m g l k c n e st =
      let a = p.offset + 1 + 1 in
      let i = kind_is m.kind text_forms g k in
      record {
        label = label_alone g (p.offset + 1);
        position = to p (a + length g.word);
        begins = tag_begins p m g plain l _ k c e st refl;
        left = behind s a g.word l (behind_one s (p.offset + 1) 40 _ (behind_one s p.offset 32 _ e));
        rows = refl;
        spelled = let u = sym n in λ j. record { kind = i j; name = u j };
      }

-- The print of a form with what follows it.
numeral_text : (w n l : List ℕ) → (w ++ (32 ∷ (n ++ (41 ∷ [])))) ++ l ≡ w ++ (32 ∷ (n ++ (41 ∷ l)))
numeral_text w n l = append_assoc w (32 ∷ (n ++ (41 ∷ []))) l ∙ ap (λ (x : List ℕ). w ++ (32 ∷ x)) (append_assoc n (41 ∷ []) l)

frame_text : (w n l : List ℕ) → (w ++ (n ++ (41 ∷ []))) ++ l ≡ w ++ (n ++ (41 ∷ l))
frame_text w n l = append_assoc w (n ++ (41 ∷ [])) l ∙ ap (λ (x : List ℕ). w ++ x) (append_assoc n (41 ∷ []) l)

grows : (n : ℕ) (f : Forest Named) → n ≤ next n f
grows n f = omega (arith, next_cells n f)

module _ (s : List ℕ) (limit : ℕ) where
  -- A term, where so many frames may still be opened.
  abbrev pub whole : ℕ → Reader (Tree Label)
  whole i = term (begin s) (close s) limit i

  -- From p on the terms f are read, where i frames may be open; l follows them.
  pub record Goes (i : ℕ) (p : Position) (f : Forest Named) (l : List ℕ) : Type 0 where
    pub position : Position
    pub forest : Forest Label
    pub reads : several (begin s) (close s) limit (whole i) (count f) p ≡ done forest position
    pub left : drop position.offset s ≡ l
    pub rows : position.rows ≡ next p.rows f
    pub spelled : relabel (named s) forest ≡ f

  node_goes : (i : ℕ) (p q : Position) (m : Named) (n : Label) (a r : Forest Named) (b : Forest Label) (l : List ℕ) → whole i p ≡ done (record { label = n; args = b }) q
      → q.rows ≡ suc (next p.rows a) → named s n ≡ m → relabel (named s) b ≡ a → Goes i q r l → Goes i p (node m a r) l
  node_goes i p q m n a r b l e h u v g = record {
    position = g.position;
    forest = node n b g.forest;
    reads = several_takes (begin s) (close s) limit (whole i) (count r) p q g.position (record { label = n; args = b }) g.forest e g.reads;
    left = g.left;
    rows = g.rows ∙ ap (λ (x : ℕ). next x r) h;
    spelled = let w = g.spelled in λ j. node (u j) (v j) (w j);
  }

  -- A leaf, and what follows it.
  leaf_node : (i : ℕ) (p : Position) (m : Named) (r : Forest Named) (x l : List ℕ) → Leaf s p m x → next (suc p.rows) r ≤ limit
      → ((q : Position) → drop q.offset s ≡ x → q.rows ≡ suc p.rows → Goes i q r l) → Goes i p (node m nil r) l
  leaf_node i p m r x l y h ih =
      let c = y.rows in
      node_goes i p (stored y.position) m y.label nil r nil l
      (leaf_takes (begin s) (close s) limit i p y.position y.label y.begins (omega (arith, grows (suc p.rows) r)))
      (ap suc c) y.spelled refl (ih (stored y.position) y.left (ap suc c))

  -- A form with arguments, and what follows it.
  frame_node : (i : ℕ) (p : Position) (m : Named) (k : ℕ) (a r : Forest Named) (x l : List ℕ) → Frame s p m k (print_terms a ++ (41 ∷ x)) → count a ≡ k → ¬ (a ≡ nil)
      → Within i (node m a r) → next (suc (next p.rows a)) r ≤ limit
      → ((j : ℕ) (q : Position) → Within j a → next q.rows a ≤ limit → drop q.offset s ≡ print_terms a ++ (41 ∷ x) → Goes j q a (41 ∷ x))
      → ((q : Position) → drop q.offset s ≡ x → q.rows ≡ suc (next p.rows a) → Goes i q r l)
      → Goes i p (node m a r) l
  frame_node zero p m k a r x l y c z w h f ih = absurd (z w.0)
  frame_node (suc i) p m k a r x l y c z w h f ih =
      let u : next y.position.rows a ≡ next p.rows a = ap (λ (n : ℕ). next n a) y.rows in
      let g = f i y.position w.0 (omega (arith, grows (suc (next p.rows a)) r)) y.left in
      let v : g.position.rows ≡ next p.rows a = g.rows ∙ u in
      let o = g.position.offset in
      let q = stored (to g.position (o + 1)) in
      node_goes (suc i) p q m y.label a r g.forest l
      (frame_takes (begin s) (close s) limit i p y.position g.position (to g.position (o + 1)) y.label k g.forest (the_token TokenKind.RParen o (o + 1)) y.begins
      (ap (λ (n : ℕ). several (begin s) (close s) limit (whole i) n y.position) (sym c) ∙ g.reads)
      (closes s g.position x g.left) (omega (arith, v, grows (suc (next p.rows a)) r)))
      (ap suc v) y.spelled g.spelled
      (ih q (behind_one s o 41 x g.left) (ap suc v))

  -- The same where the arguments are known to be none.
  leaf_shape : (i : ℕ) (p : Position) (m : Named) (a r : Forest Named) (l : List ℕ) → a ≡ nil → Leaf s p m (print_terms r ++ l) → next (suc (next p.rows a)) r ≤ limit
      → ((q : Position) → drop q.offset s ≡ print_terms r ++ l → q.rows ≡ suc (next p.rows a) → Goes i q r l)
      → Goes i p (node m a r) l
  leaf_shape i p m a r l z y h ih =
      subst (λ (x : Forest Named). Goes i p (node m x r) l) (sym z)
      (leaf_node i p m r (print_terms r ++ l) l y
      (subst (λ (x : Forest Named). next (suc (next p.rows x)) r ≤ limit) z h)
      (subst (λ (x : Forest Named). (q : Position) → drop q.offset s ≡ print_terms r ++ l → q.rows ≡ suc (next p.rows x) → Goes i q r l) z ih))

  -- A term of any shape, and what follows it.
  shape_goes : (i : ℕ) (p : Position) (m : Named) (a r : Forest Named) (g : Form) (c : Shape) (l : List ℕ) → form_of_kind m.kind text_forms ≡ some g → g.shape ≡ c → Fit c g.arity m a
      → Within i (node m a r) → next (suc (next p.rows a)) r ≤ limit → Stop l → drop p.offset s ≡ print_terms (node m a r) ++ l
      → ((j : ℕ) (q : Position) (x : List ℕ) → Within j a → next q.rows a ≤ limit → Stop x → drop q.offset s ≡ print_terms a ++ x → Goes j q a x)
      → ((q : Position) → drop q.offset s ≡ print_terms r ++ l → q.rows ≡ suc (next p.rows a) → Goes i q r l)
      → Goes i p (node m a r) l
  unfolding print_shape
  shape_goes i p m a r g alone l k c (n, z) w h st e f ih =
      leaf_shape i p m a r l z (alone_begins s p m g (print_terms r ++ l) k c n (e ∙ print_node m a r g alone l k c) (terms_stop r l st)) h ih
  shape_goes i p m a r g with_name l k c fit w h st e f ih = absurd fit
  shape_goes i p m a r g with_numeral l k c (n, z) w h st e f ih =
      leaf_shape i p m a r l z
      (numeral_begins s p m g (print_terms r ++ l) k c n
      (e ∙ print_node m a r g with_numeral l k c ∙ ap {B = List ℕ} (λ x. 32 ∷ 40 ∷ x) (numeral_text g.word m.name (print_terms r ++ l)))) h ih
  shape_goes i p m a r g binding l k c fit w h st e f ih = absurd fit
  shape_goes i p m a r g plain l k c (n, u, z) w h st e f ih =
      let x = print_terms r ++ l in
      frame_node i p m g.arity a r x l
      (plain_begins s p m g (print_terms a ++ (41 ∷ x)) k c n
      (e ∙ print_node m a r g plain l k c ∙ ap {B = List ℕ} (λ y. 32 ∷ 40 ∷ y) (frame_text g.word (print_terms a) x)) (terms_stop a (41 ∷ x) (close_stops x)))
      u z w h
      (λ j q v y d. f j q (41 ∷ x) v y (close_stops x) d) ih

  pub terms_go : (f : Forest Named) → Printable f → (i : ℕ) (p : Position) (l : List ℕ) → Within i f → next p.rows f ≤ limit → Stop l → drop p.offset s ≡ print_terms f ++ l → Goes i p f l
  unfolding several print_terms
  terms_go nil h i p l w k st e = record { position = p; forest = nil; reads = refl; left = e; rows = refl; spelled = refl }
  terms_go (node m a r) h i p l w k st e =
      shape_goes i p m a r h.0.0 h.0.0.shape l h.0.1 refl h.0.2 w k st e
      (λ j q x v y z d. terms_go a h.1 j q x v y z d)
      (λ q d c. terms_go r h.2 i q l (within_rest i m a r w) (subst (λ (n : ℕ). next n r ≤ limit) (sym c) k) st d)
