-- What a term begins with, by what its parts give.
use Rattle.expects.specs.declared.TermStart.{TermStart}
use Rattle.expects.specs.Answers.{Begun}
use Rattle.token.specs.declared.Class.{Class}
use Rattle.token.specs.Token.{Lexed}
use Rattle.std.specs.Prelude.{Ok, Err, Some, None}
use Rattle.std.proofs.lemmas.Option.{none-some}
use Prim.Native.Nat.{ℕ}
use mathlib.Core.Path.{◌≡◌, refl, sym, ◌∙◌, ap}
use mathlib.Core.List.{List}
use mathlib.Core.Option as math
use native.Mathlib.Omega.{arith}
use lib.ListN.{length}
use Rattle.token.proofs.Bounds.{Within}
use Rattle.token.specs.declared.TokenKind.{TokenKind}
use Rattle.token.specs.declared.Token.{Token}
use Rattle.token.specs.declared.Refusal.{Refusal}
use Rattle.terms.specs.Forms.{Shape, alone, with_name, with_numeral, binding, plain, Form, Edition, form_of_word}
use Rattle.terms.specs.Label.{Label}
use Rattle.surface.specs.Reader.{Position, refused, at_token}
use Rattle.surface.specs.Reading.{token, closing, atom, natural, name, bare, tagged, known, beginning_on, beginning}
use Rattle.surface.specs.Text.{text}
use Rattle.expects.specs.declared.Shape as code
use Rattle.expects.specs.declared.FormOfWord.{FormOfWord}
use Rattle.expects.specs.Expects.{position_at, Reads, Begins}
use Rattle.expects.specs.FormOfWord.{told_shape, told_form}
use Rattle.expects.specs.Tokens.{TokenInside}
use Rattle.expects.specs.Terms.{LabelWith, LabelAlone, BeginsOn, BeginsWith, ClosesLeaf}
use Rattle.expects.proofs.Shapes.{form_is}
use Rattle.expects.proofs.Arities.{Fits}
use Rattle.expects.proofs.Ahead.{source_of, name_ahead, next_inside, inside_got, read_inside}

-- A term that ends with its atom x and a closing parenthesis.
module _ (E : Edition) (s : List ℕ) (kind offset : ℕ) (x : Lexed) where
  pub leaf_refused : (r : Refusal) → x ≡ Err r → ClosesLeaf E s kind offset x (Err r)
  leaf_refused r e = λ small within n. rw e

  module _ (t : Token) (e : x ≡ Ok t) (y : Lexed) (h : Reads (closing (E.tokens s)) t.end y) where
    pub leaf_unclosed : (r : Refusal) → y ≡ Err r → ClosesLeaf E s kind offset x (Err r)
    leaf_unclosed r i = λ small within n. rw (e, h n, i)

    pub leaf_got : (c : Token) → y ≡ Ok c → TokenInside (length s) t → (l : Label) → LabelWith kind t offset l → ClosesLeaf E s kind offset x (Ok (TermStart.Leaf l c.end))
    leaf_got c i a l f = λ small within n. rw (e, h n, i, f (omega arith) (omega arith))

bare_other : (E : Edition) (s : List ℕ) (t : Token) (f : Form) (sh : Shape) (p : Position) → (told_shape sh ≡ code.Shape.Alone → ⊥)
    → bare E s t f sh p ≡ refused (at_token Class.Malformed t)
unfolding bare
bare_other E s t f alone p n = absurd (n refl)
bare_other E s t f with_name p n = refl
bare_other E s t f with_numeral p n = refl
bare_other E s t f binding p n = refl
bare_other E s t f plain p n = refl

-- A word t that stands without a parenthesis.
module _ (E : Edition) (s : List ℕ) (t : Token) where
  pub bare_leaf : (f : FormOfWord) → Some f ≡ told_form (form_of_word (text s t) E.forms) → f.shape ≡ code.Shape.Alone → (l : Label) → LabelAlone f.kind t.start l
      → BeginsOn E s t TokenKind.Atom (Ok (TermStart.Leaf l t.end))
  unfolding beginning_on known bare
  bare_leaf f e q l a =
      let i = form_is (form_of_word (text s t) E.forms) f alone e q in
      λ small inside n. rw (i.is, i.shape, i.kind, a (omega arith))

  pub bare_refused : ((f : FormOfWord) → told_form (form_of_word (text s t) E.forms) ≡ Some f → f.shape ≡ code.Shape.Alone → ⊥) → (r : Refusal) → r ≡ at_token Class.Malformed t
      → BeginsOn E s t TokenKind.Atom (Err r)
  unfolding beginning_on known
  bare_refused q r i = λ small inside n. by (form_of_word (text s t) E.forms) q (position_at t.end n) ∙ ap refused (sym i)
    where
      by : (o : math.Option Form) → ((f : FormOfWord) → told_form o ≡ Some f → f.shape ≡ code.Shape.Alone → ⊥) → (p : Position)
          → known E s (λ g. bare E s t g g.shape) t o p ≡ refused (at_token Class.Malformed t)
      by math.none d p = refl
      by (math.some g) d p = bare_other E s t g g.shape p (d _ refl)

-- A word w behind the parenthesis o, of a form that f stands for.
module _ (E : Edition) (s : List ℕ) (o w : Token) (f : FormOfWord) (e : Some f ≡ told_form (form_of_word (text s w) E.forms)) where
  -- With a name or a numeral x: a term that ends with it, or a frame.
  module _ (x : Lexed) where
    pub name_leaf : f.shape ≡ code.Shape.WithName → Reads (name E s) w.end x → (r : Begun) → ClosesLeaf E s f.kind o.start x r → BeginsWith E s o w r
    unfolding known tagged
    name_leaf q h r c =
        let i = form_is (form_of_word (text s w) E.forms) f with_name e q in
        λ small inside n. rw (i.is, i.shape, h n, i.kind) (c small (omega arith) n)

    pub numeral_leaf : f.shape ≡ code.Shape.WithNumeral → Reads (natural (E.tokens s) s) w.end x → (r : Begun) → ClosesLeaf E s f.kind o.start x r → BeginsWith E s o w r
    unfolding known tagged
    numeral_leaf q h r c =
        let i = form_is (form_of_word (text s w) E.forms) f with_numeral e q in
        λ small inside n. rw (i.is, i.shape, h n, i.kind) (c small (omega arith) n)

    module _ (q : f.shape ≡ code.Shape.Binding) (h : Reads (name E s) w.end x) where
      pub binder_refused : (r : Refusal) → x ≡ Err r → BeginsWith E s o w (Err r)
      unfolding known tagged
      binder_refused r j =
          let i = form_is (form_of_word (text s w) E.forms) f binding e q in
          λ small inside n. rw (i.is, i.shape, h n, j)

      pub binder_frame : ((s : List ℕ) (at : ℕ) → Within at (length s) (E.tokens s at)) → Fits E → (b : Token) → x ≡ Ok b → (l : Label) → LabelWith f.kind b o.start l → BeginsWith E s o w (Ok (TermStart.Frame l b.end))
      unfolding known tagged
      binder_frame within fit b j l a =
          let i = form_is (form_of_word (text s w) E.forms) f binding e q in
          let k = inside_got (length s) x b (read_inside s (name E s) (name_ahead E within s) w.end x h) j in
          λ small inside n. rw (i.is, i.shape, h n, j, sym (fit _ _ i.is).arity_is, i.kind, a (omega arith) (omega arith))

  pub plain_frame : Fits E → f.shape ≡ code.Shape.Plain → (l : Label) → LabelAlone f.kind o.start l → BeginsWith E s o w (Ok (TermStart.Frame l w.end))
  unfolding known tagged
  plain_frame fit q l a =
      let i = form_is (form_of_word (text s w) E.forms) f plain e q in
      λ small inside n. rw (i.is, i.shape, sym (fit _ _ i.is).arity_is, i.kind, a (omega arith))

  pub alone_refused : f.shape ≡ code.Shape.Alone → (r : Refusal) → r ≡ at_token Class.Malformed w → BeginsWith E s o w (Err r)
  unfolding known tagged
  alone_refused q r j =
      let i = form_is (form_of_word (text s w) E.forms) f alone e q in
      λ small inside n. rw (i.is, i.shape, j)

-- A word that has no form.
pub unknown_refused : (E : Edition) (s : List ℕ) (o w : Token) → None ≡ told_form (form_of_word (text s w) E.forms) → (r : Refusal) → r ≡ at_token Class.Malformed w
    → BeginsWith E s o w (Err r)
unfolding known
unknown_refused E s o w e r i = λ small inside n. by (form_of_word (text s w) E.forms) e (position_at w.end n) ∙ ap refused (sym i)
  where
    by : (c : math.Option Form) → None ≡ told_form c → (p : Position) → known E s (λ g. tagged E s o w g g.shape) w c p ≡ refused (at_token Class.Malformed w)
    by math.none d p = refl
    by (math.some g) d p = absurd (none-some _ d)

-- Behind the parenthesis o, where x is read for an atom.
module _ (E : Edition) (s : List ℕ) (o : Token) (x : Lexed) (h : Reads (atom (E.tokens s)) o.end x) where
  pub form_refused : (r : Refusal) → x ≡ Err r → BeginsOn E s o TokenKind.LParen (Err r)
  unfolding beginning_on
  form_refused r e = λ small inside n. rw (h n, e)

  pub form_got : (w : Token) → x ≡ Ok w → (r : Begun) → BeginsWith E s o w r → BeginsOn E s o TokenKind.LParen r
  unfolding beginning_on
  form_got w e r b = λ small inside n. rw (h n, e) (b small inside n)

-- A term, where x stands next.
module _ (E : Edition) (within : (s : List ℕ) (at : ℕ) → Within at (length s) (E.tokens s at)) (s : List ℕ) (at : ℕ) (x : Lexed) (h : x ≡ E.tokens s at) where
  pub term_refused : (r : Refusal) → x ≡ Err r → Begins E s at (Err r)
  unfolding beginning token
  term_refused r e = λ small n. rw (sym h ∙ e)

  module _ (t : Token) (e : x ≡ Ok t) where
    pub term_on : (k : TokenKind) → t.kind ≡ k → (k ≡ TokenKind.Eof → ⊥) → (r : Begun) → BeginsOn E s t k r → Begins E s at r
    unfolding beginning token
    term_on k i f r b =
        λ small n.
        rw (sym h ∙ e) (ap (λ j. beginning_on E s t j (position_at t.end n)) i ∙ b small (next_inside (source_of E within s) at t (sym h ∙ e) (λ z. f (sym i ∙ z))) n)

    pub term_not : (t.kind ≡ TokenKind.LParen → ⊥) → (t.kind ≡ TokenKind.Atom → ⊥) → (r : Refusal) → r ≡ at_token Class.Malformed t → Begins E s at (Err r)
    unfolding beginning token beginning_on
    term_not p q r i = λ small n. rw (sym h ∙ e) (by t.kind p q (position_at t.end n) ∙ ap refused (sym i))
      where
        by : (k : TokenKind) → (k ≡ TokenKind.LParen → ⊥) → (k ≡ TokenKind.Atom → ⊥) → (p : Position) → beginning_on E s t k p ≡ refused (at_token Class.Malformed t)
        by TokenKind.LParen f g p = absurd (f refl)
        by TokenKind.RParen f g p = refl
        by TokenKind.Atom f g p = absurd (g refl)
        by TokenKind.String f g p = refl
        by TokenKind.Eof f g p = refl
