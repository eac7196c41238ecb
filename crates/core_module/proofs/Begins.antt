-- Each term that is read begins where its label says.
use Rattle.token.specs.Token.{Lexed}
use Rattle.std.specs.Prelude.{Ok}
use mathlib.Core.Path.{◌≡◌, refl, sym, ap, ◌∙◌, subst}
use mathlib.Core.List.{List, [], ◌∷◌}
use mathlib.Core.Option.{Option, none, some}
use mathlib.Core.Bool.{false, false≢true}
use Prim.Native.Nat.{ℕ, zero, suc}
use lib.Dec.{ltb}
use Rattle.token.specs.declared.TokenKind.{TokenKind}
use Rattle.token.specs.declared.Token.{Token}
use Rattle.core_token.specs.CoreToken.{next_core_token}
use Rattle.terms.specs.Forms.{Shape, alone, with_name, with_numeral, binding, plain, Form, form_of_word, form_of_kind}
use Rattle.terms.specs.TextForms.{text_forms}
use Rattle.terms.specs.Tree.{Forest, nil, node, Tree, tree}
use Rattle.terms.specs.Label.{Label, Declaration, trees}
use Rattle.terms.proofs.FormTable.{word_is}
use Rattle.surface.specs.Text.{text}
use Rattle.surface.specs.Grammar.{Opens, Word}
use Rattle.surface.specs.Reader.{Position, done, Reader}
use Rattle.surface.specs.Reading.{Beginning, leaf, frame, store, finish, several, term, token, closing, atom, natural, bare, tagged, known, beginning_on, beginning}
use Rattle.surface.proofs.Steps.{no_done, after_elim, require_elim, done_inj, Took, token_done, atom_done, natural_done}
use Rattle.core_text.specs.TextReading.{text_edition}
use Rattle.core_module.specs.Statements.{BeginsAs}
use Rattle.core_module.proofs.Forms.{its_kind, unnamed, no_name}
use Rattle.core_module.proofs.Again.{found_again}

module _ (s : List ℕ) where
  -- A term whose label is l begins where l says.
  abbrev pub LabelBegins : Label → Type 0
  LabelBegins l = (f : Form) × (form_of_kind l.kind text_forms ≡ some f) × BeginsAs s l.offset f f.shape l.start l.length

  abbrev label_of : Beginning → Label
  label_of (leaf l) = l
  label_of (frame l n) = l

  abbrev next : ℕ → Lexed
  next = next_core_token s

  -- The next token behind one that was taken.
  behind : (p q : Position) (t u : Token) → Took next p t q → next q.offset ≡ Ok u → next t.end ≡ Ok u
  behind p q t u w e = ap (λ (x : Position). next x.offset) (sym w.position) ∙ e

  -- A form that was found by its word.
  module _ (w : Token) (f : Form) (e : form_of_word (text s w) text_forms ≡ some f) where
    word_of : w.kind ≡ TokenKind.Atom → Word s f.word w
    word_of a = record { atom = a; is = word_is (text s w) text_forms f e }

    never : {P : Type 0} (c : Shape) → f.shape ≡ c → unnamed c ≡ false → P
    never c h n = absurd (false≢true (sym n ∙ ap unnamed (sym h) ∙ no_name (text s w) f e))

    of_shape : (l : Label) (c : Shape) → l.kind ≡ f.kind → f.shape ≡ c → BeginsAs s l.offset f c l.start l.length → LabelBegins l
    of_shape l c k h b = (f, ap (λ (n : ℕ). form_of_kind n text_forms) k ∙ its_kind (text s w) f e, subst (λ (x : Shape). BeginsAs s l.offset f x l.start l.length) (sym h) b)

    bare_begins : (at : ℕ) (c : Shape) (p q : Position) (h : Beginning) → next at ≡ Ok w → w.kind ≡ TokenKind.Atom → f.shape ≡ c → bare text_edition s w f c p ≡ done h q → LabelBegins (label_of h)
    unfolding bare
    bare_begins at alone p q h g a c i =
        subst (λ (x : Beginning). LabelBegins (label_of x)) (done_inj i).0
        (of_shape _ alone refl c (w, found_again s at w g, refl, word_of a))
    bare_begins at with_name p q h g a c i = no_done i
    bare_begins at with_numeral p q h g a c i = no_done i
    bare_begins at binding p q h g a c i = no_done i
    bare_begins at plain p q h g a c i = no_done i

    tagged_begins : (o : Token) (at : ℕ) (c : Shape) (p q r : Position) (h : Beginning) → next at ≡ Ok o → Opens o → next o.end ≡ Ok w → w.kind ≡ TokenKind.Atom → Took next p w q → f.shape ≡ c
        → tagged text_edition s o w f c q ≡ done h r → LabelBegins (label_of h)
    unfolding tagged text_edition
    tagged_begins o at alone p q r h g k u a t c i = no_done i
    tagged_begins o at with_name p q r h g k u a t c i = never with_name c refl
    tagged_begins o at with_numeral p q r h g k u a t c i =
        after_elim (natural next s q) _ h r i (λ x q₁ f₁ e₁.
        after_elim (closing next q₁) _ h r e₁ (λ d q₂ f₂ e₂.
        let n = natural_done next s q q₁ x f₁ in
        subst (λ (y : Beginning). LabelBegins (label_of y)) (done_inj e₂).0
        (of_shape _ with_numeral refl c (o, w, x, record { first = found_again s at o g; here = refl; opens = k; second = u; tag = word_of a }, behind p q w x t n.0.takes, n.1, refl, refl))))
    tagged_begins o at binding p q r h g k u a t c i = never binding c refl
    tagged_begins o at plain p q r h g k u a t c i =
        subst (λ (y : Beginning). LabelBegins (label_of y)) (done_inj i).0
        (of_shape _ plain refl c (o, w, record { first = found_again s at o g; here = refl; opens = k; second = u; tag = word_of a }))

  known_elim : {P : Type 0} (k : Form → Reader Beginning) (t : Token) (o : Option Form) (p q : Position) (h : Beginning) → known text_edition s k t o p ≡ done h q → ((f : Form) → o ≡ some f → k f p ≡ done h q → P) → P
  unfolding known
  known_elim k t none p q h e c = no_done e
  known_elim k t (some f) p q h e c = c f refl e

  on_begins : (t : Token) (k : TokenKind) (p p₁ q : Position) (h : Beginning) → Took next p t p₁ → t.kind ≡ k → beginning_on text_edition s t k p₁ ≡ done h q → LabelBegins (label_of h)
  unfolding beginning_on text_edition
  on_begins t TokenKind.LParen p p₁ q h w k e =
      after_elim (atom next p₁) _ h q e (λ u p₂ f₂ e₂.
      known_elim _ u (form_of_word (text s u) text_forms) p₂ q h e₂ (λ f i e₃.
      let a = atom_done next p₁ p₂ u f₂ in
      tagged_begins u f i t p.offset f.shape p₁ p₂ q h w.takes k (behind p p₁ t u w a.0.takes) a.1 a.0 refl e₃))
  on_begins t TokenKind.RParen p p₁ q h w k e = no_done e
  on_begins t TokenKind.Atom p p₁ q h w k e = known_elim _ t (form_of_word (text s t) text_forms) p₁ q h e (λ f i e₁. bare_begins t f i p.offset f.shape p₁ q h w.takes k refl e₁)
  on_begins t TokenKind.String p p₁ q h w k e = no_done e
  on_begins t TokenKind.Eof p p₁ q h w k e = no_done e

  abbrev pub begin : Reader Beginning
  begin = beginning text_edition s

  begin_begins : (p q : Position) (h : Beginning) → begin p ≡ done h q → LabelBegins (label_of h)
  unfolding beginning text_edition
  begin_begins p q h e = after_elim (token next p) _ h q e (λ t p₁ f₁ e₁. on_begins t t.kind p p₁ q h (token_done next p p₁ t f₁) refl e₁)

  -- All terms do.
  abbrev pub AllLabels : Forest Label → Type 0
  AllLabels nil = Unit {0}
  AllLabels (node l a r) = LabelBegins l × AllLabels a × AllLabels r

  abbrev pub AllModule : List Declaration → Type 0
  AllModule [] = Unit {0}
  AllModule (d ∷ l) = AllLabels (trees d) × AllModule l

  module _ (limit : ℕ) where
    store_is : (t u : Tree Label) (p q : Position) → store begin (closing next) limit t p ≡ done u q → t ≡ u
    unfolding store
    store_is t u p q e = require_elim (ltb p.rows limit) _ p _ u q e (λ b e₁. (done_inj e₁).0)

    finish_begins : (arguments : ℕ → Reader (Forest Label)) → ((n : ℕ) (p q : Position) (f : Forest Label) → arguments n p ≡ done f q → AllLabels f)
        → (h : Beginning) (p q : Position) (t : Tree Label) → LabelBegins (label_of h) → finish begin (closing next) limit arguments h p ≡ done t q → AllLabels (tree t nil)
    unfolding finish
    finish_begins arguments ok (leaf l) p q t b e = subst (λ (x : Tree Label). AllLabels (tree x nil)) (store_is _ t p q e) (b, tt, tt)
    finish_begins arguments ok (frame l n) p q t b e =
        after_elim (arguments n p) _ t q e (λ a p₁ f₁ e₁.
        after_elim (closing next p₁) _ t q e₁ (λ c p₂ f₂ e₂.
        subst (λ (x : Tree Label). AllLabels (tree x nil)) (store_is _ t p₂ q e₂) (b, ok n p p₁ a f₁, tt)))

    several_begins : (one : Reader (Tree Label)) → ((p q : Position) (t : Tree Label) → one p ≡ done t q → AllLabels (tree t nil))
        → (n : ℕ) (p q : Position) (f : Forest Label) → several begin (closing next) limit one n p ≡ done f q → AllLabels f
    unfolding several
    several_begins one ok zero p q f e = subst AllLabels (done_inj e).0 tt
    several_begins one ok (suc n) p q f e =
        after_elim (one p) _ f q e (λ t p₁ f₁ e₁.
        after_elim (several begin (closing next) limit one n p₁) _ f q e₁ (λ r p₂ f₂ e₂.
        let w = ok p p₁ t f₁ in
        subst AllLabels (done_inj e₂).0 (w.0, w.1, several_begins one ok n p₁ p₂ r f₂)))

    pub term_begins : (frames : ℕ) (p q : Position) (t : Tree Label) → term begin (closing next) limit frames p ≡ done t q → AllLabels (tree t nil)
    unfolding term
    term_begins zero p q t e = after_elim (begin p) _ t q e (λ h p₁ f₁ e₁. finish_begins _ (λ n p q f k. no_done k) h p₁ q t (begin_begins p p₁ h f₁) e₁)
    term_begins (suc frames) p q t e =
        after_elim (begin p) _ t q e (λ h p₁ f₁ e₁.
        finish_begins _ (several_begins (term begin (closing next) limit frames) (term_begins frames)) h p₁ q t (begin_begins p p₁ h f₁) e₁)
