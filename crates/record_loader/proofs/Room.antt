-- Room for 13,107 declarations is room enough: with more, reading and loading give the same, since a declaration takes five bytes at least and
-- a source of more than 65,535 is refused.
use Rattle.token.specs.declared.Class.{Class}
use mathlib.Core.Path.{◌≡◌, refl, sym, ap, subst}
use mathlib.Core.List.{List, [], ◌∷◌}
use mathlib.Core.Bool.{Bool, true, false, not}
use Prim.Native.Nat.{ℕ, zero, suc, ◌+◌, ◌*◌, ◌/◌, ◌≤◌}
use native.Mathlib.Omega.{arith}
use lib.Dec.{leb, eqb}
use lib.ListN.{length}
use borrow.Author.Tests.{leb-true}
use Rattle.token.specs.Token.{next_token, Lexed}
use Rattle.token.specs.declared.TokenKind.{TokenKind}
use Rattle.token.proofs.Bounds.{bounds, Within}
use Rattle.token.specs.declared.Token.{Token}
use Rattle.token.specs.declared.Refusal.{Refusal}
use Rattle.utf8.specs.Utf8.{valid_length, byte_order_mark}
use Rattle.terms.specs.Forms.{Edition}
use Rattle.terms.specs.Tree.{Tree}
use Rattle.terms.specs.Label.{Label, Declaration}
use Rattle.terms.specs.Resolution.{first_refused}
use Rattle.surface.specs.Reader.{Position, start, Result, done, refused, Reader, after, pure, refuse, require, nowhere, at_offset}
use Rattle.surface.specs.Reading.{term, token, closing, name, beginning, declaration, ending, onwards, declarations, head, read_module}
use Rattle.surface.specs.Text.{is_end}
use Rattle.surface.proofs.SoundModule.{head_done}
use Rattle.surface.specs.Loading.{Lengths, frame_limit, parsing, reading, accept, loading}
use Rattle.surface.proofs.Steps.{no_done, after_elim, require_elim, done_inj, open_goes}
use Rattle.expects.proofs.Ahead.{source_of, token_got}
use Rattle.record_loader.proofs.Moves.{Moves, term_moves, five_bytes}

-- What stands behind a reader makes the whole.
after_same : {A B : Type 0} (x : Result A) (f g : A → Reader B) → ((a : A) (q : Position) → x ≡ done a q → f a q ≡ g a q) → after x f ≡ after x g
after_same (done a q) f g h = h a q refl
after_same (refused r) f g h = refl

require_same : {B : Type 0} (t : Bool) (r : Refusal) (p : Position) (f g : Unit {0} → Reader B) → (t ≡ true → f tt p ≡ g tt p) → after (require t r p) f ≡ after (require t r p) g
require_same true r p f g h = h refl
require_same false r p f g h = refl

-- Declarations, given the reader of a type or a body.
module _ (E : Edition) (within : (s : List ℕ) (at : ℕ) → Within at (length s) (E.tokens s at)) (s : List ℕ) (whole_term : Reader (Tree Label)) (whole-moves : Moves 1 whole_term) where
  onwards_same : (a b : Reader (List Declaration)) (t : Token) (k : TokenKind) (q : Position) → (k ≡ TokenKind.LParen → a q ≡ b q)
      → onwards E s whole_term (name E s) is_end a t k q ≡ onwards E s whole_term (name E s) is_end b t k q
  unfolding onwards ending
  onwards_same a b t TokenKind.LParen q h = h refl
  onwards_same a b t TokenKind.RParen q h = refl
  onwards_same a b t TokenKind.Atom q h = refl
  onwards_same a b t TokenKind.String q h = refl
  onwards_same a b t TokenKind.Eof q h = refl

  -- With room for a fifth of the bytes that are left, more room changes nothing.
  more_room : (n m : ℕ) (p : Position) → length s ≤ p.offset + n * 5 → n ≤ m → declarations E s whole_term (name E s) is_end n p ≡ declarations E s whole_term (name E s) is_end m p
  unfolding declarations
  more_room zero zero p h l = refl
  more_room zero (suc m) p h l =
      after_same (token (E.tokens s) p) _ _ (λ t v e. onwards_same _ _ t t.kind v (λ k.
      let a = token_got (source_of E within s) p t v e (open_goes t.kind k) in absurd (omega (arith, h, a.low, a.some, a.high))))
  more_room (suc n) zero p h l = absurd (omega arith)
  more_room (suc n) (suc m) p h l =
      after_same (token (E.tokens s) p) _ _ (λ t v e. onwards_same _ _ t t.kind v (λ k.
      after_same (declaration E s whole_term (name E s) is_end v) _ _ (λ d q f.
      ap (λ r. after r (λ x. pure (d ∷ x))) (more_room n m q (omega (arith, h, five_bytes E within s whole_term whole-moves p v q t d e k f)) (omega arith)))))

  -- No more declarations than there is room for.
  at_most : (n : ℕ) (p q : Position) (ds : List Declaration) → declarations E s whole_term (name E s) is_end n p ≡ done ds q → length ds ≤ n
  unfolding declarations onwards ending
  at_most zero p q ds e = after_elim (token (E.tokens s) p) _ ds q e (λ t v f e₁. by_kind t v t.kind e₁)
    where
      by_kind : (t : Token) (v : Position) (k : TokenKind) → onwards E s whole_term (name E s) is_end (refuse (nowhere Class.DeclarationsFull)) t k v ≡ done ds q → length ds ≤ 0
      by_kind t v TokenKind.LParen e = no_done e
      by_kind t v TokenKind.RParen e = no_done e
      by_kind t v TokenKind.Atom e = no_done e
      by_kind t v TokenKind.String e = no_done e
      by_kind t v TokenKind.Eof e = subst (λ (l : List Declaration). length l ≤ 0) (done_inj e).0 (omega arith)
  at_most (suc n) p q ds e = after_elim (token (E.tokens s) p) _ ds q e (λ t v f e₁. by_kind (at_most n) t v t.kind e₁)
    where
      by_kind : ((p₁ q₁ : Position) (l : List Declaration) → declarations E s whole_term (name E s) is_end n p₁ ≡ done l q₁ → length l ≤ n) → (t : Token) (v : Position) (k : TokenKind)
          → onwards E s whole_term (name E s) is_end (λ u. after (declaration E s whole_term (name E s) is_end u) (λ d w. after (declarations E s whole_term (name E s) is_end n w) (λ l. pure (d ∷ l)))) t k v ≡ done ds q → length ds ≤ suc n
      by_kind ih t v TokenKind.LParen e =
          after_elim (declaration E s whole_term (name E s) is_end v) _ ds q e (λ d v₁ f₁ e₁.
          after_elim (declarations E s whole_term (name E s) is_end n v₁) _ ds q e₁ (λ l v₂ f₂ e₂.
          subst (λ (x : List Declaration). length x ≤ suc n) (done_inj e₂).0 (omega (arith, ih v₁ v₂ l f₂))))
      by_kind ih t v TokenKind.RParen e = no_done e
      by_kind ih t v TokenKind.Atom e = no_done e
      by_kind ih t v TokenKind.String e = no_done e
      by_kind ih t v TokenKind.Eof e = subst (λ (l : List Declaration). length l ≤ suc n) (done_inj e).0 (omega arith)

-- The tokens of an edition that a head names stand within the source.
within_of : (E : Edition) → E.tokens ≡ next_token → (s : List ℕ) (at : ℕ) → Within at (length s) (E.tokens s at)
within_of E h = subst (λ (T : List ℕ → ℕ → Lexed). (s : List ℕ) (at : ℕ) → Within at (length s) (T s at)) (sym h) bounds

-- A whole module, within the length that is not refused.
module _ (s : List ℕ) (rows frames : ℕ) where
  module_same : (n m : ℕ) (p : Position) → length s ≤ 65535 → 13107 ≤ n → n ≤ m → read_module s rows n frames p ≡ read_module s rows m frames p
  unfolding read_module
  module_same n m p h k l =
      after_same (head s p) _ _ (λ x q e.
      let w = within_of x.edition (head_done s p q x e).tokens in
      more_room x.edition w s (term (beginning x.edition s) (closing (x.edition.tokens s)) rows frames) (term_moves x.edition w s rows frames) n m q (omega arith) l)

  module_few : (n : ℕ) (p q : Position) (ds : List Declaration) → read_module s rows n frames p ≡ done ds q → length ds ≤ n
  unfolding read_module
  module_few n p q ds e =
      after_elim (head s p) _ ds q e (λ x v f e₁.
      let w = within_of x.edition (head_done s p v x f).tokens in
      at_most x.edition w s (term (beginning x.edition s) (closing (x.edition.tokens s)) rows frames) (term_moves x.edition w s rows frames) n v q ds e₁)

-- The lengths of the lent tables, with so many words for the declarations.
abbrev pub with_words : Lengths → ℕ → Lengths
with_words z d = record { surface = z.surface; core = z.core; declarations = d; work = z.work }

module _ (s : List ℕ) (z : Lengths) where
  pub parsing_same : (a b : ℕ) → 65535 ≤ a → a ≤ b → parsing s (with_words z a) start ≡ parsing s (with_words z b) start
  unfolding parsing
  parsing_same a b h l =
      require_same (leb 16384 z.work) (nowhere Class.WorkShort) start _ _ (λ e₁.
      require_same (leb (length s) 65535) (nowhere Class.LongSource) start _ _ (λ e₂.
      require_same (eqb (valid_length s) (length s)) (at_offset Class.Malformed (valid_length s)) start _ _ (λ e₃.
      require_same (not (byte_order_mark s)) (at_offset Class.Malformed 0) start _ _ (λ e₄.
      module_same s (z.surface / 8) frame_limit (a / 5) (b / 5) start (leb-true (length s) 65535 e₂) (omega arith) (omega arith)))))

  pub parsing_few : (q : Position) (ds : List Declaration) → parsing s z start ≡ done ds q → length ds ≤ z.declarations / 5
  unfolding parsing
  parsing_few q ds e =
      require_elim (leb 16384 z.work) (nowhere Class.WorkShort) start _ ds q e (λ _ e₁.
      require_elim (leb (length s) 65535) (nowhere Class.LongSource) start _ ds q e₁ (λ _ e₂.
      require_elim (eqb (valid_length s) (length s)) (at_offset Class.Malformed (valid_length s)) start _ ds q e₂ (λ _ e₃.
      require_elim (not (byte_order_mark s)) (at_offset Class.Malformed 0) start _ ds q e₃ (λ _ e₄.
      module_few s (z.surface / 8) frame_limit (z.declarations / 5) start q ds e₄))))

  pub loading_same : (a b : ℕ) → 65535 ≤ a → a ≤ b → loading s (with_words z a) start ≡ loading s (with_words z b) start
  unfolding loading reading
  loading_same a b h l =
      ap (λ r. after (after r (λ ds p. after (require (leb p.rows (z.core / 8)) (nowhere Class.CoreShort) p) (λ _. pure ds))) (λ ds p. after (accept (first_refused s [] ds) p) (λ _. pure ds)))
      (parsing_same a b h l)

  pub loading_few : (q : Position) (ds : List Declaration) → loading s z start ≡ done ds q → length ds ≤ z.declarations / 5
  unfolding loading reading
  loading_few q ds e =
      after_elim (reading s z start) _ ds q e (λ ds₁ q₁ f₁ e₁.
      after_elim (accept (first_refused s [] ds₁) q₁) _ ds q e₁ (λ u q₂ f₂ e₂.
      subst (λ (l : List Declaration). length l ≤ z.declarations / 5) (done_inj e₂).0
      (after_elim (parsing s z start) _ ds₁ q₁ f₁ (λ ds₃ q₃ f₃ e₃.
      require_elim (leb q₃.rows (z.core / 8)) (nowhere Class.CoreShort) q₃ _ ds₁ q₁ e₃ (λ _ e₄.
      subst (λ (l : List Declaration). length l ≤ z.declarations / 5) (done_inj e₄).0 (parsing_few q₃ ds₃ f₃))))))
