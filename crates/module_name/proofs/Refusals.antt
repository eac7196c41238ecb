-- The refusal where there is no good head: that of the whole source, which is 1, 2, 3 or 6.
use Rattle.token.specs.declared.Class.{Class}
use Rattle.std.specs.Prelude.{Err, Ok}
use mathlib.Core.Path.{◌≡◌, refl, sym, ap, ◌∙◌, subst}
use mathlib.Core.Logic.{◌⊎◌, inl, inr}
use mathlib.Core.List.{List}
use mathlib.Core.Option.{Option, none, some}
use mathlib.Core.Bool.{Bool, true, false, not}
use Prim.Native.Nat.{ℕ, ◌≤◌, ◌<◌}
use native.Mathlib.Omega.{arith}
use lib.Dec.{leb, eqb}
use lib.ListN.{length, take}
use borrow.Author.Tests.{leb-true, le-leb, lt-leb, eqb-true, eq-eqb, not-true}
use Rattle.token.specs.Token.{next_token, Lexed}
use Rattle.std.specs.Prelude.{Err}
use Rattle.token.specs.declared.Refusal.{Refusal}
use Rattle.token.proofs.Outcomes.{every_token}
use Rattle.words.specs.Words.{ascii, same_bytes, identifier, numeral}
use Rattle.utf8.specs.Utf8.{valid_length, byte_order_mark}
use Rattle.terms.specs.Forms.{Edition}
use Rattle.terms.specs.Label.{Declaration}
use Rattle.surface.specs.Text.{text, is_open, is_close, is_atom}
use Rattle.surface.specs.Reader.{Position, start, Result, done, refused, Reader, after, ◌>>◌, require, nowhere, at_offset}
use Rattle.surface.specs.Reading.{lexed, token, opening, closing, atom, word, natural, name, edition_of, supported, surface_line, module_line, Head, head, read_module}
use Rattle.surface.specs.Loading.{Lengths, parsing, reading, loading, outcome, load}
use Rattle.surface.proofs.Steps.{no_done, done_inj, after_elim, require_elim, natural_done}
use Rattle.surface.proofs.Takes.{require_go, require_stops}
use Rattle.surface.proofs.Editions.{version_meets}
use Rattle.surface.proofs.SoundModule.{edition_is, supported_done}
use Rattle.surface.proofs.Acceptance.{whole_valid}
use Rattle.surface.specs.Tables.{ample}
use Rattle.module_name.specs.ModuleName.{module_name}
use Rattle.module_name.specs.Statements.{NoBeginning, head_refusal}
use Rattle.module_name.proofs.Good.{Good, good_head, good_would, read_good, clean_good, accepted_good}
use Rattle.module_name.proofs.Search.{none_refused}

-- The tests of a whole source and its head, as loading makes them.
unfoldable pub heading : List ℕ → Reader Head
heading s = do
  require (leb (length s) 65535) (nowhere Class.LongSource)
  require (eqb (valid_length s) (length s)) (at_offset Class.Malformed (valid_length s))
  require (not (byte_order_mark s)) (at_offset Class.Malformed 0)
  head s

pub long_heading : (s : List ℕ) → 65535 < length s → heading s start ≡ refused (nowhere Class.LongSource)
unfolding heading
long_heading s h = require_stops (leb (length s) 65535) _ _ _ (lt-leb (length s) 65535 h)

-- A head that passes them is good.
heading_good : (s : List ℕ) (h : Head) (p : Position) → heading s start ≡ done h p → Good s h p.offset
unfolding heading
heading_good s h p f =
    require_elim (leb (length s) 65535) _ start _ h p f (λ a f₁.
    require_elim (eqb (valid_length s) (length s)) _ start _ h p f₁ (λ b f₂.
    require_elim (not (byte_order_mark s)) _ start _ h p f₂ (λ c f₃.
    clean_good s h p f₃ (leb-true _ _ a) ((whole_valid s).0 (eqb-true _ _ b)) (not-true _ c))))

-- No beginning is accepted where no head is good.
pub none_by : (s : List ℕ) → ((h : Head) (n : ℕ) → Good s h n → ⊥) → NoBeginning s
none_by s f m a = let b = accepted_good s m a in f b.head_read b.end b.good

pub none_good : (s : List ℕ) → NoBeginning s → (h : Head) (n : ℕ) → Good s h n → ⊥
none_good s f h n g = f n (good_would s h n g)

-- A refusal before the declarations is that of loading, with any tables and a work area.
follow : {A B : Type 0} (t : Bool) (c r : Refusal) (f : Unit {0} → Reader A) (g : Unit {0} → Reader B) → (f tt start ≡ refused r → g tt start ≡ refused r)
    → after (require t c start) f ≡ refused r → after (require t c start) g ≡ refused r
follow true c r f g h e = h e
follow false c r f g h e = ap {B = Result _} refused (let i : c ≡ r = cc in i)

after_refused : {A B : Type 0} (x : Result A) (k : A → Reader B) (r : Refusal) → x ≡ refused r → after x k ≡ refused r
after_refused x k r e = ap (λ y. after y k) e

heading_loads : (s : List ℕ) (z : Lengths) (r : Refusal) → 16384 ≤ z.work → heading s start ≡ refused r → loading s z start ≡ refused r
unfolding heading loading reading parsing read_module
heading_loads s z r w e =
    after_refused (reading s z start) _ r
    (after_refused (parsing s z start) _ r
    (require_go (leb 16384 z.work) _ start _ _ (le-leb 16384 z.work w)
    (follow (leb (length s) 65535) _ r _ _
    (follow (eqb (valid_length s) (length s)) _ r _ _
    (follow (not (byte_order_mark s)) _ r _ _ (λ f. after_refused (head s start) _ r f))) e)))

pub heading_answers : (s : List ℕ) (z : Lengths) (r : Refusal) → 16384 ≤ z.work → heading s start ≡ refused r → (load s z).answer ≡ Err r
unfolding load
heading_answers s z r w e = ap (λ (x : Result (List Declaration)). (outcome s z x).answer) (heading_loads s z r w e)

-- Without a good head the answer is the refusal of these tests.
pub none_heading : (s : List ℕ) → NoBeginning s → (r : Refusal) × (heading s start ≡ refused r)
none_heading s f = go (heading s start) refl
  where
    go : (x : Result Head) → heading s start ≡ x → (r : Refusal) × (heading s start ≡ refused r)
    go (done h p) e = absurd (none_good s f h p.offset (heading_good s h p e))
    go (refused r) e = (r, e)

pub none_names : (s : List ℕ) (r : Refusal) → NoBeginning s → heading s start ≡ refused r → module_name s ≡ Err r
none_names s r f e =
    let w = none_refused s f in
    let l = sym w.loads ∙ heading_loads s (ample s 16384) r (omega arith) e in
    let i : w.refusal ≡ r = cc in
    w.answers ∙ ap Err i

-- A source has a good head, or none of its beginnings is accepted.
abbrev pub GoodOrNone : List ℕ → Type 0
GoodOrNone s = ((h : Head) × (n : ℕ) × Good s h n) ⊎ NoBeginning s

pub good_or_none : (s : List ℕ) → GoodOrNone s
good_or_none s = by_head (head s start) refl
  where
    none_at : (h : Head) (p : Position) → head s start ≡ done h p → (Good s h p.offset → ⊥) → NoBeginning s
    none_at h p e f = none_by s (λ k m g. let i = done_inj (sym e ∙ good_head s k m g) in f (subst (λ (q : Position). Good s h q.offset) (sym i.1) (subst (λ (j : Head). Good s j m) (sym i.0) g)))

    by_tests : (h : Head) (p : Position) → head s start ≡ done h p → (a b c : Bool) → leb p.offset 65535 ≡ a → eqb (valid_length (take p.offset s)) (length (take p.offset s)) ≡ b
        → byte_order_mark (take p.offset s) ≡ c → GoodOrNone s
    by_tests h p e true true false a b c = inl (h, p.offset, read_good s h p e (leb-true _ _ a) ((whole_valid _).0 (eqb-true _ _ b)) c)
    by_tests h p e false y z a b c = inr (none_at h p e (λ g. let i = sym a ∙ le-leb p.offset 65535 g.short in let u : ◌≡◌ {A = ℕ} 0 1 = cc in omega arith))
    by_tests h p e true false z a b c = inr (none_at h p e (λ g. let i = sym b ∙ eq-eqb _ _ ((whole_valid _).1 g.well_formed) in let u : ◌≡◌ {A = ℕ} 0 1 = cc in omega arith))
    by_tests h p e true true true a b c = inr (none_at h p e (λ g. let i = sym c ∙ g.unmarked in let u : ◌≡◌ {A = ℕ} 0 1 = cc in omega arith))

    by_head : (x : Result Head) → head s start ≡ x → GoodOrNone s
    by_head (done h p) e = by_tests h p e (leb p.offset 65535) (eqb (valid_length (take p.offset s)) (length (take p.offset s))) (byte_order_mark (take p.offset s)) refl refl refl
    by_head (refused r) e = inr (none_by s (λ h n g. no_done (sym e ∙ good_head s h n g)))

-- "only 1, 2, 3 and 6 occur": a token is refused for 1, and a head for 1, 2 or 3.
abbrev Only : {A : Type 0} → Result A → Type 0
Only (done a p) = Unit {0}
Only (refused r) = head_refusal r.class ≡ true

then : {A B : Type 0} (x : Result A) (k : A → Reader B) → Only x → ((a : A) (p : Position) → Only (k a p)) → Only (after x k)
then (done a p) k h f = f a p
then (refused r) k h f = h

test : {B : Type 0} (b : Bool) (r : Refusal) (p : Position) (k : Unit {0} → Reader B) → head_refusal r.class ≡ true → Only (k tt p) → Only (after (require b r p) k)
test true r p k h f = f
test false r p k h f = h

abbrev Lexes : Lexed → Type 0
Lexes (Ok t) = Unit {0}
Lexes (Err r) = head_refusal r.class ≡ true

next_lexes : (s : List ℕ) (at : ℕ) → Lexes (next_token s at)
next_lexes = every_token Lexes (λ a e. tt) (λ a e. tt) (λ a e. tt) (λ a e. tt) (λ p. refl)

module _ (next : ℕ → Lexed) (lexes : (at : ℕ) → Lexes (next at)) where
  lexed_only : (n : ℕ) (x : Lexed) → Lexes x → Only (lexed n x)
  lexed_only n (Ok t) h = tt
  lexed_only n (Err r) h = h

  token_only : (p : Position) → Only (token next p)
  unfolding token
  token_only p = lexed_only p.rows (next p.offset) (lexes p.offset)

  opening_only : (p : Position) → Only (opening next p)
  unfolding opening
  opening_only p = then (token next p) _ (token_only p) (λ t q. test (is_open t.kind) _ q _ refl tt)

  closing_only : (p : Position) → Only (closing next p)
  unfolding closing
  closing_only p = then (token next p) _ (token_only p) (λ t q. test (is_close t.kind) _ q _ refl tt)

  atom_only : (p : Position) → Only (atom next p)
  unfolding atom
  atom_only p = then (token next p) _ (token_only p) (λ t q. test (is_atom t.kind) _ q _ refl tt)

  module _ (s : List ℕ) where
    word_only : (w : List ℕ) (p : Position) → Only (word next s w p)
    unfolding word
    word_only w p = then (atom next p) _ (atom_only p) (λ t q. test (same_bytes (text s t) w) _ q _ refl tt)

    natural_only : (p : Position) → Only (natural next s p)
    unfolding natural
    natural_only p = then (atom next p) _ (atom_only p) (λ t q. test (numeral (text s t)) _ q _ refl tt)

module _ (s : List ℕ) where
  abbrev next : ℕ → Lexed
  next = next_token s

  abbrev lexes : (at : ℕ) → Lexes (next at)
  lexes = next_lexes s

  supported_only : (o : Option Edition) (p : Position) → Only (supported o p)
  unfolding supported
  supported_only none p = refl
  supported_only (some E) p = tt

  surface_only : (p : Position) → Only (surface_line s p)
  unfolding surface_line
  surface_only p =
      then (opening next p) _ (opening_only next lexes p) (λ o p₁.
      then (word next s (ascii "surface") p₁) _ (word_only next lexes s (ascii "surface") p₁) (λ w p₂.
      then (natural next s p₂) _ (natural_only next lexes s p₂) (λ a p₃.
      then (natural next s p₃) _ (natural_only next lexes s p₃) (λ b p₄.
      then (closing next p₄) _ (closing_only next lexes p₄) (λ c p₅. supported_only (edition_of (text s a) (text s b)) p₅)))))

  name_only : (E : Edition) → E.tokens ≡ next_token → (p : Position) → Only (name E s p)
  unfolding name
  name_only E e p =
      then (atom (E.tokens s) p) _ (subst (λ (T : List ℕ → ℕ → Lexed). Only (atom (T s) p)) (sym e) (atom_only next lexes p)) (λ t q.
      test (not (E.reserved (text s t))) _ q _ refl (test (identifier (text s t)) _ q _ refl tt))

  module_only : (E : Edition) → E.tokens ≡ next_token → (p : Position) → Only (module_line s E p)
  unfolding module_line
  module_only E e p =
      then (opening next p) _ (opening_only next lexes p) (λ o p₁.
      then (word next s (ascii "module") p₁) _ (word_only next lexes s (ascii "module") p₁) (λ w p₂.
      then (name E s p₂) _ (name_only E e p₂) (λ x p₃.
      then (closing next p₃) _ (closing_only next lexes p₃) (λ c p₄. tt))))

  -- The edition of a surface line has the tokens of a source.
  surface_tokens : (p q : Position) (E : Edition) → surface_line s p ≡ done E q → E.tokens ≡ next_token
  unfolding surface_line
  surface_tokens p q E e =
      after_elim (opening next p) _ E q e (λ o p₁ g₁ h₁.
      after_elim (word next s (ascii "surface") p₁) _ E q h₁ (λ w p₂ g₂ h₂.
      after_elim (natural next s p₂) _ E q h₂ (λ a p₃ g₃ h₃.
      after_elim (natural next s p₃) _ E q h₃ (λ b p₄ g₄ h₄.
      after_elim (closing next p₄) _ E q h₄ (λ c p₅ g₅ h₅.
      supported_done (edition_of (text s a) (text s b)) p₅ q E h₅ (λ v j.
      (version_meets (edition_is s a b E v (natural_done next s p₂ p₃ a g₃).1 (natural_done next s p₃ p₄ b g₄).1)).tokens))))))

  head_only : (p : Position) → Only (head s p)
  unfolding head
  head_only p = go (surface_line s p) refl (surface_only p)
    where
      go : (x : Result Edition) → surface_line s p ≡ x → Only x → Only {A = Head} (after x (λ E q. after (module_line s E q) (λ x v. done (record { edition = E; name = x }) v)))
      go (done E q) e h = then (module_line s E q) _ (module_only E (surface_tokens p q E e) q) (λ x v. tt)
      go (refused r) e h = h

  heading_only : Only (heading s start)
  unfolding heading
  heading_only =
      test (leb (length s) 65535) _ start _ refl
      (test (eqb (valid_length s) (length s)) _ start _ refl
      (test (not (byte_order_mark s)) _ start _ refl (head_only start)))

pub heading_for : (s : List ℕ) (r : Refusal) → heading s start ≡ refused r → head_refusal r.class ≡ true
heading_for s r e = subst Only e (heading_only s)
