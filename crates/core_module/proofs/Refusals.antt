-- Which refusals the two readers of a core text give, and where.
use Rattle.token.specs.declared.Class.{Class}
use Rattle.token.specs.Token.{Lexed}
use Rattle.std.specs.Prelude.{Err, Ok}
use mathlib.Core.Path.{◌≡◌, refl, ap, subst}
use mathlib.Core.Logic.{◌⊎◌, inl, inr}
use mathlib.Core.List.{List, [], ◌∷◌, map}
use mathlib.Core.Option.{Option, none, some}
use mathlib.Core.Bool.{Bool, true, false, ◌||◌, ◌&&◌, not}
use Prim.Native.Nat.{ℕ, zero, suc, ◌+◌, ◌/◌, ◌≤◌}
use native.Mathlib.Omega.{arith}
use lib.Dec.{leb, ltb, eqb}
use lib.ListN.{length, drop, length-drop}
use Rattle.token.specs.declared.Refusal.{Refusal}
use Rattle.token.specs.declared.TokenKind.{TokenKind}
use Rattle.token.specs.declared.Token.{Token}
use Rattle.token.proofs.Bounds.{SpanOf, Within}
use Rattle.core_token.specs.CoreToken.{core_class, string_class, core_atom_from, Open, nothing, backslash, lead, string_from, core_token_from, next_core_token}
use Rattle.core_token.proofs.Outcomes.{atom_by, string_by, cond_by, test_by, here_by}
use Rattle.core_token.proofs.Bounds.{bounds}
use Rattle.words.specs.Words.{ascii, same_bytes, identifier, numeral}
use Rattle.utf8.specs.Utf8.{valid_length, byte_order_mark}
use Rattle.utf8.proofs.Longest.{valid_is_whole}
use Rattle.terms.specs.Forms.{Shape, alone, with_name, with_numeral, binding, plain, Form}
use Rattle.terms.specs.Tree.{Forest, Tree}
use Rattle.terms.specs.Label.{Label, Declaration}
use Rattle.surface.specs.Text.{text, is_open, is_close, is_atom, is_string, is_end}
use Rattle.surface.specs.Reader.{Position, start, Result, done, refused, Reader, after, require, nowhere, at_offset}
use Rattle.surface.specs.Reading.{Beginning, leaf, frame, store, finish, several, term, lexed, token, opening, closing, atom, word, natural, name, declaration_kind, bare, tagged, known, beginning_on, beginning, body, declared, declaration, ending, onwards, declarations}
use Rattle.surface.specs.Tables.{Lengths, Tables, lengths, blank, leaves}
use Rattle.surface.specs.Loading.{frame_limit, Outcome}
use Rattle.core_text.specs.TextReading.{text_edition, string, end_token, zero_one, text_head, declarations_line, read_text}
use Rattle.printing.specs.Printing.{print_module}
use Rattle.core_module.specs.CoreText.{told_class, told, repeated, spelled_text, reading_text, reading_canonical, text_outcome, read_core, read_canonical}
use Rattle.core_module.specs.Statements.{TextRefusal, version, long_text, many_frames, full_list, full_table, short_work, malformed, ReadingRefusals}

-- The refusals inside, for a text of n bytes: 1 within it; 2, 7, 8, 9 nowhere.
data Inner (n : ℕ) : Refusal → Type 0 where
  misfit : (p : ℕ) → p ≤ n → Inner n (at_offset Class.Malformed p)
  other_version : Inner n (nowhere Class.Version)
  deep : Inner n (nowhere Class.Frames)
  no_row : Inner n (nowhere Class.SurfaceFull)
  no_declaration : Inner n (nowhere Class.DeclarationsFull)

-- What a reader gives holds Q and stands within n bytes, and its refusals pass R.
abbrev Only : {A : Type 0} → ℕ → (Refusal → Type 0) → (A → Type 0) → Result A → Type 0
Only n R Q (done a p) = Q a × (p.offset ≤ n)
Only n R Q (refused r) = R r

module _ (n : ℕ) (R : Refusal → Type 0) where
  after_only : {A B : Type 0} (Q : A → Type 0) (S : B → Type 0) (x : Result A) (k : A → Reader B) → Only n R Q x → ((a : A) (p : Position) → Q a → p.offset ≤ n → Only n R S (k a p)) → Only n R S (after x k)
  after_only Q S (done a p) k h f = f a p h.0 h.1
  after_only Q S (refused r) k h f = h

  require_only : {B : Type 0} (S : B → Type 0) (b : Bool) (r : Refusal) (p : Position) (k : Unit {0} → Reader B) → R r → Only n R S (k tt p) → Only n R S (after (require b r p) k)
  require_only S true r p k h f = f
  require_only S false r p k h f = h

-- Tokens are refused within the text.
module _ (n : ℕ) where
  abbrev Refuses : Lexed → Type 0
  Refuses (Ok t) = Unit {0}
  Refuses (Err r) = Inner n r

  atom_refuses : (l : List ℕ) (start at : ℕ) → at + length l ≤ n → Refuses (core_atom_from start at l)
  unfolding core_atom_from
  atom_refuses [] start at h = tt
  atom_refuses (b ∷ l) start at h = atom_by Refuses (core_class b) start at _ tt (misfit at (omega arith)) (atom_refuses l start (at + 1) (omega arith))

  abbrev Stands : Open → Type 0
  Stands nothing = Unit {0}
  Stands (backslash e) = e ≤ n
  Stands (lead e) = e ≤ n

  string_refuses : (l : List ℕ) (o : Open) (start at : ℕ) → Stands o → start ≤ n → at + length l ≤ n → Refuses (string_from start o at l)
  unfolding string_from
  string_refuses [] nothing start at o s h = misfit start s
  string_refuses [] (backslash e) start at o s h = misfit e o
  string_refuses [] (lead e) start at o s h = misfit start s
  string_refuses (b ∷ l) nothing start at o s h =
      string_by Refuses (string_class b) at _ _ _ _
      (λ _. cond_by Refuses (eqb at (start + 1)) _ _ (misfit start s) (λ _. tt))
      (string_refuses l (backslash at) start (at + 1) (omega arith) s (omega arith)) (misfit at (omega arith))
      (string_refuses l (lead at) start (at + 1) (omega arith) s (omega arith)) (string_refuses l nothing start (at + 1) tt s (omega arith))
  string_refuses (b ∷ l) (backslash e) start at o s h = test_by Refuses (eqb b 34 || eqb b 92) _ _ (string_refuses l nothing start (at + 1) tt s (omega arith)) (misfit e o)
  string_refuses (b ∷ l) (lead e) start at o s h = test_by Refuses (leb b 0x9F) _ _ (misfit e o) (string_refuses l nothing start (at + 1) tt s (omega arith))

  token_refuses : (l : List ℕ) (at : ℕ) → at + length l ≤ n → Refuses (core_token_from at l)
  unfolding core_token_from
  token_refuses [] at h = tt
  token_refuses (b ∷ l) at h =
      here_by Refuses (core_class b) at _ _ _ (token_refuses l (at + 1) (omega arith)) (λ _. tt) tt
      (λ _. string_refuses l nothing at (at + 1) tt (omega arith) (omega arith)) (atom_refuses l at (at + 1) (omega arith)) (misfit at (omega arith))

-- The readers, one by one.
module _ (s : List ℕ) where
  abbrev In : {A : Type 0} → (A → Type 0) → Result A → Type 0
  In Q x = Only (length s) (Inner (length s)) Q x

  abbrev Any : {A : Type 0} → A → Type 0
  Any a = Unit {0}

  abbrev Starts : Token → Type 0
  Starts t = t.start ≤ length s

  abbrev At : Position → Type 0
  At p = p.offset ≤ length s

  then : {A B : Type 0} (Q : A → Type 0) (S : B → Type 0) (x : Result A) (k : A → Reader B) → In Q x → ((a : A) (p : Position) → Q a → At p → In S (k a p)) → In S (after x k)
  then = after_only (length s) (Inner (length s))

  test : {B : Type 0} (S : B → Type 0) (b : Bool) (r : Refusal) (p : Position) (k : Unit {0} → Reader B) → Inner (length s) r → In S (k tt p) → In S (after (require b r p) k)
  test = require_only (length s) (Inner (length s))

  span_in : (k : TokenKind) (lo a e : ℕ) → lo ≤ length s → SpanOf k lo a e (length s) → (a ≤ length s) × (e ≤ length s)
  span_in TokenKind.LParen lo a e h w = (omega (arith, w.some, w.high), w.high)
  span_in TokenKind.RParen lo a e h w = (omega (arith, w.some, w.high), w.high)
  span_in TokenKind.Atom lo a e h w = (omega (arith, w.some, w.high), w.high)
  span_in TokenKind.String lo a e h w = (omega (arith, w.some, w.high), w.high)
  span_in TokenKind.Eof lo a e h w = let v = w h in (omega (arith, v.0), omega (arith, v.1))

  lexed_in : (lo rows : ℕ) (x : Lexed) → lo ≤ length s → Within lo (length s) x → Refuses (length s) x → In Starts (lexed rows x)
  lexed_in lo rows (Ok t) h w r = span_in t.kind lo t.start t.end h w
  lexed_in lo rows (Err x) h w r = r

  abbrev next : ℕ → Lexed
  next = next_core_token s

  token_in : (p : Position) → At p → In Starts (token next p)
  unfolding token next_core_token
  token_in p h = lexed_in p.offset p.rows (next p.offset) h (bounds s p.offset) (token_refuses (length s) (drop p.offset s) p.offset (omega (arith, length-drop p.offset s)))

  opening_in : (p : Position) → At p → In Starts (opening next p)
  unfolding opening
  opening_in p h = then Starts Starts (token next p) _ (token_in p h) (λ t q b k. test Starts (is_open t.kind) _ q _ (misfit t.start b) (b, k))

  closing_in : (p : Position) → At p → In Starts (closing next p)
  unfolding closing
  closing_in p h = then Starts Starts (token next p) _ (token_in p h) (λ t q b k. test Starts (is_close t.kind) _ q _ (misfit t.start b) (b, k))

  atom_in : (p : Position) → At p → In Starts (atom next p)
  unfolding atom
  atom_in p h = then Starts Starts (token next p) _ (token_in p h) (λ t q b k. test Starts (is_atom t.kind) _ q _ (misfit t.start b) (b, k))

  word_in : (w : List ℕ) (p : Position) → At p → In Starts (word next s w p)
  unfolding word
  word_in w p h = then Starts Starts (atom next p) _ (atom_in p h) (λ t q b k. test Starts (same_bytes (text s t) w) _ q _ (misfit t.start b) (b, k))

  natural_in : (p : Position) → At p → In Starts (natural next s p)
  unfolding natural
  natural_in p h = then Starts Starts (atom next p) _ (atom_in p h) (λ t q b k. test Starts (numeral (text s t)) _ q _ (misfit t.start b) (b, k))

  name_in : (p : Position) → At p → In Starts (name text_edition s p)
  unfolding name text_edition
  name_in p h = then Starts Starts (atom next p) _ (atom_in p h) (λ t q b k. test Starts (identifier (text s t)) _ q _ (misfit t.start b) (b, k))

  string_in : (p : Position) → At p → In Any (string next p)
  unfolding string
  string_in p h = then Starts Any (token next p) _ (token_in p h) (λ t q b k. test Any (is_string t.kind) _ q _ (misfit t.start b) (tt, k))

  end_in : (p : Position) → At p → In Any (end_token next p)
  unfolding end_token
  end_in p h = then Starts Any (token next p) _ (token_in p h) (λ t q b k. test Any (is_end t.kind) _ q _ (misfit t.start b) (tt, k))

  bare_in : (t : Token) (f : Form) (c : Shape) (p : Position) → Starts t → At p → In Any (bare text_edition s t f c p)
  unfolding bare
  bare_in t f alone p b h = (tt, h)
  bare_in t f with_name p b h = misfit t.start b
  bare_in t f with_numeral p b h = misfit t.start b
  bare_in t f binding p b h = misfit t.start b
  bare_in t f plain p b h = misfit t.start b

  tagged_in : (o t : Token) (f : Form) (c : Shape) (p : Position) → Starts t → At p → In Any (tagged text_edition s o t f c p)
  unfolding tagged text_edition
  tagged_in o t f alone p b h = misfit t.start b
  tagged_in o t f with_name p b h = then Starts Any (name text_edition s p) _ (name_in p h) (λ x q u k. then Starts Any (closing next q) _ (closing_in q k) (λ c r v l. (tt, l)))
  tagged_in o t f with_numeral p b h = then Starts Any (natural next s p) _ (natural_in p h) (λ x q u k. then Starts Any (closing next q) _ (closing_in q k) (λ c r v l. (tt, l)))
  tagged_in o t f binding p b h = then Starts Any (name text_edition s p) _ (name_in p h) (λ x q u k. (tt, k))
  tagged_in o t f plain p b h = (tt, h)

  known_in : (k : Form → Reader Beginning) (t : Token) (o : Option Form) (p : Position) → Starts t → ((f : Form) → In Any (k f p)) → In Any (known text_edition s k t o p)
  unfolding known
  known_in k t none p b h = misfit t.start b
  known_in k t (some f) p b h = h f

  on_in : (t : Token) (c : TokenKind) (p : Position) → Starts t → At p → In Any (beginning_on text_edition s t c p)
  unfolding beginning_on text_edition
  on_in t TokenKind.LParen p b h = then Starts Any (atom next p) _ (atom_in p h) (λ w q u k. known_in _ w _ q u (λ f. tagged_in t w f f.shape q u k))
  on_in t TokenKind.RParen p b h = misfit t.start b
  on_in t TokenKind.Atom p b h = known_in _ t _ p b (λ f. bare_in t f f.shape p b h)
  on_in t TokenKind.String p b h = misfit t.start b
  on_in t TokenKind.Eof p b h = misfit t.start b

  abbrev begin : Reader Beginning
  begin = beginning text_edition s

  begin_in : (p : Position) → At p → In Any (begin p)
  unfolding beginning text_edition
  begin_in p h = then Starts Any (token next p) _ (token_in p h) (λ t q b k. on_in t t.kind q b k)

  module _ (limit : ℕ) where
    store_in : (t : Tree Label) (p : Position) → At p → In Any (store begin (closing next) limit t p)
    unfolding store
    store_in t p h = test Any (ltb p.rows limit) (nowhere Class.SurfaceFull) p (λ a q. done t (record { offset = p.offset; rows = suc p.rows })) no_row (tt, h)

    finish_in : (arguments : ℕ → Reader (Forest Label)) (b : Beginning) (p : Position) → At p → ((n : ℕ) (q : Position) → At q → In Any (arguments n q)) → In Any (finish begin (closing next) limit arguments b p)
    unfolding finish
    finish_in arguments (leaf l) p h f = store_in _ p h
    finish_in arguments (frame l n) p h f = then Any Any (arguments n p) _ (f n p h) (λ a q u k. then Starts Any (closing next q) _ (closing_in q k) (λ c r v i. store_in _ r i))

    several_in : (one : Reader (Tree Label)) (n : ℕ) (p : Position) → At p → ((q : Position) → At q → In Any (one q)) → In Any (several begin (closing next) limit one n p)
    unfolding several
    several_in one zero p h f = (tt, h)
    several_in one (suc n) p h f = then Any Any (one p) _ (f p h) (λ t q u k. then Any Any (several begin (closing next) limit one n q) _ (several_in one n q k f) (λ r x v i. (tt, i)))

    term_in : (frames : ℕ) (p : Position) → At p → In Any (term begin (closing next) limit frames p)
    unfolding term
    term_in zero p h = then Any Any (begin p) _ (begin_in p h) (λ b q u k. finish_in _ b q k (λ n r i. deep))
    term_in (suc frames) p h = then Any Any (begin p) _ (begin_in p h) (λ b q u k. finish_in _ b q k (λ j r i. several_in _ j r i (term_in frames)))

  module _ (whole : Reader (Tree Label)) (whole_in : (p : Position) → At p → In Any (whole p)) where
    body_in : (k : ℕ) (p : Position) → At p → In Any (body text_edition s whole k p)
    unfolding body
    body_in zero p h = (tt, h)
    body_in (suc k) p h = then Any Any (whole p) _ (whole_in p h) (λ b q u i. (tt, i))

    declared_in : (t : Token) (k : ℕ) (p : Position) → Starts t → At p → In Any (declared text_edition s whole (string next) is_close t k p)
    unfolding declared text_edition
    declared_in t zero p b h = misfit t.start b
    declared_in t (suc k) p b h =
        then Any Any (string next p) _ (string_in p h) (λ x q _ i.
        then Any Any (whole q) _ (whole_in q i) (λ a r _ j.
        then Any Any (body text_edition s whole k r) _ (body_in k r j) (λ b u _ l.
        then Starts Any (closing next u) _ (closing_in u l) (λ c v _ m. (tt, m)))))

    declaration_in : (p : Position) → At p → In Any (declaration text_edition s whole (string next) is_close p)
    unfolding declaration text_edition
    declaration_in p h = then Starts Any (atom next p) _ (atom_in p h) (λ t q b k. declared_in t (declaration_kind (text s t)) q b k)

    ending_in : (t : Token) (c : TokenKind) (p : Position) → Starts t → At p → In Any (ending text_edition s whole (string next) is_close t c p)
    unfolding ending
    ending_in t c p b h = test Any (is_close c) _ p _ (misfit t.start b) (tt, h)

    onwards_in : (more : Reader (List Declaration)) (t : Token) (c : TokenKind) (p : Position) → Starts t → At p → In Any (more p) → In Any (onwards text_edition s whole (string next) is_close more t c p)
    unfolding onwards
    onwards_in more t TokenKind.LParen p b h m = m
    onwards_in more t TokenKind.RParen p b h m = ending_in t TokenKind.RParen p b h
    onwards_in more t TokenKind.Atom p b h m = ending_in t TokenKind.Atom p b h
    onwards_in more t TokenKind.String p b h m = ending_in t TokenKind.String p b h
    onwards_in more t TokenKind.Eof p b h m = ending_in t TokenKind.Eof p b h

    declarations_in : (room : ℕ) (p : Position) → At p → In Any (declarations text_edition s whole (string next) is_close room p)
    unfolding declarations text_edition
    declarations_in zero p h = then Starts Any (token next p) _ (token_in p h) (λ t q b k. onwards_in _ t t.kind q b k no_declaration)
    declarations_in (suc room) p h =
        then Starts Any (token next p) _ (token_in p h) (λ t q b k. onwards_in _ t t.kind q b k
        (then Any Any (declaration text_edition s whole (string next) is_close q) _ (declaration_in q k) (λ d r _ i.
        then Any Any (declarations text_edition s whole (string next) is_close room r) _ (declarations_in room r i) (λ l u _ j. (tt, j)))))

  head_in : (p : Position) → At p → In Any (text_head s p)
  unfolding text_head
  head_in p h =
      then Starts Any (opening next p) _ (opening_in p h) (λ o p₁ _ h₁.
      then Starts Any (word next s (ascii "hott-core") p₁) _ (word_in _ p₁ h₁) (λ w p₂ _ h₂.
      then Starts Any (opening next p₂) _ (opening_in p₂ h₂) (λ x p₃ _ h₃.
      then Starts Any (word next s (ascii "format") p₃) _ (word_in _ p₃ h₃) (λ v p₄ _ h₄.
      then Starts Any (natural next s p₄) _ (natural_in p₄ h₄) (λ a p₅ _ h₅.
      then Starts Any (natural next s p₅) _ (natural_in p₅ h₅) (λ b p₆ _ h₆.
      then Starts Any (closing next p₆) _ (closing_in p₆ h₆) (λ c p₇ _ h₇.
      then Starts Any (opening next p₇) _ (opening_in p₇ h₇) (λ q p₈ _ h₈.
      then Starts Any (word next s (ascii "theory") p₈) _ (word_in _ p₈ h₈) (λ u p₉ _ h₉.
      then Any Any (string next p₉) _ (string_in p₉ h₉) (λ m q₁ _ i₁.
      then Starts Any (natural next s q₁) _ (natural_in q₁ i₁) (λ d q₂ _ i₂.
      then Starts Any (natural next s q₂) _ (natural_in q₂ i₂) (λ e q₃ _ i₃.
      then Starts Any (closing next q₃) _ (closing_in q₃ i₃) (λ f q₄ _ i₄.
      last (zero_one s a b && (same_bytes (text s m) (ascii "mltt-core") && zero_one s d e)) q₄ i₄)))))))))))))
    where
      last : (b : Bool) (q : Position) → At q → In Any (require b (nowhere Class.Version) q)
      last true q h = (tt, h)
      last false q h = other_version

  line_in : (p : Position) → At p → In Any (declarations_line s p)
  unfolding declarations_line
  line_in p h = then Starts Any (opening next p) _ (opening_in p h) (λ o q _ k. any (word next s (ascii "declarations") q) (word_in _ q k))
    where
      any : (x : Result Token) → In Starts x → In Any x
      any (done t q) w = (tt, w.1)
      any (refused r) w = w

  read_in : (rows room frames : ℕ) (p : Position) → At p → In Any (read_text s rows room frames p)
  unfolding read_text
  read_in rows room frames p h =
      let whole = term begin (closing next) rows frames in
      then Any Any (text_head s p) _ (head_in p h) (λ _ p₁ _ h₁.
      then Any Any (declarations_line s p₁) _ (line_in p₁ h₁) (λ w p₂ _ h₂.
      then Any Any (declarations text_edition s whole (string next) is_close room p₂) _ (declarations_in whole (term_in rows frames) room p₂ h₂) (λ ds p₃ _ h₃.
      then Starts Any (closing next p₃) _ (closing_in p₃ h₃) (λ c p₄ _ h₄.
      then Any Any (end_token next p₄) _ (end_in p₄ h₄) (λ e p₅ _ h₅. (tt, h₅))))))

-- The numbers that are told.
told_refusal : (n : ℕ) (r : Refusal) → Inner n r → TextRefusal n (record { class = told_class r.class; place = r.place })
told_refusal n r (misfit p h) = malformed p h
told_refusal n r other_version = version
told_refusal n r deep = many_frames
told_refusal n r no_row = full_table
told_refusal n r no_declaration = full_list

abbrev Outer : ℕ → (Refusal → Type 0) → Result (List Declaration) → Type 0
Outer n R x = Only n R (λ ds. Unit {0}) x

told_outer : (n : ℕ) (x : Result (List Declaration)) → Outer n (Inner n) x → Outer n (TextRefusal n) (told x)
told_outer n (done ds p) h = h
told_outer n (refused r) h = told_refusal n r h

abbrev CanonicalRefusal : ℕ → Refusal → Type 0
CanonicalRefusal n r = TextRefusal n r ⊎ (r ≡ nowhere Class.CoreText)

module _ (t : List ℕ) (z : Lengths) where
  reads_outer : Outer (length t) (TextRefusal (length t)) (reading_text t z start)
  unfolding reading_text
  reads_outer =
      let n = length t in
      let o : 0 ≤ n = omega arith in
      let x = read_text t (z.core / 8) (z.declarations / 5) frame_limit start in
      let test = require_only n (TextRefusal n) (λ (ds : List Declaration). Unit {0}) in
      test (leb 16384 z.work) (nowhere Class.WorkShort) start _ short_work
      (test (leb n 4294967295) (nowhere Class.LongSource) start _ long_text
      (test (eqb (valid_length t) n) (at_offset Class.CoreText (valid_length t)) start _ (malformed (valid_length t) (valid_is_whole t).0)
      (test (not (byte_order_mark t)) (at_offset Class.CoreText 0) start _ (malformed 0 o)
      (after_only n (TextRefusal n) (λ ds. Unit {0}) (λ ds. Unit {0}) (told x) _ (told_outer n x (read_in t (z.core / 8) (z.declarations / 5) frame_limit start o)) (λ ds q _ h.
      test (not (repeated t [] ds)) (at_offset Class.CoreText 0) q (λ a r. done ds r) (malformed 0 o) (tt, h))))))

  canonical_outer : Outer (length t) (CanonicalRefusal (length t)) (reading_canonical t z start)
  unfolding reading_canonical
  canonical_outer =
      let n = length t in
      after_only n (CanonicalRefusal n) (λ ds. Unit {0}) (λ ds. Unit {0}) (reading_text t z start) _ (weaken (reading_text t z start) reads_outer) (λ ds q _ h.
      require_only n (CanonicalRefusal n) (λ ds. Unit {0}) (same_bytes t (print_module (map (spelled_text t) ds))) (nowhere Class.CoreText) q (λ a r. done ds r) (inr refl) (tt, h))
    where
      weaken : (x : Result (List Declaration)) → Outer (length t) (TextRefusal (length t)) x → Outer (length t) (CanonicalRefusal (length t)) x
      weaken (done ds p) h = h
      weaken (refused r) h = inl h

-- What a call leaves that refuses.
refused_leaves : (n : ℕ) (P : Refusal → Type 0) (z : Lengths) (x : Result (List Declaration)) (r : Refusal) (left : Tables) → Outer n P x
    → leaves (Err r) left ≡ text_outcome z x → P r × (left ≡ blank z)
refused_leaves n P z (done ds p) r left h e =
    absurd (let f = ap (λ (o : Outcome). o.answer) e in
    let i : ◌≡◌ {A = ℕ} 0 1 = cc in
    omega arith)
refused_leaves n P z (refused x) r left h e =
    let f = ap (λ (o : Outcome). o.answer) e in
    let i : x ≡ r = cc in
    (subst P i h, ap (λ (o : Outcome). o.tables) e)

pub reading_refusals : ReadingRefusals
unfolding read_core read_canonical
reading_refusals t before r left =
    let z = lengths before in (
      refused_leaves (length t) (TextRefusal (length t)) z (reading_text t z start) r left (reads_outer t z),
      refused_leaves (length t) (CanonicalRefusal (length t)) z (reading_canonical t z start) r left (canonical_outer t z),
    )
