-- The same for a core text: three bytes and more for each row, seventeen and more for each declaration, the shortest of which is
-- `(postulate"a"nat)`; or a refusal that comes from the text.
use Rattle.token.specs.declared.Class.{Class}
use Rattle.token.specs.Token.{Lexed}
use mathlib.Core.Path.{◌≡◌, refl}
use mathlib.Core.Logic.{inl}
use mathlib.Core.Bool.{Bool, true, false, ◌&&◌}
use mathlib.Core.List.{List}
use Prim.Native.Nat.{ℕ, ◌+◌, ◌*◌, ◌-◌, ◌/◌, ◌≤◌}
use native.Mathlib.Omega.{arith}
use lib.ListN.{length}
use Rattle.token.specs.declared.TokenKind.{TokenKind}
use Rattle.token.specs.declared.Token.{Token}
use Rattle.core_token.specs.CoreToken.{next_core_token}
use Rattle.core_token.proofs.Outcomes.{every_token}
use Rattle.core_token.proofs.Bounds.{bounds}
use Rattle.core_token.proofs.Ends.{string_here}
use Rattle.core_token.proofs.Apart.{atoms_apart}
use Rattle.words.specs.Words.{ascii, same_bytes}
use Rattle.terms.specs.Forms.{forms}
use Rattle.terms.specs.TextForms.{text_forms}
use Rattle.surface.specs.Text.{text, is_string, is_close, is_end}
use Rattle.surface.specs.Reader.{Position, start, pure, at_token, nowhere, require}
use Rattle.surface.specs.Reading.{term, token, opening, closing, word, natural, beginning, declarations}
use Rattle.core_text.specs.TextReading.{text_edition, string, end_token, zero_one, text_head, declarations_line, read_text}
use Rattle.core_text.proofs.Strings.{string_is}
use Rattle.least_storage.proofs.FromSource.{Comes, comes_as, comes_after, comes_require}
use Rattle.least_storage.proofs.TokenBytes.{Lexes, Spread, Ahead, Gap, Taken, token_taken, taken_ahead, closing_ahead}
use Rattle.least_storage.proofs.LineBytes.{Line, LineOf, Any, line_after, line_end, opening_line, closing_line, natural_line, word_line}
use Rattle.least_storage.proofs.FormBytes.{Fine}
use Rattle.least_storage.proofs.TermBytes.{whole_comes}
use Rattle.least_storage.proofs.DeclarationBytes.{Named, Passed, span_high, declarations_comes}
use Rattle.least_storage.proofs.Bytes.{Fits, Sized, fits}

spread : (t : List ℕ) → Spread (next_core_token t) (length t)
spread t = record {
  within = bounds t;
  lexes = every_token Lexes (λ a e. tt) (λ p. refl) (λ a e. tt) (λ a e. tt) (λ a e. tt) (λ a e. tt) t;
  apart = atoms_apart t;
}

fine_text : Fine text_edition
unfolding text_edition text_forms forms
fine_text = record { tokens = spread; forms = refl }

module _ (t : List ℕ) where
  abbrev next : ℕ → Lexed
  next = next_core_token t

  abbrev hi : ℕ
  hi = length t

  -- A string has its quotes and a byte between them.
  string_line : (p : Position) → Comes (LineOf Any hi 3 p) (string next p)
  unfolding string
  string_line p =
      comes_after (Taken next hi (spread t) p) (LineOf Any hi 3 p) (token next p) _ (token_taken next hi (spread t) p)
      (λ x q a. comes_require (LineOf Any hi 3 p) (is_string x.kind) (at_token Class.Malformed x)
      (pure (record { kind = TokenKind.String; start = x.start + 1; end = x.end - 1 })) q refl
      (λ y. let k = string_is x.kind y in
      let w = taken_ahead next hi (spread t) p x q a (λ i. let z : ◌≡◌ {A = ℕ} 0 1 = cc in omega arith) in
      let v = string_here t p.offset x a.takes k in
      (tt, record { bytes = omega (arith, v.some); high = omega arith; rows = w.rows })))

  named_comes : (p : Position) → Gap next p.offset → Comes (λ x q. Named next hi p q) (string next p)
  named_comes p g =
      comes_as (LineOf Any hi 3 p) (λ x q. Named next hi p q) (string next p) (string_line p)
      (λ x q w. let l = w.1 in record { bytes = omega arith; more = inl l.bytes; high = l.high; rows = l.rows })

  head_comes : (p : Position) → Comes (LineOf Any hi 33 p) (text_head t p)
  unfolding text_head
  head_comes p =
      line_after Any Any hi 1 32 p (opening next p) _ (opening_line next hi (spread t) p) (λ o p₁ u₁ h₁.
      line_after Any Any hi 9 23 p₁ (word next t (ascii "hott-core") p₁) _ (word_line next hi (spread t) p₁ t (ascii "hott-core")) (λ w p₂ u₂ h₂.
      line_after Any Any hi 1 22 p₂ (opening next p₂) _ (opening_line next hi (spread t) p₂) (λ i p₃ u₃ h₃.
      line_after Any Any hi 6 16 p₃ (word next t (ascii "format") p₃) _ (word_line next hi (spread t) p₃ t (ascii "format")) (λ v p₄ u₄ h₄.
      line_after Any Any hi 1 15 p₄ (natural next t p₄) _ (natural_line next hi (spread t) p₄ t) (λ a p₅ u₅ h₅.
      line_after Any Any hi 1 14 p₅ (natural next t p₅) _ (natural_line next hi (spread t) p₅ t) (λ b p₆ u₆ h₆.
      line_after Any Any hi 1 13 p₆ (closing next p₆) _ (closing_line next hi (spread t) p₆) (λ c p₇ u₇ h₇.
      line_after Any Any hi 1 12 p₇ (opening next p₇) _ (opening_line next hi (spread t) p₇) (λ j p₈ u₈ h₈.
      line_after Any Any hi 6 6 p₈ (word next t (ascii "theory") p₈) _ (word_line next hi (spread t) p₈ t (ascii "theory")) (λ x p₉ u₉ h₉.
      line_after Any Any hi 3 3 p₉ (string next p₉) _ (string_line p₉) (λ n q₁ v₁ k₁.
      line_after Any Any hi 1 2 q₁ (natural next t q₁) _ (natural_line next hi (spread t) q₁ t) (λ d q₂ v₂ k₂.
      line_after Any Any hi 1 1 q₂ (natural next t q₂) _ (natural_line next hi (spread t) q₂ t) (λ e q₃ v₃ k₃.
      line_after Any Any hi 1 0 q₃ (closing next q₃) _ (closing_line next hi (spread t) q₃) (λ f q₄ v₄ k₄.
      by q₄ k₄ (zero_one t a b && (same_bytes (text t n) (ascii "mltt-core") && zero_one t d e)))))))))))))))
    where
      by : (q : Position) → q.offset ≤ hi → (y : Bool) → Comes (LineOf Any hi 0 q) (require y (nowhere Class.Version) q)
      by q h true = line_end {A = Unit {0}} Any hi q tt tt h
      by q h false = refl

  line_comes : (p : Position) → Comes (LineOf Any hi 13 p) (declarations_line t p)
  unfolding declarations_line
  line_comes p =
      line_after Any Any hi 1 12 p (opening next p) _ (opening_line next hi (spread t) p) (λ o q u h. word_line next hi (spread t) q t (ascii "declarations"))

  -- The end of the text.
  abbrev Ends : Position → Token → Position → Type 0
  Ends p e q = Line hi 0 p q

  end_comes : (p : Position) → p.offset ≤ hi → Comes (Ends p) (end_token next p)
  unfolding end_token
  end_comes p h =
      comes_after (Taken next hi (spread t) p) (Ends p) (token next p) _ (token_taken next hi (spread t) p)
      (λ e q a. let w = span_high e.kind p.offset e.start e.end hi h a.span in let f = a.end in
      comes_require (Ends p) (is_end e.kind) (at_token Class.Malformed e) (pure e) q refl
      (λ y. record { bytes = omega (arith, w.0); high = omega (arith, w.1); rows = a.rows }))

  -- The head and the last parenthesis have forty-seven bytes at least.
  pub text_comes : (limit room frames : ℕ) → length t / 3 ≤ limit → length t / 17 ≤ room → Comes (Sized (length t) 47) (read_text t limit room frames start)
  unfolding read_text text_edition
  text_comes limit room frames h k =
      comes_after (LineOf Any hi 33 start) (Sized hi 47) (text_head t start) _ (head_comes start) (λ u p₁ a₁.
      comes_after (LineOf Any hi 13 p₁) (Sized hi 47) (declarations_line t p₁) _ (line_comes p₁) (λ w p₂ a₂.
      let l₁ = a₁.1 in let l₂ = a₂.1 in
      comes_after (λ ds q. Passed hi (length ds * 17) p₂ q) (Sized hi 47)
      (declarations text_edition t (term (beginning text_edition t) (closing next) limit frames) (string next) is_close room p₂) _
      (declarations_comes text_edition fine_text t (term (beginning text_edition t) (closing next) limit frames) (whole_comes text_edition fine_text t limit frames h)
      (string next) is_close named_comes room 0 p₂ (record { rows = omega arith; high = l₂.high }) (omega arith) (omega arith))
      (λ ds p₃ a₃. let b₃ = a₃.stored in
      comes_after (Ahead hi p₃) (Sized hi 47) (closing next p₃) _ (closing_ahead next hi (spread t) p₃) (λ c p₄ a₄.
      comes_after (Ends p₄) (Sized hi 47) (end_token next p₄) _ (end_comes p₄ (omega arith)) (λ e q a₅.
      record { rows = omega arith; declarations = omega (arith, a₃.bytes); high = a₅.high })))))

  pub text_fits : (limit room frames : ℕ) → length t / 3 ≤ limit → length t / 17 ≤ room → Fits t (read_text t limit room frames start)
  text_fits limit room frames h k = fits t 47 (read_text t limit room frames start) (text_comes limit room frames h k)
