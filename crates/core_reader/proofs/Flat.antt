-- The head of a core text by its lines is the head token by token.
use Rattle.token.specs.declared.Class.{Class}
use Rattle.token.specs.Token.{Lexed}
use mathlib.Core.Path.{◌≡◌, refl, sym, ◌∙◌}
use mathlib.Core.Bool.{Bool, ◌&&◌}
use mathlib.Core.List.{List}
use Prim.Native.Nat.{ℕ}
use Rattle.token.specs.declared.Token.{Token}
use Rattle.words.specs.Words.{ascii, same_bytes}
use Rattle.core_token.specs.CoreToken.{next_core_token}
use Rattle.surface.specs.Text.{text}
use Rattle.surface.specs.Reader.{Position, Result, done, refused, Reader, after, ◌>>=◌, require, nowhere}
use Rattle.surface.specs.Reading.{opening, closing, word, natural}
use Rattle.core_text.specs.TextReading.{string, zero_one, text_head, declarations_line}
use Rattle.expects.specs.Lines.{tag}
use Rattle.expects.proofs.Lines.{after_after, tag_first}
use Rattle.core_reader.specs.Heads.{version, format_line, theory_line, head}

-- Equal readers behind a reader.
pub behind : {A B : Type 0} (x : Result A) (f g : A → Reader B) → ((a : A) (q : Position) → f a q ≡ g a q) → after x f ≡ after x g
behind (done a q) f g h = h a q
behind (refused r) f g h = refl

module _ (s : List ℕ) where
  abbrev next : ℕ → Lexed
  next = next_core_token s

  -- What follows a line's tag.
  tagged : {B : Type 0} (w : List ℕ) (k l : Token → Reader B) (p : Position) → ((t : Token) (q : Position) → k t q ≡ l t q)
      → (tag next s w >>= k) p ≡ (opening next >>= (λ o. word next s w >>= l)) p
  tagged w k l p h =
      sym (tag_first next s w k p) ∙ behind (opening next p) _ _ (λ o q. behind (word next s w q) k l h)

  versioned : {B : Type 0} (k : Bool → Reader B) (p : Position)
      → (version s >>= k) p ≡ (natural next s >>= (λ a. natural next s >>= (λ b. closing next >>= (λ c. k (zero_one s a b))))) p
  unfolding version
  versioned k p =
      after_after (natural next s p) _ k
      ∙ behind (natural next s p) _ _ (λ a q. after_after (natural next s q) _ k ∙ behind (natural next s q) _ _ (λ b r. after_after (closing next r) _ k))

  formatted : {B : Type 0} (k : Bool → Reader B) (p : Position)
      → (format_line s >>= k) p
      ≡ (opening next >>= (λ o. word next s (ascii "format") >>= (λ w. natural next s >>= (λ a. natural next s >>= (λ b. closing next >>= (λ c. k (zero_one s a b))))))) p
  unfolding format_line
  formatted k p = after_after (tag next s (ascii "format") p) _ k ∙ tagged (ascii "format") _ _ p (λ w q. versioned k q)

  theorised : {B : Type 0} (k : Bool → Reader B) (p : Position)
      → (theory_line s >>= k) p
      ≡ (opening next >>= (λ o. word next s (ascii "theory") >>= (λ w. string next >>= (λ n. natural next s >>= (λ a. natural next s >>= (λ b. closing next >>= (λ c. k (same_bytes (text s n) (ascii "mltt-core") && zero_one s a b)))))))) p
  unfolding theory_line
  theorised k p =
      after_after (tag next s (ascii "theory") p) _ k
      ∙ tagged (ascii "theory") _ _ p (λ w q. after_after (string next q) _ k
      ∙ behind (string next q) _ _ (λ n r. after_after (version s r) _ k ∙ versioned (λ v. k (same_bytes (text s n) (ascii "mltt-core") && v)) r))

  pub flat : (p : Position) → head s p ≡ text_head s p
  unfolding head text_head
  flat p =
      tagged (ascii "hott-core") _ _ p (λ w q. formatted _ q
      ∙ behind (opening next q) _ _ (λ o q₁. behind (word next s (ascii "format") q₁) _ _ (λ v q₂. behind (natural next s q₂) _ _ (λ a q₃. behind (natural next s q₃) _ _
      (λ b q₄. behind (closing next q₄) _ _ (λ c q₅. theorised (λ t. require (zero_one s a b && t) (nowhere Class.Version)) q₅))))))

  pub declarations_tag : (p : Position) → declarations_line s p ≡ tag next s (ascii "declarations") p
  unfolding declarations_line tag
  declarations_tag p = refl
