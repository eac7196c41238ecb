-- A core text that the grammar derives is read, where there is room; so the grammar derives one list of declarations at most.
use Rattle.token.specs.declared.Class.{Class}
use mathlib.Core.Path.{◌≡◌, refl, sym, ap, ◌∙◌, subst}
use mathlib.Core.List.{List, []}
use mathlib.Core.Bool.{Bool, true, and-eq-true_iff}
use Prim.Native.Nat.{ℕ, ◌≤◌, max}
use native.Mathlib.Omega.{arith}
use lib.ListN.{length}
use Rattle.token.specs.declared.Token.{Token}
use Rattle.core_token.specs.CoreToken.{next_core_token}
use Rattle.words.specs.Words.{ascii, same_bytes}
use Rattle.words.proofs.Names.{eq_same}
use Rattle.terms.specs.Label.{Declaration}
use Rattle.terms.proofs.Widths.{total}
use Rattle.surface.specs.Text.{text}
use Rattle.surface.specs.Grammar.{Tokens, the_end, Word, version_0_1}
use Rattle.surface.specs.Reader.{Position, start, done, require, nowhere}
use Rattle.surface.specs.Statements.{deepest}
use Rattle.surface.proofs.Steps.{done_inj}
use Rattle.surface.proofs.Takes.{after_go, to, first_token, other_tokens, opening_takes, closing_takes, word_takes, natural_takes}
use Rattle.surface.proofs.CompleteModule.{version_numerals}
use Rattle.core_text.specs.TextReading.{text_edition, end_token, zero_one, text_head, declarations_line, read_text}
use Rattle.core_text.specs.TextGrammar.{between, TextHead, head, DerivesText}
use Rattle.core_text.proofs.Strings.{string_takes, end_takes}
use Rattle.core_text.proofs.CompleteDeclarations.{declarations_go}

module _ (t : List ℕ) where
  zero_one_goes : (a b : Token) → Word t (ascii "0") a → Word t (ascii "1") b → zero_one t a b ≡ true
  zero_one_goes a b v w = (and-eq-true_iff (same_bytes (text t a) (ascii "0")) (same_bytes (text t b) (ascii "1"))).1 (eq_same _ _ v.is, eq_same _ _ w.is)

  -- The head is read, and what follows it is left.
  pub record HeadGoes (p : Position) (us : List Token) : Type 0 where
    pub middle : Position
    pub position : Position
    pub word : Token
    pub reads : text_head t p ≡ done tt middle
    pub goes_on : declarations_line t middle ≡ done word position
    pub left : Tokens (next_core_token t) position.offset us
    pub rows : position.rows ≡ p.rows

  pub head_goes : {ts us : List Token} → TextHead t ts us → (p : Position) → Tokens (next_core_token t) p.offset ts → HeadGoes p us
  unfolding text_head declarations_line
  head_goes (head {o = o} {w = w} {p = o₂} {v = v} {a = a} {b = b} {c = c} {q = o₃} {u = u} {n = n} {d = d} {e = e} {f = f} {r = o₄} {k = y} i₁ i₂ i₃ i₄ i₅ i₆ i₇ i₈ i₉ j₁ j₂ j₃ j₄ j₅ j₆) p k₁ =
      let N = next_core_token t in
      let k₂ = other_tokens k₁ in
      let k₃ = other_tokens k₂ in
      let k₄ = other_tokens k₃ in
      let k₅ = other_tokens k₄ in
      let k₆ = other_tokens k₅ in
      let k₇ = other_tokens k₆ in
      let k₈ = other_tokens k₇ in
      let k₉ = other_tokens k₈ in
      let l₁ = other_tokens k₉ in
      let l₂ = other_tokens l₁ in
      let l₃ = other_tokens l₂ in
      let l₄ = other_tokens l₃ in
      let l₅ = other_tokens l₄ in
      let l₆ = other_tokens l₅ in
      let m = version_numerals (version_0_1 i₅ i₆) in
      let z = version_numerals (version_0_1 j₂ j₃) in
      record {
        middle = to p f;
        position = to p y;
        word = y;
        reads =
            after_go _ _ o (to p o) _ (opening_takes N p o (first_token k₁) i₁)
            (after_go _ _ w (to p w) _ (word_takes N t (ascii "hott-core") (to p o) w (first_token k₂) i₂)
            (after_go _ _ o₂ (to p o₂) _ (opening_takes N (to p w) o₂ (first_token k₃) i₃)
            (after_go _ _ v (to p v) _ (word_takes N t (ascii "format") (to p o₂) v (first_token k₄) i₄)
            (after_go _ _ a (to p a) _ (natural_takes N t (to p v) a (first_token k₅) m.0)
            (after_go _ _ b (to p b) _ (natural_takes N t (to p a) b (first_token k₆) m.1)
            (after_go _ _ c (to p c) _ (closing_takes N (to p b) c (first_token k₇) i₇)
            (after_go _ _ o₃ (to p o₃) _ (opening_takes N (to p c) o₃ (first_token k₈) i₈)
            (after_go _ _ u (to p u) _ (word_takes N t (ascii "theory") (to p o₃) u (first_token k₉) i₉)
            (after_go _ _ (between n) (to p n) _ (string_takes N (to p u) n (first_token l₁) j₁.quotes)
            (after_go _ _ d (to p d) _ (natural_takes N t (to p n) d (first_token l₂) z.0)
            (after_go _ _ e (to p e) _ (natural_takes N t (to p d) e (first_token l₃) z.1)
            (after_go _ _ f (to p f) _ (closing_takes N (to p e) f (first_token l₄) j₄)
            (ap (λ (x : Bool). require x (nowhere Class.Version) (to p f)) ((and-eq-true_iff (zero_one t a b) _).1 (zero_one_goes a b i₅ i₆, (and-eq-true_iff (same_bytes (text t (between n)) (ascii "mltt-core")) _).1 (eq_same _ _ j₁.is, zero_one_goes d e j₂ j₃))))))))))))))));
        goes_on =
            after_go _ _ o₄ (to p o₄) _ (opening_takes N (to p f) o₄ (first_token l₅) j₅)
            (word_takes N t (ascii "declarations") (to p o₄) y (first_token l₆) j₆);
        left = other_tokens l₆;
        rows = refl;
      }

  end_goes : (p : Position) → Tokens (next_core_token t) p.offset [] → (z : Token) × (end_token (next_core_token t) p ≡ done z (to p z))
  end_goes p (the_end {t = z} e k) = (z, end_takes (next_core_token t) p z e k)

-- Enough room for the rows and the declarations, and no term with more open frames than allowed: what the grammar derives is read.
pub record TextGoes (t : List ℕ) (limit room frames : ℕ) (ds : List Declaration) : Type 0 where
  pub position : Position
  pub reads : read_text t limit room frames start ≡ done ds position
  pub rows : position.rows ≡ total 0 ds

pub complete : (t : List ℕ) (limit room frames : ℕ) (ds : List Declaration) → DerivesText t ds → length ds ≤ room → deepest ds ≤ frames → total 0 ds ≤ limit → TextGoes t limit room frames ds
unfolding read_text text_edition
complete t limit room frames ds d i f h =
    let N = next_core_token t in
    let a = head_goes t d.head start d.lexed in
    let g = declarations_go t limit frames d.declarations d.closes room a.position a.left i f (subst (λ (m : ℕ). total m ds ≤ limit) (sym a.rows) h) in
    let c = d.last in
    let z = end_goes t (to g.position c) (other_tokens g.left) in
    record {
      position = to (to g.position c) z.0;
      reads =
          after_go _ _ tt a.middle _ a.reads
          (after_go _ _ a.word a.position _ a.goes_on
          (after_go _ _ ds g.position _ g.reads
          (after_go _ _ c (to g.position c) _ (closing_takes N g.position c (first_token g.left) d.ends)
          (after_go _ _ z.0 (to (to g.position c) z.0) _ z.1 refl))));
      rows = g.rows ∙ ap (λ (m : ℕ). total m ds) a.rows;
    }

-- The grammar derives one list of declarations at most.
pub unique : (t : List ℕ) (ds es : List Declaration) → DerivesText t ds → DerivesText t es → ds ≡ es
unique t ds es d e =
    let n = max (length ds) (length es) in
    let f = max (deepest ds) (deepest es) in
    let r = max (total 0 ds) (total 0 es) in
    let a = complete t r n f ds d (omega arith) (omega arith) (omega arith) in
    let b = complete t r n f es e (omega arith) (omega arith) (omega arith) in
    (done_inj (sym a.reads ∙ b.reads)).0
