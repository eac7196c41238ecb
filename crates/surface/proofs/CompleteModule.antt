-- A module that the grammar derives is read, where there is room; so the grammar derives one module at most.
use mathlib.Core.Path.{◌≡◌, refl, sym, ap, ◌∙◌, subst}
use mathlib.Core.List.{List, [], ◌∷◌}
use mathlib.Core.Option.{Option, some}
use Prim.Native.Nat.{ℕ, ◌≤◌, max}
use native.Mathlib.Omega.{arith}
use lib.ListN.{length}
use Rattle.token.specs.Token.{next_token, Lexed}
use Rattle.token.specs.declared.Token.{Token}
use Rattle.words.specs.Words.{ascii, all, numeral}
use Rattle.terms.specs.Forms.{Edition}
use Rattle.terms.specs.Label.{Declaration}
use Rattle.terms.proofs.Widths.{total}
use Rattle.surface.specs.Text.{text}
use Rattle.surface.specs.Grammar.{Tokens, the_next, Word, Numeral, Version, version_0_1, version_0_2, Head, head, Derives}
use Rattle.surface.specs.Reader.{Position, start, done}
use Rattle.surface.specs.Reading.{edition_of, supported, surface_line, module_line, head as head-reader, read_module}
use Rattle.surface.proofs.Frames.{deepest}
use Rattle.surface.proofs.Steps.{done_inj}
use Rattle.surface.proofs.Editions.{version_edition, version_meets, head_meets}
use Rattle.surface.proofs.Takes.{after_go, to, opening_takes, closing_takes, word_takes, natural_takes, name_takes}
use Rattle.surface.proofs.Runs.{Run, run_end, run_more, first_of, others_of, end_of}
use Rattle.surface.proofs.CompleteDeclarations.{declarations_go}

-- The head.
zero_numeral : (s : List ℕ) (t : Token) → Word s (ascii "0") t → Numeral s t
unfolding numeral all
zero_numeral s t w = record { atom = w.atom; is = ap numeral w.is }

one_numeral : (s : List ℕ) (t : Token) → Word s (ascii "1") t → Numeral s t
unfolding numeral all
one_numeral s t w = record { atom = w.atom; is = ap numeral w.is }

two_numeral : (s : List ℕ) (t : Token) → Word s (ascii "2") t → Numeral s t
unfolding numeral all
two_numeral s t w = record { atom = w.atom; is = ap numeral w.is }

pub version_numerals : {s : List ℕ} {a b : Token} {E : Edition} → Version s a b E → Numeral s a × Numeral s b
version_numerals {s} {a} {b} (version_0_1 v w) = (zero_numeral s a v, one_numeral s b w)
version_numerals {s} {a} {b} (version_0_2 v w) = (zero_numeral s a v, two_numeral s b w)

supported_goes : (o : Option Edition) (E : Edition) (p : Position) → o ≡ some E → supported o p ≡ done E p
unfolding supported
supported_goes o E p e = ap (λ (x : Option Edition). supported x p) e

-- The tokens of a head are read as that head, whatever follows them.
pub head_reads : {s : List ℕ} {ts : List Token} {E : Edition} {x : Token} → Head s ts E x [] → (p : Position) (e : ℕ) → Run (next_token s) p.offset ts e
    → head-reader s p ≡ done (record { edition = E; name = x }) (record { offset = e; rows = p.rows })
unfolding head-reader surface_line module_line
head_reads {s} (head {o = o} {w = w} {v₀ = a} {v₁ = b} {c = c} {p = u} {m = m} {x = x} {d = d} {E = E} o₁ o₂ v o₅ o₆ o₇ o₈ o₉) p e k₁ =
    let k₂ = others_of k₁ in
    let k₃ = others_of k₂ in
    let k₄ = others_of k₃ in
    let k₅ = others_of k₄ in
    let k₆ = others_of k₅ in
    let k₇ = others_of k₆ in
    let k₈ = others_of k₇ in
    let k₉ = others_of k₈ in
    let n = version_numerals v in
    after_go _ _ E (to p c) _
    (after_go _ _ o (to p o) _ (opening_takes (next_token s) p o (first_of k₁) o₁)
    (after_go _ _ w (to p w) _ (word_takes (next_token s) s (ascii "surface") (to p o) w (first_of k₂) o₂)
    (after_go _ _ a (to p a) _ (natural_takes (next_token s) s (to p w) a (first_of k₃) n.0)
    (after_go _ _ b (to p b) _ (natural_takes (next_token s) s (to p a) b (first_of k₄) n.1)
    (after_go _ _ c (to p c) _ (closing_takes (next_token s) (to p b) c (first_of k₅) o₅)
    (supported_goes (edition_of (text s a) (text s b)) E (to p c) (version_edition v)))))))
    (after_go _ _ x (to p d) _
    (after_go _ _ u (to p u) _ (opening_takes (next_token s) (to p c) u (first_of k₆) o₆)
    (after_go _ _ m (to p m) _ (word_takes (next_token s) s (ascii "module") (to p u) m (first_of k₇) o₇)
    (after_go _ _ x (to p x) _ (name_takes E s (to p m) x (ap (λ (T : List ℕ → ℕ → Lexed). T s m.end) (version_meets v).tokens ∙ first_of k₈) o₈)
    (after_go _ _ d (to p d) _ (closing_takes (next_token s) (to p x) d (first_of k₉) o₉) refl))))
    (ap (λ (n : ℕ). done (record { edition = E; name = x }) (record { offset = n; rows = p.rows })) (end_of (others_of k₉))))

-- A head before other tokens: its own, and what it leaves.
pub record HeadGoes (s : List ℕ) (at : ℕ) (E : Edition) (x : Token) (us : List Token) : Type 0 where
  pub nine : List Token
  pub end : ℕ
  pub run : Run (next_token s) at nine end
  pub derived : Head s nine E x []
  pub left : Tokens (next_token s) end us

pub head_goes : {s : List ℕ} {ts us : List Token} {E : Edition} {x : Token} → Head s ts E x us → (at : ℕ) → Tokens (next_token s) at ts → HeadGoes s at E x us
head_goes (head {o = o} {w = w} {v₀ = a} {v₁ = b} {c = c} {p = u} {m = m} {x = x} {d = d} o₁ o₂ v o₅ o₆ o₇ o₈ o₉) at
    (the_next e₁ g₁ (the_next e₂ g₂ (the_next e₃ g₃ (the_next e₄ g₄ (the_next e₅ g₅ (the_next e₆ g₆ (the_next e₇ g₇ (the_next e₈ g₈ (the_next e₉ g₉ k))))))))) = record {
      nine = o ∷ w ∷ a ∷ b ∷ c ∷ u ∷ m ∷ x ∷ d ∷ [];
      end = d.end;
      run =
          run_more e₁ g₁ (run_more e₂ g₂ (run_more e₃ g₃ (run_more e₄ g₄ (run_more e₅ g₅ (run_more e₆ g₆ (run_more e₇ g₇ (run_more e₈ g₈ (run_more e₉ g₉ run_end))))))));
      derived = head o₁ o₂ v o₅ o₆ o₇ o₈ o₉;
      left = k;
    }

-- Enough room for the rows and the declarations, and no term with more open frames than allowed: what the grammar derives is read.
pub record ModuleGoes (s : List ℕ) (limit room frames : ℕ) (ds : List Declaration) : Type 0 where
  pub position : Position
  pub reads : read_module s limit room frames start ≡ done ds position
  pub rows : position.rows ≡ total 0 ds

pub complete : (s : List ℕ) (limit room frames : ℕ) (ds : List Declaration) → Derives s ds → length ds ≤ room → deepest ds ≤ frames → total 0 ds ≤ limit → ModuleGoes s limit room frames ds
unfolding read_module
complete s limit room frames ds d i f h =
    let a = head_goes d.head 0 d.lexed in
    let p : Position = record { offset = a.end; rows = 0 } in
    let g = declarations_go d.edition s (head_meets d.head).counted limit frames d.declarations room p (subst (λ (T : List ℕ → ℕ → Lexed). Tokens (T s) a.end d.rest) (sym (head_meets d.head).tokens) a.left) i f h in
    record {
      position = g.position;
      reads = after_go _ _ (record { edition = d.edition; name = d.name }) p _ (head_reads a.derived start a.end a.run) g.reads;
      rows = g.rows;
    }

-- The grammar derives one module at most.
pub unique : (s : List ℕ) (ds es : List Declaration) → Derives s ds → Derives s es → ds ≡ es
unique s ds es d e =
    let n = max (length ds) (length es) in
    let f = max (deepest ds) (deepest es) in
    let r = max (total 0 ds) (total 0 es) in
    let a = complete s r n f ds d (omega arith) (omega arith) (omega arith) in
    let b = complete s r n f es e (omega arith) (omega arith) (omega arith) in
    (done_inj (sym a.reads ∙ b.reads)).0
