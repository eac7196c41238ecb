-- Document 02, Req 01: the eighth words of the rows are where the terms begin.
use Rattle.std.specs.Prelude.{Ok}
use Rattle.surface.specs.Answer.{loaded}
use mathlib.Core.Path.{◌≡◌, refl, sym, ap, ◌∙◌, subst}
use mathlib.Core.List.{List, [], ◌∷◌, map}
use mathlib.Core.Bool.{true}
use Prim.Native.Nat.{ℕ, zero, suc, ◌-◌}
use native.Mathlib.Omega.{arith}
use lib.ListN.{length, take, drop}
use Rattle.token.specs.Token.{next_token}
use Rattle.token.specs.declared.Token.{Token}
use Rattle.token.proofs.Parentheses.{open_here}
use Rattle.words.proofs.Names.{same_eq}
use Rattle.terms.specs.Forms.{Shape, alone, with_name, with_numeral, binding, plain, Form, Edition}
use Rattle.terms.specs.Tree.{Forest}
use Rattle.terms.specs.Label.{part, Label, Declaration}
use Rattle.terms.specs.Offsets.{eighth_word, begins_with, first_bytes, TermsBegin, ModuleBegins}
use Rattle.terms.proofs.FormTable.{every, of_word, word_is}
use Rattle.terms.proofs.Offsets.{surface_offsets, core_offsets}
use Rattle.surface.specs.Text.{text}
use Rattle.surface.specs.Grammar.{Tokens, the_next, Opens, Tag, Terms, no_term, leaf_term, ref_term, universe_term, binding_term, plain_term, Declarations, no_declaration, postulate, transparent, opaque, Head, head, Derives}
use Rattle.surface.specs.Reader.{start, Result, done, refused}
use Rattle.surface.specs.Loading.{Lengths, lengths, loading, Outcome, outcome, load}
use Rattle.surface.specs.SameCore.{Accepts}
use Rattle.surface.specs.Statements.{RowsBegin, RowOffsets}
use Rattle.surface.proofs.Editions.{told, version_meets}
use Rattle.surface.proofs.Acceptance.{is_read, is_loaded}
use Rattle.surface.proofs.Demand.{stands}

-- What each form of an edition begins with is told by its kind.
abbrev Told : Edition → Type 0
Told E = every told E.forms ≡ true

-- As many bytes as there are.
take_own : (n : ℕ) (l w : List ℕ) → take n l ≡ w → take (length w) l ≡ w
take_own n l w e = ap (λ (x : List ℕ). take (length x) l) (sym e) ∙ go n l ∙ e
  where
    go : (n : ℕ) (l : List ℕ) → take (length (take n l)) l ≡ take n l
    go zero l = refl
    go (suc n) [] = refl
    go (suc n) (x ∷ l) = ap (λ (r : List ℕ). x ∷ r) (go n l)

module _ (s : List ℕ) where
  -- Tokens of the source.
  abbrev Lexed : List Token → Type 0
  Lexed [] = Unit {0}
  Lexed (t ∷ ts) = ((at : ℕ) × (next_token s at ≡ Ok t)) × Lexed ts

  all_lexed : (at : ℕ) (ts : List Token) → Tokens (next_token s) at ts → Lexed ts
  all_lexed at [] k = tt
  all_lexed at (t ∷ ts) (the_next e g k) = ((at, e), all_lexed t.end ts k)

  abbrev At : ℕ → ℕ → Type 0
  At k offset = part s offset (length (first_bytes k)) ≡ first_bytes k

  module _ (E : Edition) (h : Told E) where
    -- A term of the form f begins with w at an offset.
    begins_at : (t : Token) (f : Form) (c : Shape) (offset : ℕ) (w : List ℕ) → Tag E s f c t → begins_with c f.word ≡ w → part s offset (length w) ≡ w → At f.kind offset
    begins_at t f c offset w g e k =
        let q : first_bytes f.kind ≡ w =
        same_eq _ _ (of_word told (text s t) E.forms f h g.is) ∙ ap (λ (x : Shape). begins_with x f.word) g.shape ∙ e in
        ap (λ (x : List ℕ). part s offset (length x)) q ∙ k ∙ sym q

    leaf_begins : (t : Token) (f : Form) → Tag E s f alone t → At f.kind t.start
    leaf_begins t f g = begins_at t f alone t.start f.word g refl (take_own (t.end - t.start) (drop t.start s) f.word (word_is (text s t) E.forms f g.is))

    form_begins : (o t : Token) (f : Form) (c : Shape) → ((at : ℕ) × (next_token s at ≡ Ok o)) → Opens o → Tag E s f c t → begins_with c f.word ≡ 40 ∷ [] → At f.kind o.start
    form_begins o t f c k a g e = begins_at t f c o.start (40 ∷ []) g e (open_here s k.0 o k.1 a)

    terms_begin : {n : ℕ} {ts us : List Token} {f : Forest Label} → Terms E s n ts f us → Lexed ts → TermsBegin s f × Lexed us
    terms_begin no_term k = (tt, k)
    terms_begin (leaf_term {t} {f = f} g r) k =
        let w = terms_begin r k.1 in
        ((leaf_begins t f g, tt, w.0), w.1)
    terms_begin (ref_term {o} {t} {f = f} a g x c r) k =
        let w = terms_begin r k.1.1.1.1 in
        ((form_begins o t f with_name k.0 a g refl, tt, w.0), w.1)
    terms_begin (universe_term {o} {t} {f = f} a g x c r) k =
        let w = terms_begin r k.1.1.1.1 in
        ((form_begins o t f with_numeral k.0 a g refl, tt, w.0), w.1)
    terms_begin (binding_term {o} {t} {f = f} a g x b c r) k =
        let v = terms_begin b k.1.1.1 in
        let w = terms_begin r v.1.1 in
        ((form_begins o t f binding k.0 a g refl, v.0, w.0), w.1)
    terms_begin (plain_term {o} {t} {f = f} a g b c r) k =
        let v = terms_begin b k.1.1 in
        let w = terms_begin r v.1.1 in
        ((form_begins o t f plain k.0 a g refl, v.0, w.0), w.1)

    declarations_begin : {ts : List Token} {ds : List Declaration} → Declarations E s ts ds → Lexed ts → ModuleBegins s ds
    declarations_begin no_declaration k = tt
    declarations_begin (postulate o t x b c r) k = let v = terms_begin b k.1.1.1 in (v.0, declarations_begin r v.1.1)
    declarations_begin (transparent o t x b c r) k = let v = terms_begin b k.1.1.1 in (v.0, declarations_begin r v.1.1)
    declarations_begin (opaque o t x b c r) k = let v = terms_begin b k.1.1.1 in (v.0, declarations_begin r v.1.1)

  rest_begins : {ts us : List Token} {E : Edition} {x : Token} {ds : List Declaration} → Head s ts E x us → Lexed ts → Declarations E s us ds → ModuleBegins s ds
  rest_begins {E = E} (head o w v c p m n d) k r = declarations_begin E (version_meets v).told r k.1.1.1.1.1.1.1.1.1

  module_begins : (ds : List Declaration) → Derives s ds → ModuleBegins s ds
  module_begins ds d = rest_begins d.head (all_lexed 0 d.tokens d.lexed) d.declarations

  by_definition : (z : Lengths) → Accepts (load s z) → RowsBegin s (load s z)
  unfolding load
  by_definition z a = go (loading s z start) refl a.2
    where
      go : (o : Result (List Declaration)) → loading s z start ≡ o → (outcome s z o).answer ≡ loaded a.0 a.1 → RowsBegin s (outcome s z o)
      go (refused r) e f = absurd (let z : ◌≡◌ {A = ℕ} 0 1 = cc in omega arith)
      go (done ds q) e f =
          let d = (is_read s z ds q (is_loaded s z ds q e).read).readable.derives in
          let t = stands s z ds q e in
          record {
            declarations = ds;
            derives = d;
            surface = ap (map eighth_word) t.surface ∙ surface_offsets 0 ds;
            core = ap (map eighth_word) t.core ∙ core_offsets s [] 0 ds;
            begins = module_begins ds d;
          }

pub row_offsets : RowOffsets
row_offsets s before a after e p =
    subst (λ (o : Outcome). Accepts o → RowsBegin s o) (sym e) (by_definition s (lengths before)) p
