-- Declarations that are printed are read back, where there is room.
use mathlib.Core.Path.{◌≡◌, refl, sym, ap, ◌∙◌, subst}
use mathlib.Core.List.{List, [], ◌∷◌, ◌++◌, map, append_assoc}
use mathlib.Core.Option.{Option, none, some}
use Prim.Native.Nat.{ℕ, zero, suc, ◌+◌, ◌-◌, ◌≤◌}
use native.Mathlib.Omega.{arith}
use lib.ListN.{length, drop}
use Rattle.token.specs.declared.TokenKind.{TokenKind}
use Rattle.token.specs.declared.Token.{Token}
use Rattle.core_token.specs.CoreToken.{next_core_token}
use Rattle.terms.specs.Tree.{Forest, nil, Tree, tree, maybe, next, relabel}
use Rattle.terms.specs.Label.{Label, Declaration, named}
use Rattle.surface.specs.Text.{is_close}
use Rattle.surface.specs.Reader.{Position, done, Reader}
use Rattle.surface.specs.Reading.{several, declaration_kind, body, declared, declaration, ending, onwards, declarations}
use Rattle.surface.proofs.Steps.{after_elim, done_inj}
use Rattle.surface.proofs.Takes.{after_go, token_takes}
use Rattle.core_text.specs.TextReading.{text_edition, string}
use Rattle.printing.specs.Printing.{Spelled, print_terms, declaration_word, print_declarations}
use Rattle.core_module.specs.CoreText.{spelled_text}
use Rattle.core_module.proofs.Tokens.{space_stops, close_stops, wordlike_is, behind, behind_one, part_at}
use Rattle.core_module.proofs.Takes.{to, the_token, open_next, close_next, closes, takes_atom, text_is, takes_string}
use Rattle.core_module.proofs.Printable.{Within, parts_of, PrintableDeclaration, PrintableModule, WithinModule, spelled_total, spelled_grows}
use Rattle.core_module.proofs.Terms.{begin, close, whole, terms_go}

module _ (s : List ℕ) (limit frames : ℕ) where
  abbrev whole_term : Reader (Tree Label)
  whole_term = whole s limit frames

  abbrev name : Reader Token
  name = string (next_core_token s)

  -- The type and the body, from as many terms.
  record TypeBody (j : ℕ) (p q : Position) (f : Forest Label) : Type 0 where
    type : Tree Label
    other : Option (Tree Label)
    middle : Position
    reads_type : whole_term p ≡ done type middle
    reads_body : body text_edition s whole_term j middle ≡ done other q
    are : tree type (maybe other nil (λ b. tree b nil)) ≡ f

  one_of : (p q : Position) (f : Forest Label) → several (begin s) (close s) limit whole_term 1 p ≡ done f q → (t : Tree Label) × (whole_term p ≡ done t q) × (tree t nil ≡ f)
  unfolding several
  one_of p q f e =
      after_elim (whole_term p) _ f q e (λ t q₁ f₁ e₁.
      let i = done_inj e₁ in
      (t, f₁ ∙ ap (λ (y : Position). done t y) i.1, i.0))

  type_body : (j : ℕ) (p q : Position) (f : Forest Label) → several (begin s) (close s) limit whole_term (parts_of j) p ≡ done f q → TypeBody j p q f
  unfolding several body
  type_body zero p q f e = let w = one_of p q f e in record { type = w.0; other = none; middle = q; reads_type = w.1; reads_body = refl; are = w.2 }
  type_body (suc j) p q f e =
      after_elim (whole_term p) _ f q e (λ t q₁ f₁ e₁.
      after_elim (several (begin s) (close s) limit whole_term 1 q₁) _ f q e₁ (λ u q₂ f₂ e₂.
      let i = done_inj e₂ in
      let w = one_of q₁ q₂ u f₂ in
      record {
        type = t;
        other = some w.0;
        middle = q₁;
        reads_type = f₁;
        reads_body = after_go _ _ w.0 q _ (w.1 ∙ ap (λ (y : Position). done w.0 y) i.1) refl;
        are = ap (tree t) w.2 ∙ i.0;
      }))

  -- A declaration behind its parenthesis; l follows it.
  record DeclarationGoes (p : Position) (d : Spelled) (l : List ℕ) : Type 0 where
    position : Position
    given : Declaration
    reads : declaration text_edition s whole_term name is_close p ≡ done given position
    left : drop position.offset s ≡ l
    rows : position.rows ≡ next p.rows d.terms
    spelled : spelled_text s given ≡ d

  declaration_goes : (p : Position) (d : Spelled) (l : List ℕ) → PrintableDeclaration d → Within frames d.terms → next p.rows d.terms ≤ limit
      → drop p.offset s ≡ declaration_word d.kind ++ (32 ∷ 34 ∷ (d.name ++ (34 ∷ (print_terms d.terms ++ (41 ∷ l))))) → DeclarationGoes p d l
  unfolding declaration declared text_edition
  declaration_goes p d l h w k e =
      let n = h.kinded in
      let v = declaration_word d.kind in
      let x = print_terms d.terms ++ (41 ∷ l) in
      let b = p.offset + length v in
      let t = the_token TokenKind.Atom p.offset b in
      let e₁ = behind s p.offset v _ e in
      let a = b + 1 + 1 in
      let c = a + length d.name + 1 in
      let u = the_token TokenKind.String a (c - 1) in
      let e₂ = behind_one s (b + 1) 34 _ (behind_one s b 32 _ e₁) in
      let e₃ : drop c s ≡ x = behind_one s (a + length d.name) 34 x (behind s a d.name (34 ∷ x) e₂) in
      let g = terms_go s limit d.terms h.printable frames (to p c) (41 ∷ l) w k (close_stops l) e₃ in
      let o = g.position.offset in
      let q = to g.position (o + 1) in
      let y = type_body n.before (to p c) g.position g.forest (ap (λ (m : ℕ). several (begin s) (close s) limit whole_term m (to p c)) (sym n.parts) ∙ g.reads) in
      let i = part_at s a (c - 1 - a) d.name (34 ∷ x) e₂ (omega arith) in
      let z : relabel (named s) (tree y.type (maybe y.other nil (λ b. tree b nil))) ≡ d.terms = ap (relabel (named s)) y.are ∙ g.spelled in
      let r = sym n.is in
      record {
        position = q;
        given = record { kind = suc n.before; start = a; length = c - 1 - a; type = y.type; body = y.other };
        reads =
            after_go _ _ t (to p b) _ (takes_atom s p v _ e (wordlike_is v n.atom) (space_stops []))
            (ap (λ (m : ℕ). declared text_edition s whole_term name is_close t m (to p b)) (ap declaration_kind (text_is s p.offset v _ e) ∙ n.tag ∙ n.is)
            ∙ after_go _ _ u (to p c) _ (takes_string s (to p b) d.name x e₁ h.some_name h.direct)
            (after_go _ _ y.type y.middle _ y.reads_type
            (after_go _ _ y.other g.position _ y.reads_body
            (after_go _ _ (the_token TokenKind.RParen o (o + 1)) q _ (closes s g.position l g.left) refl))));
        left = behind_one s o 41 l g.left;
        rows = g.rows;
        spelled = λ j. record { kind = r j; name = i j; terms = z j };
      }

  -- Declarations up to the parenthesis behind them; l follows that.
  pub record DeclarationsGo (n : ℕ) (p : Position) (ds : List Spelled) (l : List ℕ) : Type 0 where
    pub position : Position
    pub given : List Declaration
    pub reads : declarations text_edition s whole_term name is_close n p ≡ done given position
    pub left : drop position.offset s ≡ l
    pub rows : position.rows ≡ spelled_total p.rows ds
    pub spelled : map (spelled_text s) given ≡ ds

  -- The print of the first of some declarations, with what follows.
  first_text : (v n t m l : List ℕ) → (v ++ (32 ∷ 34 ∷ (n ++ (34 ∷ (t ++ (41 ∷ m)))))) ++ l ≡ v ++ (32 ∷ 34 ∷ (n ++ (34 ∷ (t ++ (41 ∷ (m ++ l))))))
  first_text v n t m l =
      append_assoc v (32 ∷ 34 ∷ (n ++ (34 ∷ (t ++ (41 ∷ m))))) l
      ∙ ap (λ (x : List ℕ). v ++ (32 ∷ 34 ∷ x)) (append_assoc n (34 ∷ (t ++ (41 ∷ m))) l)
      ∙ ap (λ (x : List ℕ). v ++ (32 ∷ 34 ∷ (n ++ (34 ∷ x)))) (append_assoc t (41 ∷ m) l)

  end_goes : (n : ℕ) (p : Position) (l : List ℕ) → drop p.offset s ≡ 41 ∷ l → DeclarationsGo n p [] l
  unfolding declarations onwards ending text_edition
  end_goes n p l e = record { position = to p (p.offset + 1); given = []; reads = go n; left = behind_one s p.offset 41 l e; rows = refl; spelled = refl }
    where
      t : Token
      t = the_token TokenKind.RParen p.offset (p.offset + 1)

      go : (n : ℕ) → declarations text_edition s whole_term name is_close n p ≡ done [] (to p (p.offset + 1))
      go zero = after_go _ _ t (to p t.end) _ (token_takes (next_core_token s) p t (close_next s p.offset l e)) refl
      go (suc n) = after_go _ _ t (to p t.end) _ (token_takes (next_core_token s) p t (close_next s p.offset l e)) refl

  pub declarations_go : (ds : List Spelled) → PrintableModule ds → (n : ℕ) (p : Position) (l : List ℕ) → WithinModule frames ds → length ds ≤ n → spelled_total p.rows ds ≤ limit
      → drop p.offset s ≡ print_declarations ds ++ (41 ∷ l) → DeclarationsGo n p ds l
  unfolding declarations onwards ending text_edition print_declarations
  declarations_go [] h n p l w c k e = end_goes n p l e
  declarations_go (d ∷ ds) h zero p l w c k e = absurd (omega arith)
  declarations_go (d ∷ ds) h (suc n) p l w c k e =
      let e₁ = e ∙ ap {B = List ℕ} (λ x. 32 ∷ 40 ∷ x) (first_text (declaration_word d.kind) d.name (print_terms d.terms) (print_declarations ds) (41 ∷ l)) in
      let a = p.offset + 1 + 1 in
      let g = declaration_goes (to p a) d (print_declarations ds ++ (41 ∷ l)) h.0 w.0 (omega (arith, spelled_grows (next p.rows d.terms) ds))
      (behind_one s (p.offset + 1) 40 _ (behind_one s p.offset 32 _ e₁)) in
      let r = declarations_go ds h.1 n g.position l w.1 (omega arith) (subst (λ (m : ℕ). spelled_total m ds ≤ limit) (sym g.rows) k) g.left in
      record {
        position = r.position;
        given = g.given ∷ r.given;
        reads =
            after_go _ _ (the_token TokenKind.LParen (p.offset + 1) a) (to p a) _ (token_takes (next_core_token s) p (the_token TokenKind.LParen (p.offset + 1) a) (open_next s p.offset _ e₁))
            (after_go _ _ g.given g.position _ g.reads (after_go _ _ r.given r.position _ r.reads refl));
        left = r.left;
        rows = r.rows ∙ ap (λ (m : ℕ). spelled_total m ds) g.rows;
        spelled = let u = g.spelled in let v = r.spelled in λ j. u j ∷ v j;
      }
