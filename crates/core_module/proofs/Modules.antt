-- A module that is printed is read back, where there is room.
use mathlib.Core.Path.{◌≡◌, refl}
use mathlib.Core.List.{List, [], ◌∷◌, ◌++◌, map}
use Prim.Native.Nat.{ℕ, ◌+◌, ◌≤◌}
use lib.ListN.{length}
use Rattle.token.specs.declared.TokenKind.{TokenKind}
use Rattle.core_token.specs.CoreToken.{core_class, string_class, core_atom_from, string_from, core_token_from, next_core_token}
use Rattle.words.specs.Words.{same_bytes, all, numeral}
use Rattle.terms.specs.Label.{Declaration}
use Rattle.surface.specs.Reader.{Position, start, done}
use Rattle.surface.specs.Reading.{token, opening, closing, atom, word, natural}
use Rattle.surface.proofs.Takes.{after_go}
use Rattle.core_text.specs.TextReading.{string, text_head as read_head, declarations_line, read_text}
use Rattle.printing.specs.Printing.{Spelled, print_declarations, text_head, print_module}
use Rattle.core_module.specs.CoreText.{spelled_text}
use Rattle.core_module.proofs.Tokens.{behind_one}
use Rattle.core_module.proofs.Takes.{to, the_token, closes, takes_end}
use Rattle.core_module.proofs.Printable.{PrintableModule, WithinModule, spelled_total}
use Rattle.core_module.proofs.Declarations.{declarations_go}

abbrev at : ℕ → Position
at n = record { offset = n; rows = 0 }

-- The head, whatever follows it.
head_goes : (r : List ℕ) → read_head (text_head ++ r) start ≡ done tt (at 48)
unfolding same_bytes all numeral core_class string_class core_atom_from string_from core_token_from next_core_token token opening closing atom word natural string read_head
head_goes r = refl

line_goes : (l : List ℕ) → declarations_line (text_head ++ (32 ∷ l)) (at 48) ≡ done (the_token TokenKind.Atom 50 62) (at 62)
unfolding same_bytes all core_class core_atom_from core_token_from next_core_token token opening atom word declarations_line
line_goes l = refl

line_goes_closed : (l : List ℕ) → declarations_line (text_head ++ (41 ∷ l)) (at 48) ≡ done (the_token TokenKind.Atom 50 62) (at 62)
unfolding same_bytes all core_class core_atom_from core_token_from next_core_token token opening atom word declarations_line
line_goes_closed l = refl

-- The line before declarations, of which there may be none.
opened : (ds : List Spelled) (r : List ℕ) → declarations_line (text_head ++ (print_declarations ds ++ (41 ∷ r))) (at 48) ≡ done (the_token TokenKind.Atom 50 62) (at 62)
unfolding print_declarations
opened [] r = line_goes_closed r
opened (d ∷ ds) r = line_goes _

-- The printed text t is read, and what is read is spelled ds.
pub record ModuleGoes (t : List ℕ) (rows room frames : ℕ) (ds : List Spelled) : Type 0 where
  pub position : Position
  pub given : List Declaration
  pub reads : read_text t rows room frames start ≡ done given position
  pub counted : position.rows ≡ spelled_total 0 ds
  pub spelled : map (spelled_text t) given ≡ ds

pub module_goes : (ds : List Spelled) → PrintableModule ds → (rows room frames : ℕ) → WithinModule frames ds → length ds ≤ room → spelled_total 0 ds ≤ rows → ModuleGoes (print_module ds) rows room frames ds
unfolding read_text print_module
module_goes ds h rows room frames w c k =
    let r = print_declarations ds ++ (41 ∷ 41 ∷ 10 ∷ []) in
    let t = text_head ++ r in
    let g = declarations_go t rows frames ds h room (at 62) (41 ∷ 10 ∷ []) w c k refl in
    let o = g.position.offset in
    let q = to g.position (o + 1) in
    let e = behind_one t o 41 (10 ∷ []) g.left in
    record {
      position = to q (o + 1 + 1);
      given = g.given;
      reads =
          after_go _ _ tt (at 48) _ (head_goes r)
          (after_go _ _ (the_token TokenKind.Atom 50 62) (at 62) _ (opened ds (41 ∷ 10 ∷ []))
          (after_go _ _ g.given g.position _ g.reads
          (after_go _ _ (the_token TokenKind.RParen o (o + 1)) q _ (closes t g.position (10 ∷ []) g.left)
          (after_go _ _ (the_token TokenKind.Eof (o + 1 + 1) (o + 1 + 1)) (to q (o + 1 + 1)) _ (takes_end t q e) refl))));
      counted = g.rows;
      spelled = g.spelled;
    }
