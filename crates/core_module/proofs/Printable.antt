-- Terms and declarations whose print can be read back.
use mathlib.Core.Path.{◌≡◌}
use mathlib.Core.List.{List, [], ◌∷◌}
use mathlib.Core.Option.{some}
use mathlib.Core.Bool.{true}
use Prim.Native.Nat.{ℕ, zero, suc, ◌≤◌, ◌<◌}
use native.Mathlib.Omega.{arith}
use lib.ListN.{length}
use Rattle.words.specs.Words.{numeral}
use Rattle.terms.specs.Forms.{Shape, alone, with_name, with_numeral, binding, plain, Form, form_of_kind}
use Rattle.terms.specs.TextForms.{text_forms}
use Rattle.terms.specs.Tree.{Forest, nil, node, next, count}
use Rattle.terms.specs.Label.{Named}
use Rattle.terms.proofs.Cells.{next_cells}
use Rattle.surface.specs.Reading.{declaration_kind}
use Rattle.printing.specs.Printing.{Spelled, declaration_word}
use Rattle.core_module.proofs.Tokens.{wordlike, Directs, Plain}

-- What a term of a shape has: no name and no arguments, a numeral, or as many arguments as its form wants, which are n.
abbrev pub Fit : Shape → ℕ → Named → Forest Named → Type 0
Fit alone n m a = (m.name ≡ []) × (a ≡ nil)
Fit with_name n m a = ⊥
Fit with_numeral n m a = (numeral m.name ≡ true) × (a ≡ nil)
Fit binding n m a = ⊥
Fit plain n m a = (m.name ≡ []) × (count a ≡ n) × ¬ (a ≡ nil)

abbrev pub Printable : Forest Named → Type 0
Printable nil = Unit {0}
Printable (node m a r) = ((g : Form) × (form_of_kind m.kind text_forms ≡ some g) × Fit g.shape g.arity m a) × Printable a × Printable r

-- No more than l frames open at once, of trees with any labels.
abbrev pub Within : {A : Type 0} → ℕ → Forest A → Type 0
Within l nil = Unit {0}
Within zero (node m a r) = (a ≡ nil) × Within zero r
Within (suc l) (node m a r) = Within l a × Within (suc l) r

pub within_rest : {A : Type 0} (l : ℕ) (m : A) (a r : Forest A) → Within l (node m a r) → Within l r
within_rest zero m a r w = w.1
within_rest (suc l) m a r w = w.1

-- How many terms a declaration of kind 1 + k has.
abbrev pub parts_of : ℕ → ℕ
parts_of zero = 1
parts_of (suc j) = 2

-- A kind with its word and its number of terms.
pub record Kinded (k n : ℕ) : Type 0 where
  pub before : ℕ
  pub is : k ≡ suc before
  pub tag : declaration_kind (declaration_word k) ≡ k
  pub atom : wordlike (declaration_word k) ≡ true
  pub parts : n ≡ parts_of before

pub record PrintableDeclaration (d : Spelled) : Type 0 where
  pub kinded : Kinded d.kind (count d.terms)
  pub some_name : 0 < length d.name
  pub direct : Directs d.name
  pub plain : Plain d.name
  pub printable : Printable d.terms

abbrev pub PrintableModule : List Spelled → Type 0
PrintableModule [] = Unit {0}
PrintableModule (d ∷ l) = PrintableDeclaration d × PrintableModule l

abbrev pub WithinModule : ℕ → List Spelled → Type 0
WithinModule i [] = Unit {0}
WithinModule i (d ∷ l) = Within i d.terms × WithinModule i l

-- The number of the row behind those of some declarations, whose first row is n.
abbrev pub spelled_total : ℕ → List Spelled → ℕ
spelled_total n [] = n
spelled_total n (d ∷ l) = spelled_total (next n d.terms) l

pub spelled_grows : (n : ℕ) (l : List Spelled) → n ≤ spelled_total n l
spelled_grows n [] = omega arith
spelled_grows n (d ∷ l) = omega (arith, spelled_grows (next n d.terms) l, next_cells n d.terms)
