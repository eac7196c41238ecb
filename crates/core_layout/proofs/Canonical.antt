-- A core text equals its own print exactly if it has a print's layout.
use mathlib.Core.Path.{◌≡◌, ap, ◌∙◌}
use mathlib.Core.List.{List, map}
use mathlib.Core.Bool.{true}
use Prim.Native.Nat.{ℕ, suc}
use native.Mathlib.Omega.{arith}
use lib.ListN.{length}
use Rattle.words.specs.Words.{same_bytes}
use Rattle.terms.specs.Label.{Declaration}
use Rattle.surface.specs.Reader.{Position, start, done}
use Rattle.core_text.specs.TextReading.{read_text}
use Rattle.core_text.specs.TextGrammar.{DerivesText}
use Rattle.core_text.proofs.Statements.{text_sound}
use Rattle.printing.specs.Printing.{print_module}
use Rattle.core_module.specs.CoreText.{spelled_text}
use Rattle.core_layout.specs.inner.Layout.{canonical_layout}
use Rattle.core_layout.proofs.Joined.{laid}
use Rattle.core_layout.proofs.Printed.{printed}

pub derived_canonical : (t : List ℕ) (ds : List Declaration) → DerivesText t ds → same_bytes t (print_module (map (spelled_text t) ds)) ≡ canonical_layout t
unfolding canonical_layout
derived_canonical t ds d = ap (same_bytes t) (printed t ds d) ∙ laid t d.lexed (suc (length t)) true (omega arith) (omega arith)

-- The same of a text that is read.
pub read_canonical_layout : (t : List ℕ) (limit room frames : ℕ) (ds : List Declaration) (q : Position) → read_text t limit room frames start ≡ done ds q
    → same_bytes t (print_module (map (spelled_text t) ds)) ≡ canonical_layout t
read_canonical_layout t limit room frames ds q e = derived_canonical t ds (text_sound t limit room frames ds q e)
