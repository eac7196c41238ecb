-- Words of a row or a record that stand behind a table's end are 0.
use mathlib.Core.Path.{◌≡◌, sym, ◌∙◌}
use mathlib.Core.List.{List}
use Prim.Native.Nat.{ℕ, ◌+◌, ◌≤◌}
use native.Mathlib.Omega.{arith}
use lib.ListN.{length, get_or, get_or-eq_default}
use Rattle.printer.specs.declared.Row.{Row}
use Rattle.printer.specs.inner.Machine.{Holds}

behind : (t : List ℕ) (i : ℕ) → length t ≤ i → get_or t i 0 ≡ 0
behind t i h = get_or-eq_default t 0 h

pub holds_none : (t : List ℕ) (at : ℕ) → length t ≤ at → Holds t at (record { kind = 0; a = 0; b = 0 })
holds_none t at h = record { kind = sym (behind t at h); a = sym (behind t (at + 1) (omega arith)); b = sym (behind t (at + 2) (omega arith)) }

pub holds_behind : (t : List ℕ) (i j : ℕ) (r : Row) → length t ≤ i → length t ≤ j → Holds t i r → Holds t j r
holds_behind t i j r h g w = record {
  kind = w.kind ∙ behind t i h ∙ sym (behind t j g);
  a = w.a ∙ behind t (i + 1) (omega arith) ∙ sym (behind t (j + 1) (omega arith));
  b = w.b ∙ behind t (i + 2) (omega arith) ∙ sym (behind t (j + 2) (omega arith));
}
