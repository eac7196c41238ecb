-- What a whole term is, by the readers that the machine reads with.
use mathlib.Core.Path.{◌≡◌}
use mathlib.Core.List.{List}
use Prim.Native.Nat.{ℕ}
use Rattle.terms.specs.Label.{Label}
use Rattle.terms.specs.Tree.{Tree}
use Rattle.surface.specs.Reader.{Result}
use Rattle.surface.specs.Reading.{term}
use Rattle.expects.specs.declared.Format.{Format}
use Rattle.expects.specs.Formats.{edition}
use Rattle.expects.specs.Expects.{position_at}
use Rattle.term_rows.proofs.Readers as readers
use Rattle.parser.specs.TermRows.{as_rows}
use Rattle.parser.specs.Machine.{Setting, setting, whole_term}
use Rattle.parser.proofs.TreeRows.{rows_of_tree}

abbrev pub Sound : List ℕ → Setting → Type 0
Sound s m = readers.Sound s m.begin m.close

-- The readers of a format's terms.
pub setting_sound : (f : Format) (s : List ℕ) (limit frames : ℕ) → Sound s (setting (edition f) s limit frames)
setting_sound f s limit frames = readers.format_sound f s

module _ (s : List ℕ) (m : Setting) (sound : Sound s m) (table : List ℕ) (at n : ℕ) where
  abbrev pub whole_tree : Result (Tree Label)
  whole_tree = term m.begin m.close m.limit m.frames (position_at at n)

  -- A whole type or body: its rows are those of a tree.
  pub whole_rows : whole_term m table at n ≡ as_rows m.holds n table whole_tree
  whole_rows =
      rows_of_tree m.begin m.close m.limit m.holds (λ p q b e. (sound.begins p q b e).rows) (λ p q c e. (sound.closes p q c e).rows)
      m.frames (position_at at n) table
