-- Document 01, "The core module": *agreement* of two sources, read from them by the grammar alone.
use Rattle.std.specs.Prelude.{List, map, ℕ}
use Rattle.terms.specs.Label.{Declaration, named_declaration}
use Rattle.terms.specs.Agreement.{AgreeModule}
use Rattle.surface.specs.Grammar.{Derives}

-- Each source is a module, of either edition, and the two modules agree, declaration by declaration and place by place.
-- "Binder names otherwise, layout, comments and the module name play no part."
pub record Agreement (s t : List ℕ) : Type 0 where
  pub one : List Declaration
  pub other : List Declaration
  pub one_derives : Derives s one
  pub other_derives : Derives t other
  pub agree : AgreeModule (map (named_declaration s) one) (map (named_declaration t) other)
