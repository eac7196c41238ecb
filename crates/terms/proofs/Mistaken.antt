-- Document 01, "Plausible and mistaken", of scope, and document 02, Req 10: what small terms become, computed by the definitions.
use mathlib.Core.Path.{◌≡◌, refl}
use mathlib.Core.List.{List, [], ◌∷◌, map}
use Prim.Native.Nat.{ℕ}
use Rattle.words.specs.Words.{ascii, same_bytes}
use Rattle.terms.specs.Forms.{pi, lam, ref, arrow}
use Rattle.terms.specs.Tree.{Forest, nil, node, cells}
use Rattle.terms.specs.Label.{Name, Label}
use Rattle.terms.specs.Resolution.{find, find_local, core_of, resolve}
use Rattle.terms.specs.Rows.{row, core_row}

-- The names of the terms below: `x` at offset 0 and `_` at offset 1.
abbrev source : List ℕ
source = ascii "x_"

abbrev at_x : ℕ → Forest Label → Forest Label → Forest Label
at_x k a r = node (record { kind = k; start = 0; length = 1; offset = 0 }) a r

abbrev at_blank : ℕ → Forest Label → Forest Label → Forest Label
at_blank k a r = node (record { kind = k; start = 1; length = 1; offset = 0 }) a r

-- An arrow has no name: its span is 0 and 0.
abbrev arrow_of : Forest Label → Forest Label → Forest Label
arrow_of a r = node (record { kind = arrow; start = 0; length = 0; offset = 0 }) a r

abbrev nat : Forest Label → Forest Label
nat r = node (record { kind = 19; start = 0; length = 0; offset = 0 }) nil r

-- A row by its kind and fields; every term below has the offset 0.
abbrev words : ℕ → List ℕ → List ℕ
words k fields = row k fields 0

-- A term, the names declared before it, and its core rows.
pub record Scoped : Type 0 where
  pub globals : List Name
  pub term : Forest Label
  pub rows : List (List ℕ)

abbrev scoped : List Name → Forest Label → List (List ℕ) → Scoped
scoped g t l = record { globals = g; term = t; rows = l }

abbrev pub small_terms : List Scoped
small_terms =
    -- (pi x (ref x) (ref x)) behind a declaration x: the binder is not visible in its own domain, and counts start at 0
    scoped (ascii "x" ∷ []) (at_x pi (at_x ref nil (at_x ref nil nil)) nil) (words 2 (0 ∷ []) ∷ words 1 (0 ∷ []) ∷ words 4 (0 ∷ 1 ∷ []) ∷ []) ∷
    -- (pi _ nat (ref _)): `_` is an ordinary name
    scoped [] (at_blank pi (nat (at_blank ref nil nil)) nil) (words 19 [] ∷ words 1 (0 ∷ []) ∷ words 4 (0 ∷ 1 ∷ []) ∷ []) ∷
    -- (lam x (lam x (ref x))): the innermost binds
    scoped [] (at_x lam (at_x lam (at_x ref nil nil) nil) nil) (words 1 (0 ∷ []) ∷ words 5 (0 ∷ []) ∷ words 5 (1 ∷ []) ∷ []) ∷
    -- (lam x (lam _ (ref x))) behind a declaration x: a local hides it, and the binder between counts
    scoped (ascii "x" ∷ []) (at_x lam (at_blank lam (at_x ref nil nil) nil) nil) (words 1 (1 ∷ []) ∷ words 5 (0 ∷ []) ∷ words 5 (1 ∷ []) ∷ []) ∷
    -- (arrow nat nat) and (pi x nat nat): one core
    scoped [] (arrow_of (nat (nat nil)) nil) (words 19 [] ∷ words 19 [] ∷ words 4 (0 ∷ 1 ∷ []) ∷ []) ∷
    scoped [] (at_x pi (nat (nat nil)) nil) (words 19 [] ∷ words 19 [] ∷ words 4 (0 ∷ 1 ∷ []) ∷ []) ∷
    -- (lam x (arrow (ref x) (ref x))): in the codomain the count is one higher, in the domain it is not
    scoped [] (at_x lam (arrow_of (at_x ref nil (at_x ref nil nil)) nil) nil) (words 1 (0 ∷ []) ∷ words 1 (1 ∷ []) ∷ words 4 (0 ∷ 1 ∷ []) ∷ words 5 (2 ∷ []) ∷ []) ∷
    -- (lam x (pi _ (ref x) (ref x))): the same core
    scoped [] (at_x lam (at_blank pi (at_x ref nil (at_x ref nil nil)) nil) nil) (words 1 (0 ∷ []) ∷ words 1 (1 ∷ []) ∷ words 4 (0 ∷ 1 ∷ []) ∷ words 5 (2 ∷ []) ∷ []) ∷
    -- (arrow nat (ref x)) behind a declaration x: an arrow hides nothing
    scoped (ascii "x" ∷ []) (arrow_of (nat (at_x ref nil nil)) nil) (words 19 [] ∷ words 2 (0 ∷ []) ∷ words 4 (0 ∷ 1 ∷ []) ∷ []) ∷
    []

pub small_cores : map (λ t. map core_row (cells 0 (resolve source (λ i. []) t.globals t.term))) small_terms ≡ map (λ t. t.rows) small_terms
unfolding same_bytes find find_local core_of
small_cores = refl
