-- How many bytes of the source the rows and records of a module show.
use Prim.Native.Nat.{ℕ, zero, suc, ◌+◌, ◌*◌, ◌≤◌, ◌<◌}
use mathlib.Core.Path.{◌≡◌, refl, ◌∙◌, ap}
use mathlib.Core.Bool.{Bool, true, false, cond}
use mathlib.Core.List.{List, [], ◌∷◌, ◌++◌, map}
use native.Mathlib.Omega.{arith}
use lib.Dec.{eqb}
use lib.ListN.{length, get_or}
use Rattle.terms.specs.Forms.{universe, counts_as}
use Rattle.terms.specs.Tree.{Forest, nil, node, cells, next, roots}
use Rattle.terms.specs.Label.{Name, Label, Declaration, trees, declared_name}
use Rattle.terms.specs.Resolution.{Locals, Core, kept, var, global, unknown, core_of, locals_in, resolve, resolve_declaration, resolve_module}
use Rattle.terms.specs.Rows.{pad, row, span, core_words, core_row, core_rows, declaration_records, joined}
use Rattle.terms.proofs.Arrow.{counts_same}
use Rattle.terms.proofs.Tables.{getD_pad, Wide, joined_at}
use Rattle.lines.proofs.Lengths.{sum}
use Rattle.listing.proofs.Atoms.{label_bytes, term_bytes, name_bytes}

-- The sum over rows, and the same by their places.
abbrev pub sum_of : (List ℕ → ℕ) → List (List ℕ) → ℕ
sum_of w [] = 0
sum_of w (r ∷ l) = w r + sum_of w l

pub sum_at : (f : ℕ → ℕ) (w : List ℕ → ℕ) (l : List (List ℕ)) (k : ℕ) → ((j : ℕ) → j < length l → f (k + j) ≡ w (get_or l j [])) → sum f (length l) k ≡ sum_of w l
sum_at f w [] k h = refl
sum_at f w (r ∷ l) k h =
    let here : f k ≡ w r = ap f (let z : k ≡ k + 0 = omega arith in z) ∙ h 0 (omega arith) in
    let rest : sum f (length l) (k + 1) ≡ sum_of w l =
    sum_at f w l (k + 1) (λ j p. ap f (let z : k + 1 + j ≡ k + suc j = omega arith in z) ∙ h (suc j) (omega arith)) in
    omega (arith, here, rest)

sum_append : (w : List ℕ → ℕ) (l m : List (List ℕ)) → sum_of w (l ++ m) ≡ sum_of w l + sum_of w m
sum_append w [] m = omega arith
sum_append w (r ∷ l) m = omega (arith, sum_append w l m)

sum_map : {A : Type 0} (w : List ℕ → ℕ) (f : A → List ℕ) (l m : List A) → sum_of w (map f (l ++ m)) ≡ sum_of w (map f l) + sum_of w (map f m)
sum_map w f [] m = omega arith
sum_map w f (a ∷ l) m = omega (arith, sum_map w f l m)

-- Word i of row k of a table of w words a row.
module _ (w : ℕ) (l : List (List ℕ)) (wide : Wide w l) (n : ℕ) where
  pub word_at : (k i : ℕ) → k < length l → i < w → k * w + i < n → get_or (pad n (joined l)) (k * w + i) 0 ≡ get_or (get_or l k []) i 0
  word_at k i h j b = getD_pad n (joined l) (k * w + i) b ∙ joined_at w l wide k i h j

-- What a core row shows of the source, as `level` says it of a table.
abbrev pub row_level : List ℕ → ℕ
row_level r = cond (eqb (get_or r 0 0) universe) (get_or r 2 0) 0

words_level : (l : Label) (c : Core) (children : List ℕ) → row_level (core_words l c children) ≤ l.length
words_level l kept children = rw (counts_same (λ (k : ℕ). eqb k universe) refl l.kind) (by (eqb l.kind universe))
  where
    by : (t : Bool) → cond t (get_or (row (counts_as l.kind) (cond t (span l) [] ++ children) l.offset) 2 0) 0 ≤ l.length
    by true = omega arith
    by false = omega arith
words_level l (var i) children = omega arith
words_level l (global j) children = omega arith
words_level l unknown children = omega arith

trees_level : (s : List ℕ) (e : ℕ → Locals) (g : List Name) (n : ℕ) (f : Forest Label) → sum_of row_level (map core_row (cells n (resolve s e g f))) ≤ label_bytes f
trees_level s e g n nil = omega arith
trees_level s e g n (node l a r) =
    let args = resolve s (locals_in s l (e zero)) g a in
    let rest = resolve s (λ i. e (suc i)) g r in
    let core = core_of s (e zero) g l in
    let m = suc (next n args) in
    omega (
      arith,
      sum_map row_level core_row (cells n args) (record { label = record { label = l; core = core }; children = roots n args } ∷ cells m rest),
      trees_level s (locals_in s l (e zero)) g n a,
      words_level l core (roots n args),
      trees_level s (λ i. e (suc i)) g m r,
    )

pub module_level : (s : List ℕ) (g : List Name) (n : ℕ) (ds : List Declaration) → sum_of row_level (core_rows n (resolve_module s g ds)) ≤ term_bytes ds
module_level s g n [] = omega arith
module_level s g n (d ∷ l) =
    let f = resolve_declaration s g d in
    let h = g ++ (declared_name s d ∷ []) in
    omega (
      arith,
      sum_append row_level (map core_row (cells n f)) (core_rows (next n f) (resolve_module s h l)),
      trees_level s (λ i. []) g n (trees d),
      module_level s h (next n f) l,
    )

-- A declaration's name.
abbrev pub record_name : List ℕ → ℕ
record_name r = get_or r 2 0

pub module_names : (s : List ℕ) (g : List Name) (n : ℕ) (ds : List Declaration) → sum_of record_name (declaration_records n (resolve_module s g ds)) ≡ name_bytes ds
module_names s g n [] = refl
module_names s g n (d ∷ l) =
    ap (λ m. d.length + m) (module_names s (g ++ (declared_name s d ∷ [])) (next n (resolve_declaration s g d)) l)
