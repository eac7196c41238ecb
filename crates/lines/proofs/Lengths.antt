-- How long the lines of a listing can be.
use Rattle.token.specs.Refusals.{number}
use Rattle.token.specs.Token.{Place}
use Rattle.std.specs.Prelude.{Some, None}
use Prim.Native.Nat.{ℕ, zero, suc, ◌+◌, ◌*◌, ◌/◌, ◌%◌, ◌≤◌}
use mathlib.Core.Path.{◌≡◌, refl}
use mathlib.Core.Bool.{Bool, true, false, ◌||◌, cond}
use mathlib.Core.List.{List, [], ◌∷◌, ◌++◌}
use mathlib.Core.Option.{Option, none, some}
use native.Mathlib.Omega.{arith}
use native.Mathlib.Nat.{suc-mul}
use lib.Dec.{leb, ltb, eqb}
use lib.ListN.{length, get_or, drop, length-append, length-take}
use borrow.Author.Tests.{leb-true}
use Rattle.token.specs.declared.Refusal.{Refusal}
use Rattle.words.specs.Words.{ascii}
use Rattle.terms.specs.Forms.{Form, forms, form_of_kind, arity_of, var_kind, global_kind, universe}
use Rattle.terms.specs.Label.{part}
use Rattle.terms.proofs.FormTable.{every, of_kind, arity_small}
use Rattle.text.specs.Text.{digits, decimal}
use Rattle.lines.specs.Listing.{spaced, kind_word, numbers, row_fields, row_line, row_lines, declaration_word, declaration_rows, declaration_line, declaration_lines, first_line, listing, place_text, refused_line, refusal_line}

digits_short : (p n : ℕ) → length (digits p n) ≤ p
unfolding digits
digits_short zero n = omega arith
digits_short (suc p) n = by (ltb n 10) (digits_short p (n / 10))
  where
    by : (t : Bool) → length (digits p (n / 10)) ≤ p
        → length {A = ℕ} (elim t as (λ _. List ℕ) [ true ↦ (48 + n) ∷ [] | false ↦ digits p (n / 10) ++ ((48 + n % 10) ∷ []) ]) ≤ suc p
    by true h = omega arith
    by false h = omega (arith, length-append (digits p (n / 10)) ((48 + n % 10) ∷ []))

decimal_short : (n : ℕ) → length (decimal n) ≤ 20
unfolding decimal
decimal_short n = digits_short 20 n

part_short : (s : List ℕ) (a n : ℕ) → length (part s a n) ≤ n
part_short s a n = omega (arith, length-take n (drop a s))

-- The longest word of a kind is `empty-elim`.
words_short : every (λ f. leb (length f.word) 10) forms ≡ true
unfolding forms
words_short = refl

word_short : (k : ℕ) → length (kind_word k) ≤ 10
unfolding kind_word
word_short k = by (eqb k var_kind) (eqb k global_kind) (form_of_kind k forms) refl
  where
    by : (a b : Bool) (o : Option Form) → form_of_kind k forms ≡ o
        → length {A = ℕ} (elim a as (λ _. List ℕ) [ true ↦ ascii "var" | false ↦ elim b as (λ _. List ℕ) [ true ↦ ascii "global" | false ↦ elim o as (λ _. List ℕ) [ none ↦ [] | some f ↦ f.word ] ] ]) ≤ 10
    by true b o e = leb-true 3 10 refl
    by false true o e = leb-true 6 10 refl
    by false false none e = leb-true 0 10 refl
    by false false (some f) e = leb-true (length f.word) 10 (of_kind (λ f. leb (length f.word) 10) k forms f words_short e)

declaration_word_short : (k : ℕ) → length (declaration_word k) ≤ 11
unfolding declaration_word
declaration_word_short k = by (eqb k 1) (eqb k 2) (eqb k 3)
  where
    by : (a b c : Bool)
        → length {A = ℕ} (elim a as (λ _. List ℕ) [ true ↦ ascii "postulate" | false ↦ elim b as (λ _. List ℕ) [ true ↦ ascii "transparent" | false ↦ elim c as (λ _. List ℕ) [ true ↦ ascii "opaque" | false ↦ [] ] ] ]) ≤ 11
    by true b c = leb-true 9 11 refl
    by false true c = leb-true 11 11 refl
    by false false true = leb-true 6 11 refl
    by false false false = leb-true 0 11 refl

numbers_short : (n : ℕ) (t : List ℕ) (i : ℕ) → length (numbers n t i) ≤ n * 21
unfolding numbers
numbers_short zero t i = omega arith
numbers_short (suc n) t i =
    omega (arith, suc-mul n 21, length-append (spaced (decimal (get_or t i 0))) (numbers n t (i + 1)), decimal_short (get_or t i 0), numbers_short n t (i + 1))

-- How many bytes of the source a core row at word i can show: a universe's digits.
abbrev pub level : List ℕ → ℕ → ℕ
level core i = cond (eqb (get_or core i 0) universe) (get_or core (i + 2) 0) 0

fields_short : (s core : List ℕ) (i : ℕ) → length (row_fields s core i) ≤ 126 + level core i
unfolding row_fields
fields_short s core i = by (eqb (get_or core i 0) universe) (eqb (get_or core i 0) var_kind || eqb (get_or core i 0) global_kind)
  where
    by : (t u : Bool)
        → length {A = ℕ} (elim t as (λ _. List ℕ) [
          | true ↦ spaced (part s (get_or core (i + 1) 0) (get_or core (i + 2) 0))
          | false ↦ elim u as (λ _. List ℕ) [ true ↦ numbers 1 core (i + 1) | false ↦ numbers (arity_of (get_or core i 0)) core (i + 1) ]
        ]) ≤ 126 + cond t (get_or core (i + 2) 0) 0
    by true u = omega (arith, part_short s (get_or core (i + 1) 0) (get_or core (i + 2) 0))
    by false true = omega (arith, numbers_short 1 core (i + 1))
    by false false = omega (arith, numbers_short (arity_of (get_or core i 0)) core (i + 1), arity_small (get_or core i 0))

row_short : (s core : List ℕ) (k : ℕ) → length (row_line s core k) ≤ 158 + level core (k * 8)
unfolding row_line
row_short s core k =
    let word = kind_word (get_or core (k * 8) 0) in
    let fields = row_fields s core (k * 8) in
    omega (
      arith,
      length-append (decimal k ++ spaced word ++ fields) (10 ∷ []),
      length-append (decimal k ++ spaced word) fields,
      length-append (decimal k) (spaced word),
      decimal_short k,
      word_short (get_or core (k * 8) 0),
      fields_short s core (k * 8),
    )

-- The sum of a function's values at n places from place k on.
abbrev pub sum : (ℕ → ℕ) → ℕ → ℕ → ℕ
sum f zero k = 0
sum f (suc n) k = f k + sum f n (k + 1)

rows_short : (s core : List ℕ) (n k : ℕ) → length (row_lines s core n k) ≤ n * 158 + sum (λ j. level core (j * 8)) n k
unfolding row_lines
rows_short s core zero k = omega arith
rows_short s core (suc n) k = omega (arith, suc-mul n 158, length-append (row_line s core k) (row_lines s core n (k + 1)), row_short s core k, rows_short s core n (k + 1))

declaration_rows_short : (ds : List ℕ) (i : ℕ) → length (declaration_rows ds i) ≤ 42
unfolding declaration_rows
declaration_rows_short ds i = by (eqb (get_or ds i 0) 1)
  where
    by : (t : Bool) → length {A = ℕ} (elim t as (λ _. List ℕ) [ true ↦ numbers 1 ds (i + 3) | false ↦ numbers 2 ds (i + 3) ]) ≤ 42
    by true = omega (arith, numbers_short 1 ds (i + 3))
    by false = omega (arith, numbers_short 2 ds (i + 3))

declaration_short : (s ds : List ℕ) (k : ℕ) → length (declaration_line s ds k) ≤ 76 + get_or ds (k * 5 + 2) 0
unfolding declaration_line
declaration_short s ds k =
    let word = declaration_word (get_or ds (k * 5) 0) in
    let name = part s (get_or ds (k * 5 + 1) 0) (get_or ds (k * 5 + 2) 0) in
    let rows = declaration_rows ds (k * 5) in
    omega (
      arith,
      length-append (decimal k ++ spaced word ++ spaced name ++ rows) (10 ∷ []),
      length-append (decimal k ++ spaced word ++ spaced name) rows,
      length-append (decimal k ++ spaced word) (spaced name),
      length-append (decimal k) (spaced word),
      decimal_short k,
      declaration_word_short (get_or ds (k * 5) 0),
      part_short s (get_or ds (k * 5 + 1) 0) (get_or ds (k * 5 + 2) 0),
      declaration_rows_short ds (k * 5),
    )

declarations_short : (s ds : List ℕ) (n k : ℕ) → length (declaration_lines s ds n k) ≤ n * 76 + sum (λ j. get_or ds (j * 5 + 2) 0) n k
unfolding declaration_lines
declarations_short s ds zero k = omega arith
declarations_short s ds (suc n) k =
    omega (arith, suc-mul n 76, length-append (declaration_line s ds k) (declaration_lines s ds n (k + 1)), declaration_short s ds k, declarations_short s ds n (k + 1))

first_line_short : (rows n : ℕ) → length (first_line rows n) ≤ 61
unfolding first_line
first_line_short rows n =
    let nodes = ascii "nodes " in
    let declarations = ascii " declarations " in
    omega (
      arith,
      length-append (nodes ++ decimal rows ++ declarations ++ decimal n) (10 ∷ []),
      length-append (nodes ++ decimal rows ++ declarations) (decimal n),
      length-append (nodes ++ decimal rows) declarations,
      length-append nodes (decimal rows),
      decimal_short rows,
      decimal_short n,
    )

-- A listing, beside what it shows of the source.
pub listing_short : (s core ds : List ℕ) (rows n : ℕ)
    → length (listing s core ds rows n) ≤ 61 + rows * 158 + n * 76 + (sum (λ j. level core (j * 8)) rows 0 + sum (λ j. get_or ds (j * 5 + 2) 0) n 0)
unfolding listing
listing_short s core ds rows n =
    omega (
      arith,
      length-append (first_line rows n ++ row_lines s core rows 0) (declaration_lines s ds n 0),
      length-append (first_line rows n) (row_lines s core rows 0),
      first_line_short rows n,
      rows_short s core rows 0,
      declarations_short s ds n 0,
    )

place_short : (p : Place) → length (place_text p) ≤ 24
unfolding place_text
place_short (Some p) = omega (arith, length-append (ascii " at ") (decimal p), decimal_short p)
place_short None = omega arith

pub refused_short : (c : ℕ) (p : Place) → length (refused_line c p) ≤ 53
unfolding refused_line
refused_short c p =
    let refused = ascii "refused " in
    omega (
      arith,
      length-append (refused ++ decimal c ++ place_text p) (10 ∷ []),
      length-append (refused ++ decimal c) (place_text p),
      length-append refused (decimal c),
      decimal_short c,
      place_short p,
    )

pub refusal_short : (r : Refusal) → length (refusal_line r) ≤ 53
refusal_short r = refused_short (number r.class) r.place
