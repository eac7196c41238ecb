-- The headline statements about reading core text, each as a type; core_text/proofs/Statements.antt has a proof of each.
use Rattle.token.specs.declared.Class.{Class}
use Rattle.std.specs.Prelude.{◌≡◌, List, ℕ, ◌≤◌, length}
use Rattle.words.specs.Words.{ascii}
use Rattle.terms.specs.Label.{Declaration}
use Rattle.surface.specs.Reader.{Position, start, done, refused, nowhere, at_offset}
use Rattle.surface.specs.Statements.{deepest, row_total}
use Rattle.core_text.specs.TextReading.{read_text}
use Rattle.core_text.specs.TextGrammar.{DerivesText}

-- What is read is a core text by the grammar.
abbrev pub TextSound : Type 0
TextSound = (t : List ℕ) (limit room frames : ℕ) (ds : List Declaration) (q : Position) → read_text t limit room frames start ≡ done ds q → DerivesText t ds

-- A core text by the grammar is read, where there is room for its rows and declarations, and so many frames may be open. A core text has a
-- row for each term, as many as a source of the same terms.
abbrev pub TextComplete : Type 0
TextComplete =
    (t : List ℕ) (limit room frames : ℕ) (ds : List Declaration) → DerivesText t ds → row_total ds ≤ limit → length ds ≤ room → deepest ds ≤ frames
    → (q : Position) × (read_text t limit room frames start ≡ done ds q)

-- A text is one list of declarations at most.
abbrev pub TextUnique : Type 0
TextUnique = (t : List ℕ) (ds es : List Declaration) → DerivesText t ds → DerivesText t es → ds ≡ es

-- 2 is given behind the theory's parenthesis, and not before: a text that ends in front of it is malformed at its end, with any numerals.
abbrev pub VersionPlace : Type 0
VersionPlace =
    (read_text (ascii "(hott-core (format 9 9) (theory \"x\" 0 1") 0 0 0 start ≡ refused (at_offset Class.Malformed 39))
    × (read_text (ascii "(hott-core (format 9 9) (theory \"x\" 0 1)") 0 0 0 start ≡ refused (nowhere Class.Version))
