-- Document 01, "The module read", and document 02, Req 10: the forms of terms as one table, and the kinds' numbers.
use Rattle.std.specs.Prelude.{List, [], ◌∷◌, Bool, true, false, cond, ℕ, eqb}
use Rattle.std.proofs.Math.Option.{Option, none, some}
use Rattle.token.specs.Token.{next_token, Lexed}
use Rattle.words.specs.Words.{ascii, same_bytes, reserved, reserved_0_2}

-- "Kinds: var 1, global 2, universe 3, pi 4, lam 5, .. sigma 7, .. ref 24": those that a definition speaks of by name.
abbrev pub var_kind : ℕ
var_kind = 1

abbrev pub global_kind : ℕ
global_kind = 2

abbrev pub universe : ℕ
universe = 3

abbrev pub pi : ℕ
pi = 4

abbrev pub lam : ℕ
lam = 5

abbrev pub sigma : ℕ
sigma = 7

abbrev pub ref : ℕ
ref = 24

-- Document 02, Req 10: "`(arrow DOMAIN CODOMAIN)`, surface kind 25".
abbrev pub arrow : ℕ
arrow = 25

-- "Its core row is a pi", and "an arrow agrees in form with a pi": the kind that a kind counts as.
abbrev pub counts_as : ℕ → ℕ
counts_as k = cond (eqb k arrow) pi k

-- How a form is written; each T is a term.
pub data Shape : Type 0 where
  alone : Shape  -- WORD
  with_name : Shape  -- (WORD NAME)
  with_numeral : Shape  -- (WORD NUMERAL)
  binding : Shape  -- (WORD NAME T .. T)
  plain : Shape  -- (WORD T .. T)

pub record Form : Type 0 where
  pub word : List ℕ
  pub kind : ℕ
  pub shape : Shape
  pub arity : ℕ

abbrev pub form : List ℕ → ℕ → Shape → ℕ → Form
form w k s n = record { word = w; kind = k; shape = s; arity = n }

-- "Leaf terms: `empty unit star nat zero`, `(ref NAME)`, `(universe NUMERAL)`. `(pi NAME T T)`, `(sigma NAME T T)` and `(lam NAME T)` bind.
-- One argument: `fst snd refl succ`; two: `app pair empty-elim ann`; three: `id unit-elim`; four: `nat-elim`; six: `j`."
-- The second column is the kind's number.
unfoldable pub forms : List Form
forms =
    form (ascii "empty") 14 alone 0 ∷
    form (ascii "unit") 16 alone 0 ∷
    form (ascii "star") 17 alone 0 ∷
    form (ascii "nat") 19 alone 0 ∷
    form (ascii "zero") 20 alone 0 ∷
    form (ascii "ref") ref with_name 0 ∷
    form (ascii "universe") universe with_numeral 0 ∷
    form (ascii "pi") pi binding 2 ∷
    form (ascii "sigma") sigma binding 2 ∷
    form (ascii "lam") lam binding 1 ∷
    form (ascii "fst") 9 plain 1 ∷
    form (ascii "snd") 10 plain 1 ∷
    form (ascii "refl") 12 plain 1 ∷
    form (ascii "succ") 21 plain 1 ∷
    form (ascii "app") 6 plain 2 ∷
    form (ascii "pair") 8 plain 2 ∷
    form (ascii "empty-elim") 15 plain 2 ∷
    form (ascii "ann") 23 plain 2 ∷
    form (ascii "id") 11 plain 3 ∷
    form (ascii "unit-elim") 18 plain 3 ∷
    form (ascii "nat-elim") 22 plain 4 ∷
    form (ascii "j") 13 plain 6 ∷
    []

-- "Edition `(surface 0 2)` adds `(arrow DOMAIN CODOMAIN)`". No kind has two forms, so these are the forms of all kinds.
unfoldable pub forms_0_2 : List Form
forms_0_2 = form (ascii "arrow") arrow plain 2 ∷ forms

-- What differs between the formats that are read: the tokens, that is, the one at or behind an offset; the forms; the reserved words.
pub record Edition : Type 0 where
  pub tokens : List ℕ → ℕ → Lexed
  pub forms : List Form
  pub reserved : List ℕ → Bool

unfoldable pub edition_0_1 : Edition
edition_0_1 = record { tokens = next_token; forms = forms; reserved = reserved }

unfoldable pub edition_0_2 : Edition
edition_0_2 = record { tokens = next_token; forms = forms_0_2; reserved = reserved_0_2 }

-- The form of a word, if it has one.
unfoldable pub form_of_word : List ℕ → List Form → Option Form
form_of_word w [] = none
form_of_word w (f ∷ l) = elim (same_bytes w f.word) [ true ↦ some f | false ↦ form_of_word w l ]

-- The form of a kind, if it is a term's.
unfoldable pub form_of_kind : ℕ → List Form → Option Form
form_of_kind k [] = none
form_of_kind k (f ∷ l) = elim (eqb k f.kind) [ true ↦ some f | false ↦ form_of_kind k l ]

-- How many arguments a term of a kind has.
unfoldable pub arity_of : ℕ → ℕ
arity_of k = elim (form_of_kind k forms_0_2) [ none ↦ 0 | some f ↦ f.arity ]

-- The forms that are written with a name or a numeral.
abbrev pub has_atom : Shape → Bool
has_atom alone = false
has_atom with_name = true
has_atom with_numeral = true
has_atom binding = true
has_atom plain = false

-- Whether a term of a kind has such an atom, by some forms.
unfoldable pub holds_span_in : List Form → ℕ → Bool
holds_span_in l k = elim (form_of_kind k l) [ none ↦ false | some f ↦ has_atom f.shape ]

-- The same by those of a source, of either edition.
abbrev pub holds_span : ℕ → Bool
holds_span k = holds_span_in forms_0_2 k
