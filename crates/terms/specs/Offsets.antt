-- Document 02, Req 01: where the terms of a module start.
use Rattle.std.specs.Prelude.{◌≡◌, List, [], ◌∷◌, ◌++◌, ℕ, length, get_or}
use Rattle.std.proofs.Math.Option.{none, some}
use Rattle.words.specs.Words.{ascii}
use Rattle.terms.specs.Forms.{Shape, alone, with_name, with_numeral, binding, plain, forms_0_2, form_of_kind}
use Rattle.terms.specs.Tree.{Forest, nil, node}
use Rattle.terms.specs.Label.{part, Label, Declaration, trees}

-- "The eighth word of each surface and core row"
abbrev pub eighth_word : List ℕ → ℕ
eighth_word w = get_or w 7 0

-- The offsets of terms, in the order of their rows: a term's row is the one after its arguments' rows.
abbrev pub term_offsets : Forest Label → List ℕ
term_offsets nil = []
term_offsets (node l a r) = term_offsets a ++ (l.offset ∷ term_offsets r)

abbrev pub offsets_of : List Declaration → List ℕ
offsets_of [] = []
offsets_of (d ∷ l) = term_offsets (trees d) ++ offsets_of l

-- "its opening parenthesis, or its atom": what a term of a form with the word w begins with.
abbrev pub begins_with : Shape → List ℕ → List ℕ
begins_with alone w = w
begins_with with_name w = ascii "("
begins_with with_numeral w = ascii "("
begins_with binding w = ascii "("
begins_with plain w = ascii "("

-- The same by the kind.
unfoldable pub first_bytes : ℕ → List ℕ
first_bytes k = elim (form_of_kind k forms_0_2) [ none ↦ [] | some f ↦ begins_with f.shape f.word ]

-- "the offset of the term's first byte": there each term of a source begins.
abbrev pub TermsBegin : List ℕ → Forest Label → Type 0
TermsBegin s nil = Unit {0}
TermsBegin s (node l a r) = (part s l.offset (length (first_bytes l.kind)) ≡ first_bytes l.kind) × TermsBegin s a × TermsBegin s r

abbrev pub ModuleBegins : List ℕ → List Declaration → Type 0
ModuleBegins s [] = Unit {0}
ModuleBegins s (d ∷ l) = TermsBegin s (trees d) × ModuleBegins s l
