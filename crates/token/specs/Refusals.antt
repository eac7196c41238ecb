-- Document 01, "When nothing is loaded": refusals by their number, with a place.
use Rattle.std.specs.Prelude.{ℕ, Some, None}
use Rattle.token.specs.declared.Class.{Class}
use Rattle.token.specs.declared.Refusal.{Refusal}

-- The number of a class of refusals, in the documents' lists.
abbrev pub number : Class → ℕ
number Class.Malformed = 1
number Class.Version = 2
number Class.ReservedName = 3
number Class.DuplicateName = 4
number Class.UnknownName = 5
number Class.LongSource = 6
number Class.Frames = 7
number Class.SurfaceFull = 8
number Class.DeclarationsFull = 9
number Class.CoreShort = 10
number Class.WorkShort = 11
number Class.NoDeclaration = 12
number Class.CoreText = 13
number Class.TextShort = 14

-- "A refusal carries its class and a place, which is an offset or nowhere."
abbrev pub nowhere : Class → Refusal
nowhere c = record { class = c; place = None }

abbrev pub at_offset : Class → ℕ → Refusal
at_offset c p = record { class = c; place = Some p }
