-- A class of refusals is known by its number.
use Prim.Native.Nat.{ℕ}
use Rattle.std.specs.Prelude.{cond, eqb}
use mathlib.Core.Path.{◌≡◌, refl, sym, ap, ◌∙◌}
use Rattle.token.specs.declared.Class.{Class}
use Rattle.token.specs.declared.Class.TheVariants.{Malformed, Version, ReservedName, DuplicateName, UnknownName, LongSource, Frames, SurfaceFull, DeclarationsFull, CoreShort, WorkShort, NoDeclaration, CoreText, TextShort}
use Rattle.token.specs.Refusals.{number}

-- The class of a number.
abbrev class_of : ℕ → Class
class_of n =
    cond (eqb n 1) Malformed
    (cond (eqb n 2) Version
    (cond (eqb n 3) ReservedName
    (cond (eqb n 4) DuplicateName
    (cond (eqb n 5) UnknownName
    (cond (eqb n 6) LongSource
    (cond (eqb n 7) Frames
    (cond (eqb n 8) SurfaceFull
    (cond (eqb n 9) DeclarationsFull
    (cond (eqb n 10) CoreShort
    (cond (eqb n 11) WorkShort
    (cond (eqb n 12) NoDeclaration
    (cond (eqb n 13) CoreText TextShort))))))))))))

known : (c : Class) → class_of (number c) ≡ c
known Malformed = refl
known Version = refl
known ReservedName = refl
known DuplicateName = refl
known UnknownName = refl
known LongSource = refl
known Frames = refl
known SurfaceFull = refl
known DeclarationsFull = refl
known CoreShort = refl
known WorkShort = refl
known NoDeclaration = refl
known CoreText = refl
known TextShort = refl

pub number_inj : (c d : Class) → number c ≡ number d → c ≡ d
number_inj c d e = sym (known c) ∙ ap class_of e ∙ known d
