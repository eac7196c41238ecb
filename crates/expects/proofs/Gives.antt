-- What holds of whatever a reader gives, step by step.
use mathlib.Core.Path.{◌≡◌, refl, subst}
use mathlib.Core.Bool.{Bool, true, false}
use Rattle.token.specs.declared.Refusal.{Refusal}
use Rattle.surface.specs.Reader.{Position, Result, done, refused, Reader, after, ◌>>◌, require}

abbrev pub Gives : {A : Type 0} → (A → Position → Type 0) → Result A → Type 0
Gives P (done a q) = P a q
Gives P (refused r) = Unit

pub given : {A : Type 0} (P : A → Position → Type 0) {x : Result A} {a : A} {q : Position} → Gives P x → x ≡ done a q → P a q
given P g e = subst (λ (y : Result _). Gives P y) e g

pub gives_as : {A : Type 0} (P Q : A → Position → Type 0) (x : Result A) → Gives P x → ((a : A) (q : Position) → P a q → Q a q) → Gives Q x
gives_as P Q (done a q) g f = f a q g
gives_as P Q (refused r) g f = tt

pub gives_after : {A B : Type 0} (P : A → Position → Type 0) (Q : B → Position → Type 0) (x : Result A) (k : A → Reader B)
    → Gives P x → ((a : A) (q : Position) → P a q → Gives Q (k a q)) → Gives Q (after x k)
gives_after P Q (done a q) k g f = f a q g
gives_after P Q (refused r) k g f = tt

pub gives_require : {B : Type 0} (Q : B → Position → Type 0) (b : Bool) (r : Refusal) (k : Reader B) (q : Position)
    → (b ≡ true → Gives Q (k q)) → Gives Q ((require b r >> k) q)
gives_require Q true r k q f = f refl
gives_require Q false r k q f = tt
