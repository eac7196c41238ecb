-- Bytes that are read step by step, and a text that is written whole, where the bytes of the input and of the output are known.
use Rattle.std.proofs.Common.{◌≡◌, ◌∙◌, sym, ap, ℕ, ◌+◌, ◌-◌, ◌≤◌, ◌<◌, List, ◌++◌, length, take, drop, arith, append_assoc, append-nil, [], subst}
use Rattle.std.proofs.Math.Seq.{take-add, take-append_seam, length-take-le, length-sets}
use native.Mathlib.Decide.{dec_lt}
use Rattle.std.proofs.lemmas.List.{take_all}
use Rattle.std.specs.Io.KnownBytes.{Appends, Consumes, Keeps}
use Rattle.std.specs.declared.option.Option.{Option}
use Rattle.std.specs.declared.option.Option.TheVariants.{None, Some}
use Rattle.text.proofs.Writing.{behind_whole}
use Rattle.listing.specs.Program.{program_text, Written, Answers}
use Rattle.std.specs.Prelude.{Result, Ok, Err, OnOk, is_ok}
use Rattle.std.specs.Result.{MatchResult, IsErrAnd}
use Rattle.listing.specs.Moved.{Fills}
use Rattle.listing.proofs.Fits.{every_text_fits}

-- The bytes up to d, and those from there up to e.
pub goes_on : (a b c : Option (List ℕ)) (d e : ℕ) (before now : List ℕ) → d ≤ e → Consumes a b (take d before) → take d now ≡ take d before
    → Consumes b c (take (e - d) (drop d now)) → Consumes a c (take e now)
goes_on None b c d e before now h p k q = tt
goes_on (Some xs) None c d e before now h p k q = absurd p
goes_on (Some xs) (Some ys) None d e before now h p k q = absurd q
goes_on (Some xs) (Some ys) (Some zs) d e before now h p k q =
    let both : take e now ≡ take d now ++ take (e - d) (drop d now) =
    ap (λ n. take n now) (let z : e ≡ d + (e - d) = omega arith in z) ∙ take-add d (e - d) now in
    p
    ∙ ap (λ l. l ++ ys) (sym k)
    ∙ ap (λ l. take d now ++ l) q
    ∙ sym (append_assoc (take d now) (take (e - d) (drop d now)) zs)
    ∙ ap (λ l. l ++ zs) (sym both)

-- What stands at the buffer's beginning is the text.
pub text_whole : (s text : List ℕ) (r : ℕ) (text₁ : List ℕ) → length text₁ ≡ 262144 → Written s text r text₁ → take r text₁ ≡ program_text s
unfolding Written
text_whole s text r text₁ h w =
    let fits = every_text_fits s in
    let t = program_text s in
    let n : length text₁ ≡ length text = ap length w.0 ∙ length-sets text 0 t in
    ap (λ m. take m text₁) (let z : r ≡ length t = omega (arith, w.1, fits, n) in z)
    ∙ ap (take (length t)) (behind_whole (record { content = w.0; offset = w.1 }) (omega (arith, fits, n)))
    ∙ take-append_seam t (drop (length t) text)

-- Of a known input, what was read is its first 65,536 bytes.
first : (l ys : List ℕ) → length l ≤ 65536 → (length l < 65536 → ys ≡ []) → take 65536 (l ++ ys) ≡ l
first l ys h f = elim (dec_lt (length l) 65536) [
  | yes k ↦ ap (λ m. take 65536 (l ++ m)) (f k) ∙ ap (take 65536) (append-nil l) ∙ take_all 65536 l h
  | no k ↦ ap (λ n. take n (l ++ ys)) (let z : 65536 ≡ length l = omega arith in z) ∙ take-append_seam l ys
]

pub answered : (before after out out₁ : Option (List ℕ)) (buf : List ℕ) (n : ℕ) → length buf ≡ 65536 → n ≤ length buf → Fills before after buf (Ok n)
    → Appends out out₁ (program_text (take n buf)) → Answers before out out₁
answered None after out out₁ buf n e h p w = tt
answered (Some xs) None out out₁ buf n e h p w = absurd p.0
answered (Some xs) (Some ys) out out₁ buf n e h p w =
    let k : length (take n buf) ≡ n = length-take-le n buf h in
    let read : take 65536 xs ≡ take n buf = ap (take 65536) p.0 ∙ first (take n buf) ys (omega arith) (λ l. p.1 (omega arith)) in
    subst (λ t. Appends out out₁ (program_text t)) (sym read) w

-- Where only the error was turned into another.
pub same_ok : {T E D : Type 0} (r : Result T E) (m : Result T D) (n : T) (Q : E → D → Type 0) → MatchResult r (λ x. m ≡ Ok x) (λ e. IsErrAnd m (Q e)) → m ≡ Ok n → r ≡ Ok n
same_ok (Ok x) m n Q h e = cc
same_ok (Err y) m n Q h e = absurd (rw e at h)

pub on_ok : {T E D P Q : Type 0} (r : Result T E) (m : Result T D) → is_ok m ≡ is_ok r → OnOk r P → (P → Q) → OnOk m Q
on_ok (Ok x) (Ok y) e p f = f p
on_ok (Ok x) (Err y) e p f = tt
on_ok (Err x) (Ok y) e p f = absurd cc
on_ok (Err x) (Err y) e p f = tt

-- A step that moved nothing.
pub stays : (a b c : Option (List ℕ)) (d : ℕ) (before now : List ℕ) → Consumes a b (take d before) → take d now ≡ take d before → Keeps b c → Consumes a c (take d now)
stays None b c d before now p k q = tt
stays (Some xs) None c d before now p k q = absurd p
stays (Some xs) (Some ys) None d before now p k q = absurd q
stays (Some xs) (Some ys) (Some zs) d before now p k q = p ∙ ap (λ l. l ++ ys) (sym k) ∙ ap (λ l. take d now ++ l) (sym q)
