-- With room for its bytes a source is parsed as with any more room: only 1, 2, 3, 6, 7 and 11 are met.
use mathlib.Core.Path.{◌≡◌, refl, sym, ◌∙◌, subst}
use mathlib.Core.List.{List}
use mathlib.Core.Option.{Option}
use mathlib.Core.Bool.{Bool, true, false, not, ◌||◌, false≢true}
use Prim.Native.Nat.{ℕ, ◌+◌, ◌/◌, ◌≤◌}
use native.Mathlib.Omega.{arith}
use lib.Dec.{leb, eqb}
use lib.ListN.{length}
use Rattle.token.specs.declared.Class.{Class}
use Rattle.token.specs.declared.Refusal.{Refusal}
use Rattle.token.specs.Refusals.{number}
use Rattle.utf8.specs.Utf8.{valid_length, byte_order_mark}
use Rattle.terms.specs.Label.{Declaration}
use Rattle.surface.specs.Reader.{start, Result, done, refused, Reader, after, require}
use Rattle.surface.specs.Reading.{read_module}
use Rattle.surface.specs.Tables.{Lengths, ample}
use Rattle.surface.specs.Loading.{frame_limit, parsing}
use Rattle.least_storage.specs.Statements.{met_first, cut_short, MetFirst, storage_refusal}
use Rattle.least_storage.proofs.Bytes.{Fits, module_fits}
use Rattle.least_storage.proofs.Ends.{Ends, as_before, no_row, no_declaration, parsing_ends}
use Rattle.least_storage.proofs.MetFirst.{Short, nothing, eight, nine, met_short}

-- What may come of a source that there is room for.
abbrev pub Roomy : List ℕ → Result (List Declaration) → Type 0
Roomy s (done ds q) = (q.rows ≤ length s / 3) × (length ds ≤ length s / 17)
Roomy s (refused r) = storage_refusal r.class ≡ true

some_more : (a b c d e f : Bool) → (a || (b || (c || e))) ≡ true → (a || (b || (c || (d || (e || f))))) ≡ true
some_more true b c d e f h = refl
some_more false true c d e f h = refl
some_more false false true d e f h = refl
some_more false false false true e f h = refl
some_more false false false false true f h = refl
some_more false false false false false f h = absurd (false≢true h)

fits_roomy : (s : List ℕ) (x : Result (List Declaration)) → Fits s x → Roomy s x
fits_roomy s (done ds q) h = h
fits_roomy s (refused r) h = let c = number r.class in some_more (eqb c 1) (eqb c 2) (eqb c 3) (eqb c 6) (eqb c 7) (eqb c 11) h

roomy_require : (s : List ℕ) (t : Bool) (c : Refusal) (k : Unit {0} → Reader (List Declaration)) → storage_refusal c.class ≡ true → Roomy s (k tt start)
    → Roomy s (after (require t c start) k)
roomy_require s true c k a h = h
roomy_require s false c k a h = a

pub parsing_roomy : (s : List ℕ) (z : Lengths) → length s / 3 ≤ z.surface / 8 → length s / 17 ≤ z.declarations / 5 → Roomy s (parsing s z start)
unfolding parsing
parsing_roomy s z h k =
    roomy_require s (leb 16384 z.work) _ _ refl
    (roomy_require s (leb (length s) 65535) _ _ refl
    (roomy_require s (eqb (valid_length s) (length s)) _ _ refl
    (roomy_require s (not (byte_order_mark s)) _ _ refl
    (fits_roomy s (read_module s (z.surface / 8) (z.declarations / 5) frame_limit start)
    (module_fits s (z.surface / 8) (z.declarations / 5) frame_limit h k)))))

ends_same : (r d n : ℕ) (s : List ℕ) (x y : Result (List Declaration)) → Roomy s x → Ends r d n x y → x ≡ y
ends_same r d n s x (done ds q) k e = go (met_first r d n ds) (met_short r d n ds) e
  where
    go : (o : Option Class) → Short o → x ≡ cut_short o (done ds q) → x ≡ done ds q
    go o nothing f = f
    go o eight f = absurd (false≢true (subst (Roomy s) f k))
    go o nine f = absurd (false≢true (subst (Roomy s) f k))
ends_same r d n s x (refused c) k as_before = refl
ends_same r d n s x (refused c) k no_row = absurd (false≢true k)
ends_same r d n s x (refused c) k no_declaration = absurd (false≢true k)

more_is_same : (s : List ℕ) (y z : Lengths) → length s / 3 ≤ y.surface / 8 → length s / 17 ≤ y.declarations / 5
    → y.surface / 8 ≤ z.surface / 8 → y.declarations / 5 ≤ z.declarations / 5 → y.work ≡ z.work → parsing s y start ≡ parsing s z start
more_is_same s y z h k a b e =
    ends_same (y.surface / 8) (y.declarations / 5) 0 s (parsing s y start) (parsing s z start) (parsing_roomy s y h k) (parsing_ends s y z e a b)

-- Two lots of tables, by one that is larger than both.
abbrev both : Lengths → Lengths → Lengths
both y z = record { surface = y.surface + z.surface; core = y.core; declarations = y.declarations + z.declarations; work = y.work }

pub parsed_alike : (s : List ℕ) (y z : Lengths) → length s / 3 ≤ y.surface / 8 → length s / 17 ≤ y.declarations / 5
    → length s / 3 ≤ z.surface / 8 → length s / 17 ≤ z.declarations / 5 → y.work ≡ z.work → parsing s y start ≡ parsing s z start
parsed_alike s y z a b c d e =
    more_is_same s y (both y z) a b (omega arith) (omega arith) refl ∙ sym (more_is_same s z (both y z) c d (omega arith) (omega arith) (sym e))

-- Any tables against those of `ample`.
pub ample_ends : (s : List ℕ) (z : Lengths) → Ends (z.surface / 8) (z.declarations / 5) 0 (parsing s z start) (parsing s (ample s z.work) start)
ample_ends s z =
    let m = both z (ample s z.work) in
    subst (Ends (z.surface / 8) (z.declarations / 5) 0 (parsing s z start))
    (parsed_alike s m (ample s z.work) (omega arith) (omega arith) (omega arith) (omega arith) refl)
    (parsing_ends s z m refl (omega arith) (omega arith))

pub met_first_holds : MetFirst
met_first_holds s z ds q e = subst (Ends (z.surface / 8) (z.declarations / 5) 0 (parsing s z start)) e (ample_ends s z)
