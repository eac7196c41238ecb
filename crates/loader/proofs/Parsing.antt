-- Parsing and loading, test by test.
use Rattle.std.specs.Prelude.{Err}
use Rattle.token.specs.declared.Class.{Class}
use mathlib.Core.Path.{◌≡◌, refl, sym, ap, subst}
use mathlib.Core.Bool.{true, false, not}
use mathlib.Core.List.{List, []}
use mathlib.Core.Option.{Option}
use Prim.Native.Nat.{ℕ, ◌/◌, ◌≤◌, ◌<◌}
use lib.ListN.{length}
use borrow.Author.Tests.{le-leb, lt-leb, eq-eqb, ne_eqb}
use Rattle.token.specs.declared.Refusal.{Refusal}
use Rattle.utf8.specs.Utf8.{valid_length, byte_order_mark}
use Rattle.terms.specs.Label.{Declaration}
use Rattle.terms.specs.Resolution.{RefusedName, first_refused}
use Rattle.surface.specs.Reader.{Position, start, Result, done, refused, after, nowhere, at_offset}
use Rattle.surface.specs.Reading.{read_module}
use Rattle.surface.specs.Loading.{Lengths, frame_limit, parsing, reading, accept, loading}
use Rattle.surface.proofs.Takes.{require_go, require_stops}
use Rattle.reader.specs.Reads.{ReadsModule}
use Rattle.reader.specs.Answers.{ModuleRead}

module _ (s : List ℕ) (z : Lengths) where
  pub parse_area : z.work < 16384 → parsing s z start ≡ refused (nowhere Class.WorkShort)
  unfolding parsing
  parse_area h = require_stops _ _ _ _ (lt-leb 16384 z.work h)

  module _ (area : 16384 ≤ z.work) where
    pub parse_long : 65535 < length s → parsing s z start ≡ refused (nowhere Class.LongSource)
    unfolding parsing
    parse_long h = require_go _ _ _ _ _ (le-leb 16384 z.work area) (require_stops _ _ _ _ (lt-leb (length s) 65535 h))

    module _ (short : length s ≤ 65535) where
      pub parse_broken : (valid_length s ≡ length s → ⊥) → parsing s z start ≡ refused (at_offset Class.Malformed (valid_length s))
      unfolding parsing
      parse_broken h =
          require_go _ _ _ _ _ (le-leb 16384 z.work area)
          (require_go _ _ _ _ _ (le-leb (length s) 65535 short) (require_stops _ _ _ _ (ne_eqb (valid_length s) (length s) h)))

      module _ (valid : valid_length s ≡ length s) where
        pub parse_marked : byte_order_mark s ≡ true → parsing s z start ≡ refused (at_offset Class.Malformed 0)
        unfolding parsing
        parse_marked h =
            require_go _ _ _ _ _ (le-leb 16384 z.work area)
            (require_go _ _ _ _ _ (le-leb (length s) 65535 short)
            (require_go _ _ _ _ _ (eq-eqb (valid_length s) (length s) valid) (require_stops _ _ _ _ (ap not h))))

        pub parse_module : byte_order_mark s ≡ false
            → parsing s z start ≡ read_module s (z.surface / 8) (z.declarations / 5) frame_limit start
        unfolding parsing
        parse_module h =
            require_go _ _ _ _ _ (le-leb 16384 z.work area)
            (require_go _ _ _ _ _ (le-leb (length s) 65535 short)
            (require_go _ _ _ _ _ (eq-eqb (valid_length s) (length s) valid) (require_go _ _ _ _ _ (ap not h) refl)))

  -- Loading, from what parsing gives.
  pub load_refused : (r : Refusal) → parsing s z start ≡ refused r → loading s z start ≡ refused r
  unfolding loading reading
  load_refused r e = rw (e, after)

  module _ (ds : List Declaration) (q : Position) (e : parsing s z start ≡ done ds q) where
    pub load_short : z.core / 8 < q.rows → loading s z start ≡ refused (nowhere Class.CoreShort)
    unfolding loading reading
    load_short h = rw (e, lt-leb q.rows (z.core / 8) h)

    pub load_names : q.rows ≤ z.core / 8 → (o : Option RefusedName) → first_refused s [] ds ≡ o
        → loading s z start ≡ after (accept o q) (λ _ p. done ds p)
    unfolding loading reading
    load_names h o f = rw (e, le-leb q.rows (z.core / 8) h, f)

-- The answer of a reader that refuses, and of one that gives what another gives.
module _ (o : Result (List Declaration)) (table list : List ℕ) (r : ModuleRead) (table₁ list₁ : List ℕ) where
  pub stops : (x : Refusal) → o ≡ refused x → r ≡ Err x → ReadsModule o table list r table₁ list₁
  stops x e f = subst (λ (y : Result (List Declaration)). ReadsModule y table list r table₁ list₁) (sym e) f

  pub same_reads : (y : Result (List Declaration)) → o ≡ y → ReadsModule y table list r table₁ list₁ → ReadsModule o table list r table₁ list₁
  same_reads y e h = subst (λ (y : Result (List Declaration)). ReadsModule y table list r table₁ list₁) (sym e) h
