-- Reading a core text, test by test.
use Rattle.token.specs.declared.Class.{Class}
use mathlib.Core.Path.{◌≡◌, refl, ap}
use mathlib.Core.Bool.{true, false, not}
use mathlib.Core.List.{List, []}
use Prim.Native.Nat.{ℕ, ◌/◌, ◌≤◌, ◌<◌}
use lib.ListN.{length}
use borrow.Author.Tests.{le-leb, lt-leb, eq-eqb, ne_eqb}
use Rattle.utf8.specs.Utf8.{valid_length, byte_order_mark}
use Rattle.terms.specs.Label.{Declaration}
use Rattle.surface.specs.Reader.{start, refused, Reader, after, ◌>>◌, pure, require, nowhere, at_offset}
use Rattle.surface.specs.Tables.{Lengths}
use Rattle.surface.specs.Loading.{frame_limit}
use Rattle.surface.proofs.Takes.{require_go, require_stops}
use Rattle.core_text.specs.TextReading.{read_text}
use Rattle.core_module.specs.CoreText.{told, repeated, reading_text}

-- The test of the names.
abbrev pub tested : List ℕ → List Declaration → Reader (List Declaration)
tested t ds = require (not (repeated t [] ds)) (at_offset Class.CoreText 0) >> pure ds

module _ (t : List ℕ) (z : Lengths) where
  pub text_area : z.work < 16384 → reading_text t z start ≡ refused (nowhere Class.WorkShort)
  unfolding reading_text
  text_area h = require_stops _ _ _ _ (lt-leb 16384 z.work h)

  module _ (area : 16384 ≤ z.work) where
    pub text_long : 4294967295 < length t → reading_text t z start ≡ refused (nowhere Class.LongSource)
    unfolding reading_text
    text_long h = require_go _ _ _ _ _ (le-leb 16384 z.work area) (require_stops _ _ _ _ (lt-leb (length t) 4294967295 h))

    module _ (short : length t ≤ 4294967295) where
      pub text_broken : (valid_length t ≡ length t → ⊥) → reading_text t z start ≡ refused (at_offset Class.CoreText (valid_length t))
      unfolding reading_text
      text_broken h =
          require_go _ _ _ _ _ (le-leb 16384 z.work area)
          (require_go _ _ _ _ _ (le-leb (length t) 4294967295 short) (require_stops _ _ _ _ (ne_eqb (valid_length t) (length t) h)))

      module _ (valid : valid_length t ≡ length t) where
        pub text_marked : byte_order_mark t ≡ true → reading_text t z start ≡ refused (at_offset Class.CoreText 0)
        unfolding reading_text
        text_marked h =
            require_go _ _ _ _ _ (le-leb 16384 z.work area)
            (require_go _ _ _ _ _ (le-leb (length t) 4294967295 short)
            (require_go _ _ _ _ _ (eq-eqb (valid_length t) (length t) valid) (require_stops _ _ _ _ (ap not h))))

        pub text_whole : byte_order_mark t ≡ false
            → reading_text t z start ≡ after (told (read_text t (z.core / 8) (z.declarations / 5) frame_limit start)) (tested t)
        unfolding reading_text
        text_whole h =
            require_go _ _ _ _ _ (le-leb 16384 z.work area)
            (require_go _ _ _ _ _ (le-leb (length t) 4294967295 short)
            (require_go _ _ _ _ _ (eq-eqb (valid_length t) (length t) valid) (require_go _ _ _ _ _ (ap not h) refl)))
