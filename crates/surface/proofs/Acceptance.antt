-- Which sources are read and loaded: well-formed UTF-8 without the mark, within the limits, and a module by the grammar.
use mathlib.Core.Path.{◌≡◌, refl, sym, ap, ◌∙◌, subst}
use mathlib.Core.Logic.{◌↔◌}
use mathlib.Core.List.{List, []}
use mathlib.Core.Option.{Option, none, some}
use mathlib.Core.Bool.{not}
use Prim.Native.Nat.{ℕ, ◌/◌, ◌≤◌}
use native.Mathlib.Omega.{arith}
use lib.Dec.{leb, eqb}
use borrow.Author.Tests.{leb-true, le-leb, eqb-true, eq-eqb, not-true}
use lib.ListN.{length, take}
use lib.Seq.{take-length}
use Rattle.utf8.specs.Utf8.{valid_length, byte_order_mark, WellFormed}
use Rattle.utf8.proofs.Longest.{valid_is_whole, valid_is_longest}
use Rattle.terms.specs.Label.{Declaration}
use Rattle.terms.specs.Resolution.{RefusedName, first_refused}
use Rattle.terms.proofs.Widths.{total, total_surface}
use Rattle.surface.specs.Reader.{Position, start, done, after}
use Rattle.surface.specs.Loading.{Lengths, frame_limit, parsing, reading, accept, loading}
pub use Rattle.surface.specs.Statements.{Readable, Enough, ReadsExactly, LoadsExactly}
use Rattle.surface.proofs.Steps.{no_done, after_elim, require_elim, done_as}
use Rattle.surface.proofs.Takes.{after_go, require_go}
use Rattle.surface.proofs.SoundModule.{sound}
use Rattle.surface.proofs.CompleteModule.{complete}

-- All of a source is UTF-8 exactly if its longest valid beginning is as long as it is.
pub whole_valid : (s : List ℕ) → (valid_length s ≡ length s) ↔ WellFormed s
whole_valid s = (
  λ e. subst WellFormed (ap (λ (n : ℕ). take n s) e ∙ take-length s) (valid_is_whole s).1,
  λ w. omega (arith, (valid_is_whole s).0, valid_is_longest s (length s) (omega arith) (subst WellFormed (sym (take-length s)) w)),
)

-- What is known of a source that is parsed, whatever the core table's length.
pub record IsParsed (s : List ℕ) (z : Lengths) (ds : List Declaration) (q : Position) : Type 0 where
  pub readable : Readable s ds
  pub surface : total 0 ds ≤ z.surface / 8
  pub declarations : length ds ≤ z.declarations / 5
  pub work : 16384 ≤ z.work
  pub rows : q.rows ≡ total 0 ds

pub is_parsed : (s : List ℕ) (z : Lengths) (ds : List Declaration) (q : Position) → parsing s z start ≡ done ds q → IsParsed s z ds q
unfolding parsing
is_parsed s z ds q e =
    require_elim _ _ _ _ ds q e (λ a e₁.
    require_elim _ _ _ _ ds q e₁ (λ b e₂.
    require_elim _ _ _ _ ds q e₂ (λ c e₃.
    require_elim _ _ _ _ ds q e₃ (λ d e₄.
    let m = sound s (z.surface / 8) (z.declarations / 5) frame_limit ds q e₄ in
    record {
      readable = record {
        short = leb-true (length s) 65535 b;
        well_formed = (whole_valid s).0 (eqb-true _ _ c);
        unmarked = not-true (byte_order_mark s) d;
        derives = m.derives;
        shallow = omega (arith, m.shallow);
      };
      surface = omega (arith, m.rows, m.few_rows);
      declarations = m.few_declarations;
      work = leb-true 16384 z.work a;
      rows = m.rows;
    }))))

pub record IsRead (s : List ℕ) (z : Lengths) (ds : List Declaration) (q : Position) : Type 0 where
  pub readable : Readable s ds
  pub enough : Enough z ds
  pub rows : q.rows ≡ total 0 ds

pub is_read : (s : List ℕ) (z : Lengths) (ds : List Declaration) (q : Position) → reading s z start ≡ done ds q → IsRead s z ds q
unfolding reading
is_read s z ds q e =
    after_elim (parsing s z start) _ ds q e (λ es p f e₁.
    require_elim (leb p.rows (z.core / 8)) _ p _ ds q e₁ (λ g e₂.
    let m = is_parsed s z es p f in
    done_as (IsRead s z) e₂ (record {
      readable = m.readable;
      enough = record {
        surface = omega (arith, m.surface, total_surface 0 es);
        core = omega (arith, m.rows, leb-true p.rows (z.core / 8) g, total_surface 0 es);
        declarations = m.declarations;
        work = m.work;
      };
      rows = m.rows;
    })))

pub reads : (s : List ℕ) (z : Lengths) (ds : List Declaration) → Readable s ds → Enough z ds → (q : Position) × (reading s z start ≡ done ds q)
unfolding reading parsing
reads s z ds r e =
    let g = complete s (z.surface / 8) (z.declarations / 5) frame_limit ds r.derives e.declarations (omega (arith, r.shallow)) (omega (arith, e.surface, total_surface 0 ds)) in
    let f : parsing s z start ≡ done ds g.position =
    require_go (leb 16384 z.work) _ start _ _ (le-leb 16384 z.work e.work)
    (require_go (leb (length s) 65535) _ start _ _ (le-leb (length s) 65535 r.short)
    (require_go (eqb (valid_length s) (length s)) _ start _ _ (eq-eqb _ _ ((whole_valid s).1 r.well_formed))
    (require_go (not (byte_order_mark s)) _ start _ _ (ap not r.unmarked) g.reads))) in (
      g.position,
      after_go (parsing s z start) _ ds g.position _ f
          (require_go (leb g.position.rows (z.core / 8)) _ g.position _ _ (le-leb g.position.rows (z.core / 8) (omega (arith, g.rows, e.core, total_surface 0 ds))) refl),
    )

pub reads_exactly : ReadsExactly
reads_exactly s z ds = (
  λ h. let w = is_read s z ds h.0 h.1 in (w.readable, w.enough),
  λ h. reads s z ds h.0 h.1,
)

-- Loading asks besides that no name is refused.
pub record IsLoaded (s : List ℕ) (z : Lengths) (ds : List Declaration) (q : Position) : Type 0 where
  pub read : reading s z start ≡ done ds q
  pub names : first_refused s [] ds ≡ none

accept_elim : {P : Type 0} (o : Option RefusedName) (p : Position) (ds es : List Declaration) (q : Position)
    → after (accept o p) (λ _ r. done ds r) ≡ done es q → (o ≡ none → done ds p ≡ done es q → P) → P
accept_elim none p ds es q e k = k refl e
accept_elim (some c) p ds es q e k = no_done e

pub is_loaded : (s : List ℕ) (z : Lengths) (ds : List Declaration) (q : Position) → loading s z start ≡ done ds q → IsLoaded s z ds q
unfolding loading
is_loaded s z ds q e =
    after_elim (reading s z start) _ ds q e (λ es p f e₁.
    accept_elim (first_refused s [] es) p es ds q e₁ (λ n e₂.
    done_as (IsLoaded s z) e₂ (record { read = f; names = n })))

pub loads : (s : List ℕ) (z : Lengths) (ds : List Declaration) (q : Position) → IsLoaded s z ds q → loading s z start ≡ done ds q
unfolding loading
loads s z ds q h = after_go _ _ ds q _ h.read (ap (λ (o : Option RefusedName). after (accept o q) (λ _ r. done ds r)) h.names)

pub loads_exactly : LoadsExactly
loads_exactly s z ds = (
  λ h. let a = is_loaded s z ds h.0 h.1 in
      let w = is_read s z ds h.0 a.read in
      (w.readable, w.enough, a.names),
  λ h. let w = reads s z ds h.0 h.1 in (w.0, loads s z ds w.0 (record { read = w.1; names = h.2 })),
)
