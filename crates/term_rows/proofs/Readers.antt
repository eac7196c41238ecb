-- What is asked of the readers that terms are read with, and that those of every format have it.
use mathlib.Core.Path.{◌≡◌}
use mathlib.Core.List.{List}
use Prim.Native.Nat.{ℕ, ◌≤◌}
use Rattle.token.specs.declared.Token.{Token}
use Rattle.terms.specs.Forms.{arity_of}
use Rattle.terms.specs.Label.{Label}
use Rattle.surface.specs.Reader.{Position, done, Reader}
use Rattle.surface.specs.Reading.{Beginning, frame, beginning, closing}
use Rattle.expects.specs.declared.Format.{Format}
use Rattle.expects.specs.Formats.{edition}
use Rattle.expects.proofs.Ahead.{source, Ahead, behind, closing_got}
use Rattle.expects.proofs.Beginnings.{beginning_got}

-- Each form that opens a frame has the arguments of its kind, and at least one.
abbrev pub Arities : Reader Beginning → Type 0
Arities begin = (p q : Position) (l : Label) (n : ℕ) → begin p ≡ done (frame l n) q → (n ≡ arity_of l.kind) × (1 ≤ n)

-- Each goes ahead within the source.
pub record Sound (s : List ℕ) (begin : Reader Beginning) (close : Reader Token) : Type 0 where
  pub begins : (p q : Position) (b : Beginning) → begin p ≡ done b q → Ahead s p q
  pub closes : (p q : Position) (c : Token) → close p ≡ done c q → Ahead s p q
  pub arities : Arities begin

-- The readers of a format's terms.
pub format_sound : (f : Format) (s : List ℕ) → Sound s (beginning (edition f) s) (closing ((edition f).tokens s))
format_sound f s = record {
  begins = λ p q b e. (beginning_got f s p b q e).ahead;
  closes = λ p q c e. behind (source f s) p c q (closing_got (source f s) p c q e);
  arities = λ p q l n e. let a = (beginning_got f s p (frame l n) q e).labelled in (a.of_kind, a.low);
}
