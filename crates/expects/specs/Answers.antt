-- What the code answers where something must stand next: what was read, or the refusal.
use Rattle.std.specs.Prelude.{ℕ, Result}
use Rattle.token.specs.declared.Refusal.{Refusal}
use Rattle.token.specs.declared.Token.{Token}
use Rattle.expects.specs.declared.TermStart.{TermStart}
use Rattle.expects.specs.declared.ModuleHead.{ModuleHead}
use Rattle.expects.specs.declared.Format.{Format}

-- What a term begins with, and where reading goes on.
abbrev pub Begun : Type 0
Begun = Result TermStart Refusal

-- A declaration's name, and where reading goes on behind it.
abbrev pub NameRead : Type 0
NameRead = Result (Token × ℕ) Refusal

-- The format of a source by its version, and where reading goes on.
abbrev pub EditionRead : Type 0
EditionRead = Result (Format × ℕ) Refusal

-- The format, the module's name, and where reading goes on.
abbrev pub HeadRead : Type 0
HeadRead = Result ModuleHead Refusal
