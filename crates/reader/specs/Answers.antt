-- The answers of reading declarations and modules: what was read, or the refusal.
use Rattle.std.specs.Prelude.{ℕ, Result, Ok}
use Rattle.token.specs.declared.Refusal.{Refusal}
use Rattle.surface.specs.Answer.{Answer}
use Rattle.reader.specs.declared.ReadDeclaration.{ReadDeclaration}
use Rattle.reader.specs.declared.ModuleStep.{ModuleStep}
use Rattle.reader.specs.declared.AllDeclarations.{AllDeclarations}
use Rattle.reader.specs.declared.ModuleSize.{ModuleSize}

-- A declaration: how many rows are stored, where reading goes on, and how many frames were open at most.
abbrev pub DeclarationRead : Type 0
DeclarationRead = Result ReadDeclaration Refusal

abbrev pub declaration_read : (rows next frames : ℕ) → DeclarationRead
declaration_read rows next frames = Ok (record { rows = rows; next = next; frames = frames })

-- What stands next in a module.
abbrev pub Stepped : Type 0
Stepped = Result ModuleStep Refusal

abbrev pub declaration_step : (rows next frames : ℕ) → Stepped
declaration_step rows next frames = Ok (ModuleStep.Declared (record { rows = rows; next = next; frames = frames }))

abbrev pub end_step : ℕ → Stepped
end_step next = Ok (ModuleStep.End next)

-- Declarations: how many rows and declarations are stored, where reading goes on, and how many frames were open at most in one term.
abbrev pub DeclarationsRead : Type 0
DeclarationsRead = Result AllDeclarations Refusal

abbrev pub declarations_read : (rows declarations next frames : ℕ) → DeclarationsRead
declarations_read rows declarations next frames = Ok (record { rows = rows; declarations = declarations; next = next; frames = frames })

-- A module: how many rows and declarations it has, and how many frames were open at most in one term.
abbrev pub ModuleMeasured : Type 0
ModuleMeasured = Result ModuleSize Refusal

abbrev pub measured : (rows declarations frames : ℕ) → ModuleMeasured
measured rows declarations frames = Ok (record { rows = rows; declarations = declarations; frames = frames })

-- A module, where the frames are not told.
abbrev pub ModuleRead : Type 0
ModuleRead = Answer
