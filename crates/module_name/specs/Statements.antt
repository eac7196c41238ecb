-- Statements about the answer of `head`, each as a type; module_name/proofs/Statements.antt has a proof of each.
use Rattle.token.specs.Refusals.{number}
use Rattle.token.specs.declared.Class.{Class}
use Rattle.std.specs.Prelude.{◌≡◌, ◌↔◌, List, [], Bool, true, ◌||◌, ℕ, ◌-◌, ◌≤◌, eqb, length, take, get_or, Err, Ok}
use Rattle.token.specs.Token.{next_token}
use Rattle.token.specs.declared.Token.{Token}
use Rattle.token.specs.declared.Refusal.{Refusal}
use Rattle.surface.specs.Grammar.{Derives, Closes}
use Rattle.terms.specs.Label.{Declaration}
use Rattle.surface.specs.Reader.{Position, start, done}
use Rattle.surface.specs.Reading.{Head, head}
use Rattle.surface.specs.Tables.{Lengths, ample}
use Rattle.surface.specs.SameCore.{Accepts}
use Rattle.surface.specs.Loading.{load}
use Rattle.module_name.specs.Answer.{ModuleName, named_at}
use Rattle.module_name.specs.ModuleName.{module_name, report_module_name}

-- "would be accepted by itself, given enough storage": there are table lengths with which loading accepts it.
abbrev pub WouldBeAccepted : List ℕ → Type 0
WouldBeAccepted s = (z : Lengths) × Accepts (load s z)

-- "the shortest beginning of the source that would be accepted by itself": it has n bytes.
pub record Shortest (s : List ℕ) (n : ℕ) : Type 0 where
  pub within : n ≤ length s
  pub accepted : WouldBeAccepted (take n s)
  pub least : (m : ℕ) → WouldBeAccepted (take m s) → n ≤ m

-- The name in a source: that of the module which the grammar derives.
pub record NameIn (s : List ℕ) (start length : ℕ) : Type 0 where
  pub declarations : List Declaration
  pub derives : Derives s declarations
  pub starts : start ≡ derives.name.start
  pub long : length ≡ derives.name.end - derives.name.start

-- "gives the name in the shortest beginning of the source that would be accepted by itself"
abbrev pub NameOfShortest : Type 0
NameOfShortest = (s : List ℕ) (a l : ℕ) → (module_name s ≡ named_at a l) ↔ ((n : ℕ) × Shortest s n × NameIn (take n s) a l)

-- "If no such beginning exists, the answer is the refusal of the whole source", with whatever tables and a work area: 11 is about a table that
-- `head` is not lent.
abbrev pub NoBeginning : List ℕ → Type 0
NoBeginning s = (m : ℕ) → WouldBeAccepted (take m s) → ⊥

abbrev pub WholeRefused : List ℕ → Refusal → Type 0
WholeRefused s r = (z : Lengths) → 16384 ≤ z.work → (load s z).answer ≡ Err r

abbrev pub RefusalOfWhole : Type 0
RefusalOfWhole = (s : List ℕ) (r : Refusal) → (module_name s ≡ Err r) ↔ (NoBeginning s × WholeRefused s r)

-- "that beginning ends at the module line's parenthesis": the token behind the name closes, and ends there.
pub record EndsAtParenthesis (s : List ℕ) (n : ℕ) : Type 0 where
  pub declarations : List Declaration
  pub derives : Derives (take n s) declarations
  pub none : declarations ≡ []
  pub parenthesis : Token
  pub next : next_token s derives.name.end ≡ Ok parenthesis
  pub closes : Closes parenthesis
  pub last : parenthesis.end ≡ n
  pub byte : get_or s (n - 1) 0 ≡ 41

abbrev pub EndsThere : Type 0
EndsThere = (s : List ℕ) (n : ℕ) → Shortest s n → EndsAtParenthesis s n

-- "nothing behind it is looked at": a source that begins so has the same answer, whatever follows.
abbrev pub NothingBehind : Type 0
NothingBehind = (s r : List ℕ) (n : ℕ) → Shortest s n → take n r ≡ take n s → module_name r ≡ module_name s

-- "only 1, 2, 3 and 6 occur"
abbrev pub head_refusal : Class → Bool
head_refusal k = let c : ℕ = number k in eqb c 1 || (eqb c 2 || (eqb c 3 || eqb c 6))

abbrev pub OnlyThese : Type 0
OnlyThese = (s : List ℕ) (r : Refusal) → module_name s ≡ Err r → head_refusal r.class ≡ true

-- "For every file that loads, the name equals the one that loading reads": the `Head.name` with which reading begins.
abbrev pub NameAsLoaded : Type 0
NameAsLoaded =
    (s : List ℕ) (z : Lengths) → Accepts (load s z)
    → (h : Head) × (p : Position) × (head s start ≡ done h p) × (module_name s ≡ named_at h.name.start (h.name.end - h.name.start))

-- A name that a beginning gives is the source's, so a program may ask with what it has read of a file.
abbrev pub NameOfBeginning : Type 0
NameOfBeginning = (s : List ℕ) (n a l : ℕ) → module_name (take n s) ≡ named_at a l → module_name s ≡ named_at a l

-- 65,536 bytes are enough to ask with, for a refusal too.
abbrev pub FirstBytes : Type 0
FirstBytes = (s : List ℕ) (n : ℕ) → 65536 ≤ n → module_name (take n s) ≡ module_name s

-- No two answers have the same number and values, so that these say all of the answer.
abbrev pub NameTells : Type 0
NameTells = (a b : ModuleName) → report_module_name a ≡ report_module_name b → a ≡ b

-- What loading accepts with some tables it accepts with those of `ample`.
abbrev pub AmpleIsEnough : Type 0
AmpleIsEnough = (s : List ℕ) → WouldBeAccepted s → Accepts (load s (ample s 16384))
