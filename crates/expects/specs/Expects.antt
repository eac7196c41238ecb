-- What must stand next: the answers of the code beside the readers of `surface`.
use Rattle.expects.specs.declared.TermStart.{TermStart}
use Rattle.expects.specs.Answers.{Begun, NameRead, HeadRead}
use Rattle.token.specs.Token.{Lexed}
use Rattle.std.specs.Prelude.{◌≡◌, List, ℕ, ◌≤◌, length, Ok, Err}
use Rattle.token.specs.declared.Token.{Token}
use Rattle.terms.specs.Forms.{Edition, arity_of}
use Rattle.surface.specs.Reader.{Position, Result, done, refused, Reader}
use Rattle.surface.specs.Reading.{Beginning, leaf, frame, lexed, beginning, Head, head}
use Rattle.expects.specs.declared.Format.{Format}
use Rattle.expects.specs.Formats.{edition, declared_name}

abbrev pub position_at : ℕ → ℕ → Position
position_at at n = record { offset = at; rows = n }

-- r is what a reader of one token gives at an offset, however many rows are stored.
abbrev pub Reads : Reader Token → ℕ → Lexed → Type 0
Reads reader at r = (n : ℕ) → reader (position_at at n) ≡ lexed n r

-- What a term begins with, behind which reading goes on; or the refusal. A frame has as many arguments as its kind.
abbrev pub begun : ℕ → Begun → Result Beginning
begun n (Ok (TermStart.Leaf l next)) = done (leaf l) (position_at next n)
begun n (Ok (TermStart.Frame l next)) = done (frame l (arity_of l.kind)) (position_at next n)
begun n (Err r) = refused r

-- r is what a term begins with at an offset of a source that is not too long for 32-bit words.
abbrev pub Begins : Edition → List ℕ → ℕ → Begun → Type 0
Begins E s at r = length s ≤ 4294967295 → (n : ℕ) → beginning E s (position_at at n) ≡ begun n r

-- A declaration's name, and where reading goes on behind it; or the refusal.
abbrev pub name_read : ℕ → NameRead → Result Token
name_read n (Ok x) = done x.0 (position_at x.1 n)
name_read n (Err r) = refused r

-- r is what a reader of a name gives at an offset, and where reading goes on.
abbrev pub ReadsName : Reader Token → ℕ → NameRead → Type 0
ReadsName reader at r = (n : ℕ) → reader (position_at at n) ≡ name_read n r

-- r is the name of a declaration at an offset.
abbrev pub Names : Format → List ℕ → ℕ → NameRead → Type 0
Names f s at r = ReadsName (declared_name f s) at r

-- The format's edition, the module's name, and where reading goes on behind the head; or the refusal.
abbrev pub head_read : ℕ → HeadRead → Result Head
head_read n (Ok h) = done (record { edition = edition h.format; name = h.name }) (position_at h.next n)
head_read n (Err r) = refused r

-- r is the head at the beginning of a source.
abbrev pub Heads : List ℕ → HeadRead → Type 0
Heads s r = (n : ℕ) → head s (position_at 0 n) ≡ head_read n r
