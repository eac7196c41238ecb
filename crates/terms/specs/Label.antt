-- What is kept of a term and of a declaration that is read: kinds, and places in the source.
use Rattle.std.specs.Prelude.{List, ℕ, take, drop}
use Rattle.std.proofs.Math.Option.{Option, none, some}
use Rattle.terms.specs.declared.Label as declared
use Rattle.terms.specs.Tree.{Forest, nil, Tree, tree, maybe, relabel_tree}

-- The bytes of a name or of a numeral.
abbrev pub Name : Type 0
Name = List ℕ

-- "an atom is handed on as a part of the source": so many bytes from a start on.
abbrev pub part : List ℕ → ℕ → ℕ → Name
part s start n = take n (drop start s)

-- A term: its kind, the start and length of its name, numeral or binder (0 and 0 where it has none), and its first byte's offset.
-- It is the record that the reader's code has.
abbrev pub Label : Type 0
Label = declared.Label

-- A declaration: "kind (postulate 1, transparent 2, opaque 3), name start, name length", its type, and its body if the kind has one.
pub record Declaration : Type 0 where
  pub kind : ℕ
  pub start : ℕ
  pub length : ℕ
  pub type : Tree Label
  pub body : Option (Tree Label)

-- The type, and behind it the body if there is one.
abbrev pub trees : Declaration → Forest Label
trees d = tree d.type (maybe d.body nil (λ b. tree b nil))

-- A term's kind, and the bytes of its name, numeral or binder.
pub record Named : Type 0 where
  pub kind : ℕ
  pub name : Name

abbrev pub Term : Type 0
Term = Tree Named

abbrev pub Terms : Type 0
Terms = Forest Named

pub record NamedDeclaration : Type 0 where
  pub kind : ℕ
  pub name : Name
  pub type : Term
  pub body : Option Term

-- The same with the bytes that stand in the source.
abbrev pub named : List ℕ → Label → Named
named s l = record { kind = l.kind; name = part s l.start l.length }

abbrev pub declared_name : List ℕ → Declaration → Name
declared_name s d = part s d.start d.length

abbrev pub named_declaration : List ℕ → Declaration → NamedDeclaration
named_declaration s d = record {
  kind = d.kind;
  name = declared_name s d;
  type = relabel_tree (named s) d.type;
  body = maybe d.body none (λ b. some (relabel_tree (named s) b));
}
