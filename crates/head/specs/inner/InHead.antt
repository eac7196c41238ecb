-- What is found in a head that was read.
use Rattle.token.specs.declared.Class.{Class}
use Rattle.std.specs.Prelude.{List, cond, ℕ, ◌-◌, eqb, take, Err}
use Rattle.utf8.specs.Utf8.{valid_length}
use Rattle.surface.specs.Reader.{Result, done, refused, at_offset}
use Rattle.surface.specs.Reading.{Head}
use Rattle.module_name.specs.Answer.{ModuleName, named_at}

-- Its name, if the beginning that ends with it is UTF-8; else where that breaks.
abbrev pub in_head : List ℕ → Result Head → ModuleName
in_head s (done h p) =
    let n = valid_length (take p.offset s) in
    cond (eqb n p.offset) (named_at h.name.start (h.name.end - h.name.start)) (Err (at_offset Class.Malformed n))
in_head s (refused r) = Err r
