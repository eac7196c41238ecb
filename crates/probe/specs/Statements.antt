-- What the three numbers of the token function say; probe/proofs/Statements.antt has the proof.
use Rattle.std.specs.Prelude.{◌≡◌, List, [], ◌∷◌, ℕ, zero, suc}
use Rattle.token.specs.Token.{next_token}
use Rattle.surface.specs.Reports.{Report, accepted, report_token}
use Rattle.probe.specs.Numbers.{kind_number, start_number, end_number}

-- 0 for a refused byte, which is "malformed, with offset: that byte's", else a token's kind.
abbrev pub told : ℕ → ℕ → ℕ → Report
told zero start end = record { number = 1; values = start ∷ [] }
told (suc k) start end = accepted (suc k ∷ start ∷ end ∷ [])

-- "The promises use that definition": they are the number and values of the answer.
abbrev pub TokenReports : Type 0
TokenReports =
    (s : List ℕ) (at : ℕ)
    → report_token (next_token s at) ≡ told (kind_number (next_token s at)) (start_number (next_token s at)) (end_number (next_token s at))
