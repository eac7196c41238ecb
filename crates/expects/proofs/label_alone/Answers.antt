-- `expects::label_alone` meets its contract.
use Rattle.expects.proofs.label_alone.Goals as goal

pub returns : goal.returns
returns c = λ h. let d = c.narrow.ensures h in λ i. record { kind = c.args.kind; start = 0; length = 0; offset = d i }
