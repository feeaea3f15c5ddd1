-- A machine's step: what is sent and what is left of the machine, or a fault; want of memory and a fault change nothing. Assumes nothing.
use Rattle.std.specs.Prelude.{◌≡◌, List, ◌++◌, Ok, Err, Result}
use Rattle.fault.specs.declared.Fault.{Fault}
use Rattle.fault.specs.declared.Error.{Error}
use Rattle.fault.specs.declared.Error.TheVariants.{Of, Memory}
use Rattle.machine.specs.declared.sent.Sent.{Sent}

-- the rule's answer, the code's answer, the machine before and after, what was to be sent before and after
abbrev pub Did : {M : Type 0} → Result (List Sent × M) Fault → Result (Unit {0}) Error → M → M → List Sent → List Sent → Type 0
Did (Ok p) (Ok u) was after out out' = (after ≡ p.1) × (out' ≡ out ++ p.0)
Did (Ok p) (Err Memory) was after out out' = (after ≡ was) × (out' ≡ out)
Did (Ok p) (Err (Of g)) was after out out' = ⊥
Did (Err f) (Ok u) was after out out' = ⊥
Did (Err f) (Err Memory) was after out out' = (after ≡ was) × (out' ≡ out)
Did (Err f) (Err (Of g)) was after out out' = (g ≡ f) × (after ≡ was) × (out' ≡ out)
