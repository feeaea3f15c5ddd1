-- The struct of what the controller keeps of one bucket, as the rules know it, and what a step of it leaves. Assumes nothing.
use Rattle.std.specs.Prelude.{◌≡◌, Bool, true, false, List, [], ◌∷◌, ◌++◌, Some, None, vec_items, Option}
use Rattle.chain.specs.Kept.{control}
use Rattle.machine.specs.declared.sent.Sent.{Sent}
use Rattle.controller_bucket.specs.declared.kept.Bucket.{Bucket}
use Rattle.controller_bucket.specs.Rules.{Charge}

abbrev pub charge : Bucket → Charge
charge b = record { control = control b.chain; age = b.age; untold = vec_items b.untold; untold_age = b.untold_age; reported = b.reported }

abbrev pub listed : Option Sent → List Sent
listed None = []
listed (Some s) = s ∷ []

-- the rule's answer, what is left, what was to be sent before and after
abbrev pub Goes : List Sent × Charge → Charge → List Sent → List Sent → Type 0
Goes p after out out' = (after ≡ p.1) × (out' ≡ out ++ p.0)

-- the same where the rule may give none: that is not answered, and nothing changes
abbrev pub Answers : Option (List Sent × Charge) → Bool → Charge → Charge → List Sent → List Sent → Type 0
Answers None r was after out out' = (r ≡ false) × (after ≡ was) × (out' ≡ out)
Answers (Some p) r was after out out' = (r ≡ true) × Goes p after out out'
