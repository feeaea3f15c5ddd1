-- Each row of the worked cases computes to what it says. Assumes nothing.
use Rattle.std.proofs.Common.{refl}
use Rattle.bucket.specs.Cases.{follow, AllHold, WorkedCases}

pub worked_cases : WorkedCases
unfolding follow AllHold
worked_cases = (refl, (refl, (refl, (refl, (refl, (refl, (refl, tt)))))))
