-- The worked cases, computed. Assumes nothing.
use Rattle.std.proofs.Common.{refl}
use Rattle.assignment.specs.Rule.{rebalanced}
use Rattle.assignment.specs.Laws.{WorkedCases}

pub worked_cases : WorkedCases
unfolding rebalanced
worked_cases = ((refl, refl, refl), ((refl, refl, refl), ((refl, refl, refl), tt)))
