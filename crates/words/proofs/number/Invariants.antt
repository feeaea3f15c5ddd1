-- The digits that are left give the number.
use Rattle.std.proofs.Common.{◌≡◌, drop}
use Rattle.words.specs.Words.{digits_from}
use Rattle.words.proofs.number.Given as goal

abbrev pub invariant-loop-digit : goal.invariant-loop-digit
invariant-loop-digit l = digits_from l.n (drop l.digit-index l.digits) ≡ digits_from 0 l.digits
