-- The handovers are those of the rule.
use Rattle.std.proofs.Common.{◌∙◌, arith}
use Rattle.std.proofs.lemmas.Bool.Decides.{nat_tests}
use Rattle.assignment.proofs.Handovers.{moves_numbered}
use Rattle.assignment.proofs.moves.moves.Goals as goal

pub returns : goal.returns
returns c = (grind (arith, nat_tests), c.in_ok-handovers.ensures ∙ moves_numbered 0 c.args.old.now c.args.new.now (omega arith))
