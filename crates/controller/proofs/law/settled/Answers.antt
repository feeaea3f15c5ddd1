-- The law.
use Rattle.controller.proofs.Settle.{first_settled, told_settled, heard_settled, added_settled, removed_settled, ticked_settled, settled_steady}
use Rattle.controller.proofs.law.settled.Goals as goal

pub returns : goal.returns
returns c =
    record { first = first_settled; told = told_settled; heard = heard_settled; added = added_settled; removed = removed_settled; ticked = ticked_settled; steady = settled_steady }
