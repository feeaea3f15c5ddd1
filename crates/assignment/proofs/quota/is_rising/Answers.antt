-- Each number is below the next, or one is not.
use Rattle.std.proofs.Common.{rules, ltb}
use Rattle.std.proofs.lemmas.List.Sorted.{answers_always}
use Rattle.assignment.proofs.Servers.{rises_is}
use Rattle.assignment.proofs.quota.is_rising.Goals as goal

pub returns : goal.returns
returns c = rises_is c.args.servers.now _ (c.is_sorted_by.ensures.cases ltb (answers_always _ _ _ (λ f a r g h. search rules)))
