-- What it knows after the news so far.
use Rattle.std.proofs.Common.{◌≡◌, take}
use Rattle.balancer.specs.Rules.{links_of, knows_all}
use Rattle.balancer.proofs.Balancer.told_all.Given as goal

abbrev pub invariant-loop-n : goal.invariant-loop-n
invariant-loop-n l = (links_of l.self ≡ knows_all (links_of l.initial.self) (take l.n-index l.news)) × (l.self.buckets ≡ l.initial.self.buckets)
