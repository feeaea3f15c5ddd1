-- No more are counted than there are.
use Rattle.std.proofs.Common.{rules, arith, ◌^◌, ◌<◌}
use Rattle.std.proofs.lemmas.List.Sums.{count_by-le-length}
use Rattle.std.specs.Prelude.{◌==◌}
use Rattle.stage.specs.Opened.{opened, count_at}
use Rattle.stage.proofs.session.Sessions.count.Goals as goal

pub sum-requires-clause-fits : goal.sum-requires-clause-fits
sum-requires-clause-fits c =
    let at_most = count_by-le-length (λ s. s.at.server == c.args.server) (opened c.args.self.now) in
    let fits : count_at c.args.server (opened c.args.self.now) < 2 ^ 64 = omega (arith, at_most, c.args.self.now.«open».ok.0) in
    search rules
