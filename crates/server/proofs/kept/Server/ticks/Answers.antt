-- Room for all that is said is made first.
use Rattle.std.proofs.Common.{length, ap, arith}
use Rattle.flow.proofs.Powers.{counted}
use Rattle.sessions.proofs.Laws.{sound}
use Rattle.server.specs.Kept.{sessions_of}
use Rattle.server.proofs.Ticked.{idle_few}
use Rattle.server.proofs.kept.Server.ticks.Goals as goal

pub collect-requires : goal.collect-requires
collect-requires c =
    let was = c.args.self.now in
    let b = counted was.buckets.count was.buckets.ok in
    let i = idle_few c.now.result (sessions_of was) in
    let l = ap length c.in_ok-names.ensures in
    (omega (arith, c.as_slice.ensures.len, was.one_each, b.1), omega (arith, c.len.ensures, c.in_ok-names.names.ok.0, l, i, (sound was.sessions).few))
