-- Those below, the server, those above.
use Rattle.std.proofs.Common.{sym, arith}
use Rattle.roster.proofs.Walk.{below_is, above_is}
use Rattle.roster.proofs.list.with_server.Goals as goal

pub returns : goal.returns
returns c =
    let ss = c.args.servers.now in
    let s = c.args.server in
    rw (sym (below_is s ss), sym (above_is s ss (λ i. omega (arith, c.type_inv.servers i)))) c.around.ensures
