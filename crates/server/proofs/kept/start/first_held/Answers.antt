-- One bucket more.
use Rattle.std.proofs.Common.{◌≡◌, length, vec_items, arith}
use Rattle.server.proofs.Started.{first_none, last_put, first_more}
use Rattle.server.proofs.kept.start.first_held.Goals as goal

pub loop-server-init : goal.loop-server-init
loop-server-init c = first_none c.args.number (vec_items c.new-held.result) c.new-held.ensures.items

pub loop-server-preserved : goal.loop-server-preserved
loop-server-preserved c =
    let bs = vec_items c.loop-server.held in
    let at : c.len-last.result ≡ length bs = omega (arith, c.len-last.ensures, c.loop-server.held.ok.0) in
    first_more c.args.number c.loop-server.server-index c.args.assignment.now bs _ c.first.new.bucket (omega arith)
    (last_put bs _ c.len-last.result c.new.result c.first.new.bucket c.in_ok-push.ensures.items at) c.first.ensures c.loop-server.invariant
