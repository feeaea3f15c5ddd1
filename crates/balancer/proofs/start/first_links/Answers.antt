-- One more bucket's place 1.
use Rattle.std.proofs.Common.{◌<◌, length, ap, ◌∙◌, arith, rules}
use Rattle.std.proofs.lemmas.List.{take_all}
use Rattle.balancer.specs.Rules.{first_links}
use Rattle.balancer.proofs.Servers.{servers_at, links_more}
use Rattle.balancer.proofs.start.first_links.Goals as goal

pub loop-number-preserved : goal.loop-number-preserved
loop-number-preserved c =
    let here : c.loop-number.number-index < length c.args.servers.now = omega arith in
    let l = links_more c.args.servers.now c.loop-number.number-index here in
    let p = c.in_ok-push.ensures.items in
    let i = c.loop-number.invariant in
    cc

pub returns : goal.returns
returns c = c.loop-number.invariant ∙ ap first_links (take_all c.loop-number.number-index c.args.servers.now (omega arith))

pub overflow_cast-server : goal.overflow_cast-server
overflow_cast-server c =
    let small = servers_at c.args.servers.now c.loop-number.number-index (omega arith) c.requires in
    search rules
