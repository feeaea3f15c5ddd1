-- One server more.
use Rattle.std.proofs.Common.{vec_items, ap, ◌∙◌, arith}
use Rattle.controller.specs.Rules.{up_from}
use Rattle.controller.specs.Kept.{ruling}
use Rattle.controller.specs.Status.{go_of}
use Rattle.controller.proofs.Seen.{go_yes, go_no, go_all}
use Rattle.controller.proofs.kept.Controller.leaving.Goals as goal
use Rattle.controller.proofs.kept.Controller.leaving.Goals.{else-loop-server-test, then-loop-server-test+else-server-lt255, then-may_go+in_ok-push, else-may_go}

pub loop-server-init : goal.loop-server-init
unfolding up_from go_of
loop-server-init c = c.new-servers.ensures.items

pub loop-server-preserved : goal.loop-server-preserved
loop-server-preserved c =
    let k = ruling c.args.self.now in
    let n = c.loop-server.server in
    elim c.if-may_go.branch [
      | then-may_go+in_ok-push w ↦
          ap vec_items w.servers-is ∙ go_yes k n (vec_items c.loop-server.servers) _ w.if-may_go.ensures c.loop-server.invariant w.in_ok-push.ensures.items
      | else-may_go w ↦ ap vec_items w.servers-is ∙ go_no k n (vec_items c.loop-server.servers) w.if-may_go.ensures c.loop-server.invariant
    ]

pub returns : goal.returns
returns c =
    let k = ruling c.args.self.now in
    let n = c.loop-server.server in
    elim c.loop-server-test.branch [
      | else-loop-server-test w ↦ absurd (omega (arith, w.loop-server-test.false, c.loop-server.auto.server-end))
      | then-loop-server-test+else-server-lt255 w ↦
          go_all k n _ c.loop-server.auto.server-end w.if-server-lt255.false
          (elim w.if-may_go.branch [
            | then-may_go+in_ok-push w' ↦
                ap vec_items (w.servers-is ∙ w'.servers-is) ∙ go_yes k n (vec_items c.loop-server.servers) _ w'.if-may_go.ensures c.loop-server.invariant w'.in_ok-push.ensures.items
            | else-may_go w' ↦ ap vec_items (w.servers-is ∙ w'.servers-is) ∙ go_no k n (vec_items c.loop-server.servers) w'.if-may_go.ensures c.loop-server.invariant
          ])
    ]
