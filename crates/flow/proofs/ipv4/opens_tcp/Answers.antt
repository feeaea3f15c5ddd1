-- Each mask is one flag.
use Rattle.std.proofs.Common.{arith}
use Rattle.std.proofs.lemmas.Bool.Decides.{nat_tests}
use Rattle.flow.proofs.Heads.{syn_flag, ack_flag}
use Rattle.flow.proofs.ipv4.opens_tcp.Goals as goal

pub returns-then-flags-ne0 : goal.returns-then-flags-ne0
returns-then-flags-ne0 c =
    let s = syn_flag c.args.flags (omega arith) in
    let a = ack_flag c.args.flags (omega arith) in
    grind (arith, nat_tests)

pub returns-else-flags-ne0 : goal.returns-else-flags-ne0
returns-else-flags-ne0 c =
    let s = syn_flag c.args.flags (omega arith) in
    let a = ack_flag c.args.flags (omega arith) in
    grind (arith, nat_tests)
