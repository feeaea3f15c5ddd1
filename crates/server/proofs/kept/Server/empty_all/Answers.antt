-- One session more.
use Rattle.std.proofs.Common.{List, ◌++◌, sym, ap, ◌∙◌, arith}
use Rattle.std.proofs.lemmas.List.{append-nil}
use Rattle.machine.specs.Outboxes.{sent_of}
use Rattle.machine.specs.declared.sent.Sent.{Sent}
use Rattle.server.specs.Rules.{Keeping}
use Rattle.server.specs.Kept.{keeping, sessions_of}
use Rattle.server.proofs.Ticked.{all_more, all_none}
use Rattle.server.proofs.kept.Server.empty_all.Goals as goal

pub loop-name-preserved : goal.loop-name-preserved
loop-name-preserved c =
    let inv = c.loop-name.invariant in
    let m = all_more c.args.names.now c.loop-name.name-index _ (sessions_of c.args.self.now) (sessions_of c.loop-name.self) (keeping c.loop-name.self) (keeping c.empty.new.self) _
    (sent_of c.loop-name.out) (sent_of c.empty.new.out) _ (omega arith) inv.2 c.empty.ensures.sent c.empty.ensures.kept inv.0 inv.1 in
    (m.0, m.1, c.empty.ensures.sessions ∙ inv.2, omega (arith, c.empty.ensures.room, inv.3))

pub returns : goal.returns
returns c =
    let inv = c.loop-name.invariant in
    let out = sent_of c.loop-name.out in
    let none = all_none c.args.names.now c.loop-name.name-index (sessions_of c.args.self.now) (keeping c.loop-name.self) (omega arith) in
    record {
      sent = sym (ap (λ (p : List Sent × Keeping). out ++ p.0) none ∙ append-nil out) ∙ inv.0;
      kept = sym (ap (λ (p : List Sent × Keeping). p.1) none) ∙ inv.1;
      sessions = inv.2;
    }
