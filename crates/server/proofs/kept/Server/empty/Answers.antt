-- The rule of the bucket, in the list of all.
use Rattle.std.proofs.Common.{◌<◌, ◌≤◌, List, ◌++◌, length, vec_items, sym, refl, ap, ◌∙◌, arith, rules}
use Rattle.std.proofs.lemmas.List.{append-nil}
use Rattle.sessions.specs.Clocks.{ticks_of}
use Rattle.machine.specs.Outboxes.{sent_of}
use Rattle.machine.specs.declared.sent.Sent.{Sent}
use Rattle.server_bucket.specs.Rules as bucket
use Rattle.server_bucket.specs.Kept.{holding}
use Rattle.server.specs.Rules.{Keeping}
use Rattle.server.specs.Kept.{sessions_of}
use Rattle.server.proofs.Emptied.{emptied_keeps, emptied_past}
use Rattle.server.proofs.kept.Server.empty.Goals as goal

pub returns-in_default-clause-sent : goal.returns-in_default-clause-sent
returns-in_default-clause-sent c =
    let was = c.args.self.now in
    let key = c.args.key.now in
    let h : length (vec_items was.held) ≤ key.bucket = search rules in
    sym (append-nil (sent_of c.args.out.now)) ∙ ap (λ (x : List Sent × Keeping). sent_of c.args.out.now ++ x.0) (sym (emptied_past was.number (ticks_of was.clock) was.stood key.bucket key.place (sessions_of was) (vec_items was.held) h))

pub returns-in_default-clause-kept : goal.returns-in_default-clause-kept
returns-in_default-clause-kept c =
    let was = c.args.self.now in
    let key = c.args.key.now in
    let h : length (vec_items was.held) ≤ key.bucket = search rules in
    ap (λ (x : List Sent × Keeping). x.1) (sym (emptied_past was.number (ticks_of was.clock) was.stood key.bucket key.place (sessions_of was) (vec_items was.held) h))

pub returns-clause-kept : goal.returns-clause-kept
returns-clause-kept c =
    let was = c.args.self.now in
    let key = c.args.key.now in
    let s = c.in-Some.held.now in
    let h : key.bucket < length (vec_items was.held) = omega (arith, was.held.ok.0, c.in-Some.ensures.variant.0 refl, c.from.ensures) in
    let e = c.emptied-gone.ensures ∙ ap (λ q. bucket.emptied key.place q (holding s)) c.is_empty.ensures in
    emptied_keeps was.number (ticks_of was.clock) was.stood key.bucket key.place (sessions_of was) (vec_items was.held) s c.emptied-gone.new.self c.emptied-gone.result _
    h (rw (sym c.from.ensures) c.in-Some.ensures.value) e (rw (sym c.from.ensures) c.leave.ensures.kept)
