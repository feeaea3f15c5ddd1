-- The rule of the bucket, in the list of all.
use Rattle.std.proofs.Common.{◌<◌, length, vec_items, sym, refl, arith}
use Rattle.sessions.specs.Clocks.{ticks_of}
use Rattle.server.proofs.Buckets.{within_buckets}
use Rattle.server.proofs.Told.{heard_did}
use Rattle.server.proofs.kept.Server.heard.Goals as goal

pub returns-in-Some-clause-kept : goal.returns-in-Some-clause-kept
returns-in-Some-clause-kept c =
    let was = c.args.self.now in
    let i = c.in-Forgotten in
    let h : i.bucket < length (vec_items was.held) = omega (arith, was.held.ok.0, c.in-Some.ensures.variant.0 refl, c.from.ensures) in
    rw (i.is, within_buckets (vec_items was.held) i.bucket h, c.from.ensures)
    (heard_did c.args.from was.number (ticks_of was.clock) was.stood i.bucket i.place i.after (vec_items was.held) c.in-Some.held.now c.answered.new.self h
    (rw (sym c.from.ensures) c.in-Some.ensures.value) c.answered.ensures)
