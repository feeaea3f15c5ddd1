-- What was read is what the bytes say.
use Rattle.std.proofs.Common.{◌≡◌, ◌∷◌, length, Some, None, Ok, Err, refl, subst}
use Rattle.std.proofs.lemmas.Result.{err_from_is_err_and}
use Rattle.edge.specs.declared.sort.Role.TheVariants as role
use Rattle.edge.specs.Posts.{mails_of}
use Rattle.edge.specs.Sorts.{Carries, Tells, sort}
use Rattle.server.specs.Kept.{keeping, sessions_of}
use Rattle.server.specs.Rules.{handles, told}
use Rattle.server_edge.specs.Bytes.{does, forwarded_to, hint_of, Hears}
use Rattle.server_edge.proofs.Steps.{moves_on, gone_on, stopped_on, told_hears}
use Rattle.server_edge.proofs.hear.Goals as goal

pub returns-in_err-send_on-in-Packet : goal.returns-in_err-send_on-in-Packet
returns-in_err-send_on-in-Packet c =
    let from = c.args.from in
    let bs = c.args.bytes.now in
    let bs' = c.send_on.new.bytes in
    let was = c.args.server.now in
    let is = c.pass.new.server in
    let out = mails_of c.args.out.now in
    let out' = mails_of c.send_on.new.out in
    let i = c.in-Packet in
    let packet = i.packet.now in
    let e : Carries i.head i.flow packet ≡ sort role.Server from (length (keeping was).holdings) bs = subst (λ n. Carries i.head i.flow packet ≡ sort role.Server from n bs) c.buckets.ensures i.ensures.sort in
    let p = c.in_ok-passed-in-Packet.passed in
    let f = c.in-Forwarded in
    let stop = err_from_is_err_and c.from_residual-in_err-send_on-in-Packet.result c.from_residual-in_err-send_on-in-Packet.ensures.1 in
    rw (stop.1, stop.2)
    (subst (λ s. Hears (does from bs (keeping was) (sessions_of was) s) (Err c.in_err-send_on-in-Packet.field-0.0) (keeping was) (keeping is) (sessions_of was) (sessions_of is) out out' bs bs') e
    (stopped_on i.head i.flow packet bs bs' (keeping was) (keeping is) (sessions_of was) (sessions_of is) (handles from i.head i.flow (keeping was) (sessions_of was)) p f.to f.way c.in_err-send_on-in-Packet.field-0.0
    (forwarded_to f.to f.way bs ∷ hint_of p.hint) out (mails_of c.pass.new.out) out'
    (moves_on from (length (keeping was).holdings) bs i.head i.flow packet f.to f.way c.sorted.ensures.bytes e)
    c.in_ok-passed-in-Packet.ensures f.is c.in_err-send_on-in-Packet.ensures.posted c.send_on.ensures.lent))

pub returns-in_ok-send_on-in-Packet : goal.returns-in_ok-send_on-in-Packet
returns-in_ok-send_on-in-Packet c =
    let from = c.args.from in
    let bs = c.args.bytes.now in
    let bs' = c.send_on.new.bytes in
    let was = c.args.server.now in
    let is = c.pass.new.server in
    let out = mails_of c.args.out.now in
    let out' = mails_of c.send_on.new.out in
    let i = c.in-Packet in
    let packet = i.packet.now in
    let e : Carries i.head i.flow packet ≡ sort role.Server from (length (keeping was).holdings) bs = subst (λ n. Carries i.head i.flow packet ≡ sort role.Server from n bs) c.buckets.ensures i.ensures.sort in
    let p = c.in_ok-passed-in-Packet.passed in
    let f = c.in-Forwarded in
    subst (λ s. Hears (does from bs (keeping was) (sessions_of was) s) (Ok (Some p.outcome)) (keeping was) (keeping is) (sessions_of was) (sessions_of is) out out' bs bs') e
    (gone_on i.head i.flow packet bs bs' (keeping was) (keeping is) (sessions_of was) (sessions_of is) (handles from i.head i.flow (keeping was) (sessions_of was)) p f.to f.way out (mails_of c.pass.new.out) out'
    (moves_on from (length (keeping was).holdings) bs i.head i.flow packet f.to f.way c.sorted.ensures.bytes e)
    c.in_ok-passed-in-Packet.ensures f.is c.in_ok-send_on-in-Packet.ensures.posted c.send_on.ensures.lent)

pub returns-in_ok-tell-in-Told : goal.returns-in_ok-tell-in-Told
returns-in_ok-tell-in-Told c =
    let from = c.args.from in
    let bs = c.args.bytes.now in
    let was = c.args.server.now in
    let is = c.tell.new.server in
    let out = mails_of c.args.out.now in
    let out' = mails_of c.tell.new.out in
    let i = c.in-Told in
    let e : Tells i.control ≡ sort role.Server from (length (keeping was).holdings) bs = subst (λ n. Tells i.control ≡ sort role.Server from n bs) c.buckets.ensures i.ensures.sort in
    subst (λ s. Hears (does from bs (keeping was) (sessions_of was) s) (Ok None) (keeping was) (keeping is) (sessions_of was) (sessions_of is) out out' bs bs) e
    (told_hears (told from i.control (keeping was) (sessions_of was)) from bs bs (keeping was) (keeping is) (sessions_of was) (sessions_of is) out out' refl c.in_ok-tell-in-Told.ensures)
