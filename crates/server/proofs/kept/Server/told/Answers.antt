-- Room was made for what is told.
use Rattle.std.proofs.Common.{sym, arith}
use Rattle.server.specs.Kept.{keeping, sessions_of}
use Rattle.server.proofs.Told.{sends_fit}
use Rattle.server.proofs.kept.Server.told.Goals as goal

pub tell-requires : goal.tell-requires
tell-requires c =
    let was = c.args.self.now in
    let fits = sends_fit c.args.from c.args.control (keeping was) (sessions_of was) _ _ (sym c.in_ok-room_for.ensures) (c.in_ok-place.ensures.alters c.args.from) in
    rw c.bucket.ensures (omega (arith, fits, c.in_ok-make_room.ensures.room))
