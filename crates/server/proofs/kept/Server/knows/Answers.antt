-- Of a bucket that is not there it knows no place.
use Rattle.std.proofs.Common.{vec_items, arith}
use Rattle.server.proofs.Shown.{none_held}
use Rattle.server.proofs.kept.Server.knows.Goals as goal

pub returns-in_default : goal.returns-in_default
returns-in_default c = none_held (vec_items c.args.self.now.held) c.args.bucket c.args.place (omega (arith, c.in_default.ensures.lookup.3, c.deref.ensures.len, c.args.self.now.held.ok.0, c.from.ensures))
