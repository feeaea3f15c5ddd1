-- One place more.
use Rattle.std.proofs.Common.{vec_items, arith}
use Rattle.sessions.specs.Model.{entries_of}
use Rattle.server.proofs.Noted.{busy_more, busy_all}
use Rattle.server.proofs.kept.status.note_bucket.Goals as goal

pub loop-place-preserved : goal.loop-place-preserved
loop-place-preserved c =
    busy_more c.args.bucket c.loop-place.place-index (entries_of c.args.sessions.now) c.args.standing.now _ (vec_items c.loop-place.busy) (vec_items c.note.new.busy) _ (omega arith)
    c.in_ok-note.ensures c.loop-place.invariant

pub returns : goal.returns
returns c = busy_all c.args.bucket c.loop-place.place-index (entries_of c.args.sessions.now) c.args.standing.now (vec_items c.loop-place.busy) _ (omega arith) c.loop-place.invariant
