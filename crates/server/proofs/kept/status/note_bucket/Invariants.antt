-- What is noted, and what the rule says of the rest, is the whole.
use Rattle.std.proofs.Common.{◌≡◌, ◌++◌, drop, vec_items}
use Rattle.sessions.specs.Model.{entries_of}
use Rattle.server.specs.Status.{busy_in}
use Rattle.server.proofs.kept.status.note_bucket.Given as goal

abbrev pub invariant-loop-place : goal.invariant-loop-place
invariant-loop-place l =
    vec_items l.busy ++ busy_in l.bucket (entries_of l.sessions) (drop l.place-index l.standing) ≡ vec_items l.initial.busy ++ busy_in l.bucket (entries_of l.sessions) l.standing
