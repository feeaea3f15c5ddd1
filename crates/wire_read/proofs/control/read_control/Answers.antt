-- What is said about a place, behind the place, makes the whole.
use Rattle.std.proofs.Common.{◌∙◌}
use Rattle.wire_read.proofs.ByKind.{about_place}
use Rattle.wire_read.proofs.control.read_control.Goals as goal

pub returns : goal.returns
returns c = c.found.ensures ∙ about_place c.args.topic c.args.buckets.count _ _ c.args.bytes.now _ _ c.in_ok-at.ensures c.read_about.ensures
