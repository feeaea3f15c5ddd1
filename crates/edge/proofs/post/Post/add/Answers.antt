-- One more, behind those before it.
use Rattle.std.proofs.Common.{map, vec_items, ap, ◌∙◌}
use mathlib.Core.List.{map-append}
use Rattle.edge.specs.Posts.{mail_of}
use Rattle.edge.proofs.post.Post.add.Goals as goal

pub returns : goal.returns
returns c = ap (map mail_of) c.in_ok-push.ensures.items ∙ map-append mail_of (vec_items c.args.self.now.posted) _
