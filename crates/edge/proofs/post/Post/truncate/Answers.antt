-- The first of those posted.
use Rattle.std.proofs.Common.{map, vec_items, sym, ap, ◌∙◌}
use Rattle.std.proofs.lemmas.List.{take-map}
use Rattle.edge.specs.Posts.{mail_of}
use Rattle.edge.proofs.post.Post.truncate.Goals as goal

pub returns : goal.returns
returns c = ap (map mail_of) c.truncate.ensures.items ∙ sym (take-map mail_of c.args.len (vec_items c.args.self.now.posted))
