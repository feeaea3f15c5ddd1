-- As many as are posted.
use Rattle.std.proofs.Common.{vec_items, arith}
use Rattle.std.proofs.lemmas.List.{length-map}
use Rattle.edge.specs.Posts.{mail_of}
use Rattle.edge.proofs.post.Post.len.Goals as goal

pub returns : goal.returns
returns c = omega (arith, c.len.ensures, c.args.self.now.posted.ok.0, length-map (vec_items c.args.self.now.posted) mail_of)
