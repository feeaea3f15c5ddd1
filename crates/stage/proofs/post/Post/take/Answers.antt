-- By where the message stands, if it does.
use Rattle.std.proofs.Common.{rules}
use Rattle.stage.specs.Posts.{on_way}
use Rattle.stage.proofs.Taken.{found_there, taken_there, none_found, none_taken}
use Rattle.stage.proofs.post.Post.take.Goals as goal

pub returns-in_err-at-clause-value : goal.returns-in_err-at-clause-value
returns-in_err-at-clause-value c = search (rules, none_found)

pub returns-in_err-at-clause-after : goal.returns-in_err-at-clause-after
returns-in_err-at-clause-after c = search (rules, none_taken)

pub returns-clause-value : goal.returns-clause-value
returns-clause-value c = search (rules, found_there)

pub returns-clause-after : goal.returns-clause-after
returns-clause-after c = taken_there c.args.number (on_way c.args.self.now) _ c.in_ok-at.at (search rules) c.remove.ensures.items
