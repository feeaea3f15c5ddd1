-- The entry found is gone; where there is none, nothing changes.
use Rattle.std.proofs.Common.{is_some, vec_items, sym, ap, ◌∙◌, rules}
use Rattle.sessions.proofs.Changes.{seen_miss, seen_hit, without_hit, without_miss}
use Rattle.sessions.proofs.entry.remove.Goals as goal

pub returns-in_default : goal.returns-in_default
returns-in_default c =
    let m = seen_miss c.args.key.now (vec_items c.args.entries.now) (search rules) in
    record { found = sym (ap is_some m); after = sym (without_miss c.args.key.now (vec_items c.args.entries.now) m) }

pub returns : goal.returns
returns c = record {
  found = sym (ap is_some (seen_hit c.args.key.now (vec_items c.args.entries.now) c.in-Some.i (search rules) c.remove.result));
  after = c.remove.ensures.items ∙ without_hit c.args.key.now (vec_items c.args.entries.now) c.in-Some.i (search rules);
}
