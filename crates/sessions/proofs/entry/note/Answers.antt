-- The entry found has the tick; where there is none, nothing changes.
use Rattle.std.proofs.Common.{is_some, vec_items, sym, ap, rules}
use Rattle.sessions.proofs.Changes.{seen_miss, seen_hit, noted_hit, noted_miss}
use Rattle.sessions.proofs.entry.note.Goals as goal

pub returns-in_default : goal.returns-in_default
returns-in_default c =
    let m = seen_miss c.args.key.now (vec_items c.args.entries.now) (search rules) in
    record { found = sym (ap is_some m); after = sym (noted_miss c.args.key.now c.args.tick (vec_items c.args.entries.now) m) }

pub returns : goal.returns
returns c = record {
  found = sym (ap is_some (seen_hit c.args.key.now (vec_items c.args.entries.now) c.in-Some.i (search rules) c.index_mut.result.now));
  after = noted_hit c.args.key.now c.args.tick (vec_items c.args.entries.now) c.in-Some.i c.index_mut.result.now (search rules) (search rules);
}
