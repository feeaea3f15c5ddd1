-- The tally of the place is the number of its entries.
use Rattle.std.proofs.Common.{◌≡◌, map, vec_items, ap, ◌∙◌, arith}
use Rattle.sessions.specs.Tallies.{tallied_in}
use Rattle.sessions.specs.Entries.{count_in}
use Rattle.sessions.specs.Slots.{flat}
use Rattle.sessions.specs.Model.{entries_of}
use Rattle.sessions.proofs.Stores.{long, count_few, tally_at}
use Rattle.sessions.proofs.store.Sessions.count_at.Goals as goal
use Rattle.sessions.proofs.store.Sessions.count_at.Goals.{After-as_slice}

pub index-requires : goal.index-requires
index-requires c = omega (arith, c.from.ensures, (long c.args.self.now.tallies c.args.self.now.lists).0)

-- what the tallies of the bucket say of the place
pub there : (c : goal.After-as_slice) → tallied_in c.args.place c.as_slice.result.now ≡ count_in c.args.bucket c.args.place (flat (map vec_items (vec_items c.args.self.now.slots)))
there c =
    ap (tallied_in c.args.place) c.as_slice.ensures.value
    ∙ tally_at c.args.self.now.tallies (map vec_items (vec_items c.args.self.now.slots)) c.args.bucket c.args.place c.index.result.now c.args.self.now.lists
    c.args.self.now.places (omega arith) (rw c.from.ensures at c.index.ensures)

pub count-requires : goal.count-requires
count-requires c =
    omega (arith, there c, count_few c.args.bucket c.args.place c.args.self.now.len (map vec_items (vec_items c.args.self.now.slots)) c.args.self.now.number, c.args.self.now.number.1)

pub returns : goal.returns
unfolding entries_of
returns c = c.count.ensures ∙ there (goal.at.returns c).After-as_slice
