-- The tally of the place is one higher, and the session stands at the end of its slot; where there is no memory, all is as it was.
use Rattle.std.proofs.Common.{◌+◌, map, set, Some, vec_items, refl, ap, arith}
use Rattle.std.proofs.lemmas.Result.{err_from_is_err_and}
use Rattle.sessions.specs.Slots.{flat}
use Rattle.sessions.specs.Model.{entries_of}
use Rattle.sessions.proofs.Steps.{Step, slot_within, bucket_within, tally_few, tallies_same, refused_holds, add_step, undone_holds, slots_same}
use Rattle.sessions.proofs.Same.{slot_below}
use Rattle.sessions.proofs.Opened.{adding_refused}
use Rattle.sessions.proofs.store.Sessions.add.Goals as goal
use Rattle.sessions.proofs.store.Sessions.add.Goals.{After-cover}

pub index_mut-requires : goal.index_mut-requires
index_mut-requires c = bucket_within c.args.self.now c.bucket_index-bucket.result c.bucket_index-bucket.ensures.bound

pub raise-requires : goal.raise-requires
unfolding entries_of
raise-requires c =
    tally_few c.args.self.now c.args.key c.bucket_index-bucket.result c.index_mut.result.now c.bucket_index-bucket.ensures.value c.bucket_index-bucket.ensures.bound c.index_mut.ensures.value c.requires.1

pub invariant_of-self : goal.invariant_of-self
invariant_of-self c =
    refused_holds c.args.self.now _
    (tallies_same c.args.self.now c.bucket_index-bucket.result c.index_mut.result.now c.raise.new.tallies c.bucket_index-bucket.ensures.bound c.index_mut.ensures.value c.in_err-raise.ensures)

pub returns-in_err-raise : goal.returns-in_err-raise
unfolding entries_of
returns-in_err-raise c = adding_refused c.args.key c.args.tick _ _ c.from_residual.result refl (err_from_is_err_and c.from_residual.result c.from_residual.ensures.1)

pub index_mut-requires-2 : goal.index_mut-requires-2
index_mut-requires-2 c = slot_within c.args.self.now c.args.key c.slot-slot.result c.slot-slot.ensures

pub cover-requires : goal.cover-requires
cover-requires c = omega (arith, c.slot-slot.ensures, slot_below c.args.key)

added : (c : goal.After-cover) → Step c.args.self.now c.args.key (Some c.args.tick) (map vec_items (set (vec_items c.args.self.now.slots) c.slot-slot.result c.push.new.self))
    (map vec_items (set (vec_items c.args.self.now.tallies) c.bucket_index-bucket.result c.raise.new.tallies)) (c.args.self.now.len + 1) c.min-self.result (vec_items c.cover.new.self.ticks)
unfolding entries_of
added c =
    add_step c.args.self.now c.args.key c.args.tick c.min-self.result c.slot-slot.result c.bucket_index-bucket.result c.index_mut-2.result.now c.push.new.self
    c.index_mut.result.now c.raise.new.tallies (vec_items c.cover.new.self.ticks) c.requires.0 c.requires.1 c.slot-slot.ensures c.index_mut-2.ensures.value c.in-Ok.ensures.items
    c.bucket_index-bucket.ensures.value c.bucket_index-bucket.ensures.bound c.index_mut.ensures.value c.in_ok-raise.ensures c.min-self.ensures c.cover.ensures

pub invariant_of-self-in-Ok : goal.invariant_of-self-in-Ok
invariant_of-self-in-Ok c = (added c).hold

pub index_mut-requires-in-Err : goal.index_mut-requires-in-Err
index_mut-requires-in-Err c = bucket_within c.args.self.now c.bucket_index-bucket.result c.bucket_index-bucket.ensures.bound

pub invariant_of-self-in-Err : goal.invariant_of-self-in-Err
invariant_of-self-in-Err c =
    undone_holds c.args.self.now c.args.key c.bucket_index-bucket.result _ c.index_mut.result.now c.raise.new.tallies c.index_mut-in-Err.result.now c.lower.new.tallies
    (slots_same c.args.self.now c.args.key c.slot-slot.result c.index_mut-2.result.now c.push.new.self c.slot-slot.ensures c.index_mut-2.ensures.value c.in-Err.ensures.items)
    c.bucket_index-bucket.ensures.value c.bucket_index-bucket.ensures.bound c.index_mut.ensures.value c.in_ok-raise.ensures c.index_mut-in-Err.ensures.value c.lower.ensures

pub returns-in-Ok : goal.returns-in-Ok
unfolding entries_of
returns-in-Ok c = (added (goal.at.returns-in-Ok c).After-cover).change

pub returns-in-Err : goal.returns-in-Err
unfolding entries_of
returns-in-Err c =
    ap flat (slots_same c.args.self.now c.args.key c.slot-slot.result c.index_mut-2.result.now c.push.new.self c.slot-slot.ensures c.index_mut-2.ensures.value c.in-Err.ensures.items)
