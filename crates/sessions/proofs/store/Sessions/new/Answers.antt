-- A store of empty slots has no entry.
use Rattle.std.proofs.Common.{map, vec_items, arith}
use Rattle.std.proofs.lemmas.List.{length-map}
use Rattle.sessions.specs.Model.{entries_of}
use Rattle.sessions.proofs.Stores.{new_holds, empty_flat, empty_more}
use Rattle.sessions.proofs.store.Sessions.new.Goals as goal

pub invariant_of-result : goal.invariant_of-result
invariant_of-result c =
    let i = c.loop-i.invariant in
    let a = length-map (vec_items c.loop-i.slots) vec_items in
    let b = length-map (vec_items c.loop-i.tallies) vec_items in
    new_holds (map vec_items (vec_items c.loop-i.slots)) (map vec_items (vec_items c.loop-i.tallies)) (vec_items c.in_ok-bounds.bounds.ticks) (omega (arith, i.0, c.loop-i.slots.ok.0)) (omega (arith, i.1, c.loop-i.tallies.ok.0)) i.2 i.3

pub loop-i-preserved : goal.loop-i-preserved
loop-i-preserved c =
    let i = c.loop-i.invariant in
    let e = c.in_ok-push.ensures in
    let f = c.in_ok-push-2.ensures in (
      omega (arith, i.0, e.len),
      omega (arith, i.1, f.len),
      empty_more (vec_items c.loop-i.slots) (vec_items c.push.new.self) c.new-in-loop-i.result e.items c.new-in-loop-i.ensures.items i.2,
      empty_more (vec_items c.loop-i.tallies) (vec_items c.push-in-loop-i.new.self) c.new-in-loop-i-2.result f.items c.new-in-loop-i-2.ensures.items i.3,
    )

pub returns : goal.returns
unfolding entries_of
returns c = empty_flat (map vec_items (vec_items c.loop-i.slots)) c.loop-i.invariant.2
