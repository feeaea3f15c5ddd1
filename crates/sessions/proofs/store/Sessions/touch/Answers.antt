-- The slot of the key has the tick noted.
use Rattle.std.proofs.Common.{is_some, vec_items, sym, ap, ◌∙◌, arith}
use Rattle.sessions.specs.Model.{entries_of}
use Rattle.sessions.proofs.Same.{slot_below}
use Rattle.sessions.proofs.Stores.{seen_at}
use Rattle.sessions.proofs.Steps.{slot_within, touch_step, touch_same}
use Rattle.sessions.proofs.store.Sessions.touch.Goals as goal

pub index_mut-requires : goal.index_mut-requires
index_mut-requires c = slot_within c.args.self.now c.args.key.now c.slot-slot.result c.slot-slot.ensures

pub cover-requires : goal.cover-requires
cover-requires c = omega (arith, c.slot-slot.ensures, slot_below c.args.key.now)

pub invariant_of-self : goal.invariant_of-self
invariant_of-self c =
    (touch_step c.args.self.now c.args.key.now c.args.tick c.min-self.result c.slot-slot.result c.index_mut.result.now c.note-found.new.entries (vec_items c.cover.new.self.ticks) c.slot-slot.ensures
    c.index_mut.ensures.value c.note-found.ensures.after c.min-self.ensures c.cover.ensures).hold

pub returns : goal.returns
unfolding entries_of
returns c =
    let s = c.args.self.now in
    let k = c.args.key.now in
    let found = c.note-found.ensures.found ∙ ap is_some (seen_at s.slots k c.slot-slot.result c.index_mut.result.now s.filing c.slot-slot.ensures c.index_mut.ensures.value) in
    record {
      answer = found;
      change = (touch_step s k c.args.tick c.min-self.result c.slot-slot.result c.index_mut.result.now c.note-found.new.entries (vec_items c.cover.new.self.ticks) c.slot-slot.ensures c.index_mut.ensures.value
          c.note-found.ensures.after c.min-self.ensures c.cover.ensures).change;
      same = λ n. touch_same s k c.args.tick c.slot-slot.result c.index_mut.result.now c.note-found.new.entries c.slot-slot.ensures c.index_mut.ensures.value
          c.note-found.ensures.after (sym found ∙ n);
    }
