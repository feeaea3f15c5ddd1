-- The entry of the key is taken out of its slot, and the tally of its place is one lower.
use Rattle.std.proofs.Common.{◌≡◌, ℕ, ◌-◌, false, map, set, is_some, Some, None, vec_items, sym, ap, ◌∙◌}
use Rattle.sessions.specs.Entries.{seen_in, without}
use Rattle.sessions.specs.Slots.{flat}
use Rattle.sessions.specs.Model.{entries_of}
use Rattle.sessions.proofs.Stores.{seen_at}
use Rattle.sessions.proofs.Steps.{slots_of, tallies_of, Step, some_seen, slot_within, bucket_within, length_has, close_step, close_rest, close_none, none_step}
use Rattle.sessions.proofs.store.Sessions.close.Goals as goal
use Rattle.sessions.proofs.store.Sessions.close.Goals.{Then-not-remove, After-lower}

pub index_mut-requires : goal.index_mut-requires
index_mut-requires c = slot_within c.args.self.now c.args.key.now c.slot.result c.slot.ensures

-- it is not open
missed : (c : goal.Then-not-remove) → Step c.args.self.now c.args.key.now None (map vec_items (set (vec_items c.args.self.now.slots) c.slot.result c.remove.new.entries))
    (tallies_of c.args.self.now) c.args.self.now.len c.args.self.now.oldest (vec_items c.args.self.now.bounds.ticks)
    × (flat (map vec_items (set (vec_items c.args.self.now.slots) c.slot.result c.remove.new.entries)) ≡ without c.args.key.now (flat (slots_of c.args.self.now)))
missed c =
    let s = c.args.self.now in
    let k = c.args.key.now in
    let n : is_some (seen_in k (vec_items c.index_mut.result.now)) ≡ false = sym c.remove.ensures.found ∙ c.if-not-remove.true in
    let a = seen_at s.slots k c.slot.result c.index_mut.result.now s.filing c.slot.ensures c.index_mut.ensures.value in
    none_step s k _ (close_none s k c.slot.result c.index_mut.result.now c.remove.new.entries n c.slot.ensures c.index_mut.ensures.value c.remove.ensures.after) (ap is_some (sym a) ∙ n)

pub invariant_of-self : goal.invariant_of-self
invariant_of-self c = (missed c).0.hold

pub returns-then-not-remove : goal.returns-then-not-remove
unfolding entries_of
returns-then-not-remove c =
    let s = c.args.self.now in
    let a = seen_at s.slots c.args.key.now c.slot.result c.index_mut.result.now s.filing c.slot.ensures c.index_mut.ensures.value in
    let m = missed (goal.at.returns-then-not-remove c).Then-not-remove in
    record { answer = c.if-not-remove.ensures.found ∙ ap is_some a; change = m.0.change; rest = m.1 }

pub index_mut-requires-2 : goal.index_mut-requires-2
index_mut-requires-2 c = bucket_within c.args.self.now c.bucket_index.result c.bucket_index.ensures.bound

-- it is open
opened : (c : goal.After-lower) → (t : ℕ) × (seen_in c.args.key.now (flat (slots_of c.args.self.now)) ≡ Some t)
opened c =
    let s = c.args.self.now in
    let a = seen_at s.slots c.args.key.now c.slot.result c.index_mut.result.now s.filing c.slot.ensures c.index_mut.ensures.value in
    some_seen (seen_in c.args.key.now (flat (slots_of s))) (ap is_some (sym a) ∙ sym c.if-not-remove.ensures.found)

taken : (c : goal.After-lower) → Step c.args.self.now c.args.key.now None (map vec_items (set (vec_items c.args.self.now.slots) c.slot.result c.remove.new.entries))
    (map vec_items (set (vec_items c.args.self.now.tallies) c.bucket_index.result c.lower.new.tallies)) (c.args.self.now.len - 1) c.args.self.now.oldest (vec_items c.args.self.now.bounds.ticks)
taken c =
    close_step c.args.self.now c.args.key.now (opened c).0 c.slot.result c.bucket_index.result c.index_mut.result.now c.remove.new.entries c.index_mut-2.result.now
    c.lower.new.tallies (opened c).1 c.slot.ensures c.index_mut.ensures.value c.remove.ensures.after c.bucket_index.ensures.value c.bucket_index.ensures.bound
    c.index_mut-2.ensures.value c.lower.ensures

pub overflow_sub-self : goal.overflow_sub-self
overflow_sub-self c = let o = opened (goal.at.overflow_sub-self c).After-lower in length_has c.args.self.now c.args.key.now o.0 o.1

pub invariant_of-self-2 : goal.invariant_of-self-2
invariant_of-self-2 c = (taken (goal.at.invariant_of-self-2 c).After-lower).hold

pub returns : goal.returns
unfolding entries_of
returns c =
    let s = c.args.self.now in
    let k = c.args.key.now in
    let o = opened (goal.at.returns c).After-lower in
    record {
      answer = sym (ap is_some o.1);
      change = (taken (goal.at.returns c).After-lower).change;
      rest = close_rest s k o.0 c.slot.result c.index_mut.result.now c.remove.new.entries o.1 c.slot.ensures c.index_mut.ensures.value c.remove.ensures.after;
    }
