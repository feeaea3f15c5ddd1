-- Nothing is idle as long as the oldest is not; else the names are taken out, and the oldest of the others is the new bound.
use Rattle.std.proofs.Common.{length, vec_items, sym, ap, ◌∙◌}
use Rattle.sessions.specs.Model.{entries_of}
use Rattle.sessions.proofs.Idled.{all_stay, stayed, idle_holds}
use Rattle.sessions.proofs.Stores.{long}
use Rattle.sessions.proofs.store.Sessions.close_idle.Goals as goal

pub returns-then-not-is_idle : goal.returns-then-not-is_idle
unfolding entries_of
returns-then-not-is_idle c = all_stay c.args.tick c.args.self.now (sym c.if-not-is_idle.ensures)

pub refresh-self-requires : goal.refresh-self-requires
refresh-self-requires c =
    let s = c.close_all.new.self in
    (ap length c.deref.ensures.value ∙ (long s.slots s.filing.0).1, rw c.deref.ensures.value s.limits)

pub invariant_of-self : goal.invariant_of-self
invariant_of-self c =
    idle_holds c.close_all.new.self c.refresh-self.result (vec_items c.refresh-self.new.self.ticks) (rw c.deref.ensures.value at c.refresh-self.ensures.limits) c.refresh-self.ensures.least

pub returns : goal.returns
unfolding entries_of
returns c = stayed c.args.tick c.args.self.now (entries_of c.close_all.new.self) c.args.names.now c.requires c.close_all.ensures
