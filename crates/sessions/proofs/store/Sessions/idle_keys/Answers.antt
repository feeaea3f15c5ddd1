-- Nothing is idle as long as the oldest is not; else the names are those of the groups.
use Rattle.std.proofs.Common.{length, vec_items, sym, ap, ◌∙◌}
use Rattle.sessions.specs.Model.{entries_of}
use Rattle.sessions.proofs.Idled.{none_idle}
use Rattle.sessions.proofs.Stores.{long}
use Rattle.sessions.proofs.store.Sessions.idle_keys.Goals as goal

pub returns-then-not-is_idle : goal.returns-then-not-is_idle
returns-then-not-is_idle c = none_idle c.args.tick c.args.self.now (vec_items c.new.result) (sym c.if-not-is_idle.ensures) c.new.ensures.items

pub idle_keys-requires : goal.idle_keys-requires
idle_keys-requires c =
    let s = c.args.self.now in
    (ap length c.deref.ensures.value ∙ (long s.slots s.filing.0).1, rw c.deref.ensures.value s.limits)

pub returns : goal.returns
unfolding entries_of
returns c = rw c.deref.ensures.value at c.idle_keys.ensures
