-- One slot after the other.
use Rattle.std.proofs.Common.{◌+◌, ◌++◌, map, drop, vec_items, sym, ap, ◌∙◌, arith}
use Rattle.std.proofs.lemmas.List.{append-nil, drop_all}
use Rattle.sessions.specs.Entries.{idle_keys}
use Rattle.sessions.specs.Slots.{flat}
use Rattle.sessions.proofs.Lapse.{names_slot}
use Rattle.sessions.proofs.store.bounds.scan.Goals as goal

pub loop-slot-preserved : goal.loop-slot-preserved
loop-slot-preserved c =
    let t = c.args.tick in
    let vs = c.args.slots.now in
    let rest = flat (map vec_items (drop (c.loop-slot.slot-index + 1) c.args.slots.now)) in
    let r = rw c.as_slice.ensures.value at c.in_ok-scan_slot.ensures in
    ap (λ o. o ++ idle_keys t rest) r ∙ (names_slot t (vec_items c.loop-slot.names) vs c.loop-slot.slot-index c.slot-item.result (omega arith) c.slot-item.is ∙ c.loop-slot.invariant)

pub returns : goal.returns
returns c =
    let d = ap (λ vs. flat (map vec_items vs)) (drop_all c.loop-slot.slot-index c.args.slots.now (omega arith)) in
    sym (append-nil (vec_items c.loop-slot.names)) ∙ (ap (λ es. vec_items c.loop-slot.names ++ idle_keys c.args.tick es) (sym d) ∙ c.loop-slot.invariant)
