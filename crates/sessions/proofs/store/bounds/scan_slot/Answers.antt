-- One entry after the other, idle or not.
use Rattle.std.proofs.Common.{◌+◌, ◌++◌, drop, vec_items, sym, ap, ◌∙◌, arith}
use Rattle.std.proofs.lemmas.List.{append-nil, drop_all}
use Rattle.sessions.specs.Entries.{idle_keys}
use Rattle.sessions.proofs.Lapse.{names_yes, names_no}
use Rattle.sessions.proofs.store.bounds.scan_slot.Goals as goal
use Rattle.sessions.proofs.store.bounds.scan_slot.Goals.{then-is_idle+in_ok-push, else-is_idle}

pub loop-e-preserved : goal.loop-e-preserved
loop-e-preserved c =
    let t = c.args.tick in
    let es = c.args.entries.now in
    let i = c.loop-e.e-index in
    let rest = drop (c.loop-e.e-index + 1) c.args.entries.now in
    elim c.if-is_idle.branch [
      | then-is_idle+in_ok-push w ↦
          ap (λ v. vec_items v ++ idle_keys t rest) w.names-is ∙ (ap (λ o. o ++ idle_keys t rest) w.in_ok-push.ensures.items
          ∙ (names_yes t (vec_items c.loop-e.names) es i _ (omega arith) (sym w.if-is_idle.ensures) ∙ c.loop-e.invariant))
      | else-is_idle w ↦
          ap (λ v. vec_items v ++ idle_keys t rest) w.names-is ∙ (names_no t (vec_items c.loop-e.names) es i _ (omega arith) (sym w.if-is_idle.ensures) ∙ c.loop-e.invariant)
    ]

pub returns : goal.returns
returns c =
    let d = drop_all c.loop-e.e-index c.args.entries.now (omega arith) in
    sym (append-nil (vec_items c.loop-e.names)) ∙ (ap (λ es. vec_items c.loop-e.names ++ idle_keys c.args.tick es) (sym d) ∙ c.loop-e.invariant)
