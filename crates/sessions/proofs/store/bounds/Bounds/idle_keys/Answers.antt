-- A group that may hold idle sessions is looked through; another has none.
use Rattle.std.proofs.Common.{◌≡◌, ◌*◌, ◌/◌, ◌++◌, map, length, take, drop, vec_items, sym, ap, ◌∙◌, arith}
use Rattle.std.proofs.lemmas.List.{append-nil, drop_all}
use Rattle.sessions.specs.Entries.{idle_keys}
use Rattle.sessions.specs.Slots.{flat}
use Rattle.sessions.proofs.Groups.{group_yes, group_no, chunk_at}
use Rattle.sessions.proofs.store.bounds.Bounds.idle_keys.Goals as goal
use Rattle.sessions.proofs.store.bounds.Bounds.idle_keys.Goals.{then-is_idle+in_ok-scan, else-is_idle}

pub loop-group-preserved : goal.loop-group-preserved
loop-group-preserved c =
    let t = c.args.tick in
    let vs = c.args.slots.now in
    let g = c.loop-group.group in
    let long : length c.deref-bound-items.result.now ≡ 4096 = ap length c.deref-bound-items.ensures.value ∙ c.args.self.now.long in
    elim c.if-is_idle.branch [
      | then-is_idle+in_ok-scan w ↦
          let n : length c.args.slots.now / 16 ≡ 4096 = omega (arith, c.requires.0) in
          let at : w.index-groups-group.result ≡ take 16 (drop (c.loop-group.group * 16) c.args.slots.now) =
          w.index-groups-group.is ∙ (rw (c.as_chunks.ensures.front, n) (chunk_at 4096 c.loop-group.group c.args.slots.now w.index-groups-group.result (omega (arith, long, c.loop-group-test.true)))) in
          group_yes t (vec_items c.loop-group.names) (vec_items c.if-is_idle.names) vs g (ap vec_items w.names-is ∙ (w.in_ok-scan.ensures ∙ ap (λ ws. vec_items c.loop-group.names ++ idle_keys c.args.tick (flat (map vec_items ws))) at)) ∙ c.loop-group.invariant
      | else-is_idle w ↦
          let e = group_no t vs c.deref-bound-items.result.now g (rw c.deref-bound-items.ensures.value c.requires.1) (sym w.if-is_idle.ensures) in
          group_yes t (vec_items c.loop-group.names) (vec_items c.if-is_idle.names) vs g
          (ap vec_items w.names-is ∙ (sym (append-nil (vec_items c.loop-group.names)) ∙ ap (λ ks. vec_items c.loop-group.names ++ ks) (sym e))) ∙ c.loop-group.invariant
    ]

pub returns : goal.returns
returns c =
    let long : length c.deref-bound-items.result.now ≡ 4096 = ap length c.deref-bound-items.ensures.value ∙ c.args.self.now.long in
    let d = ap (λ vs. flat (map vec_items vs)) (drop_all (c.loop-group.group * 16) c.args.slots.now (omega (arith, c.requires.0, long, c.loop-group-test.false))) in
    sym (append-nil (vec_items c.loop-group.names)) ∙ (ap (λ es. vec_items c.loop-group.names ++ idle_keys c.args.tick es) (sym d) ∙ c.loop-group.invariant)
