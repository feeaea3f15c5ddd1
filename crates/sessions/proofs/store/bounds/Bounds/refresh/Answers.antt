-- A bound made anew is the least tick of its group.
use Rattle.std.proofs.Common.{◌≡◌, ◌*◌, ◌/◌, map, length, get_or, set, take, drop, fold, min, vec_items, ap, ◌∙◌, inl, inr, arith}
use Rattle.std.proofs.lemmas.Bool.{cases_eq}
use Rattle.std.proofs.lemmas.List.{length-set, set-get_or, get_or-set_same, get_or-set_other}
use Rattle.std.specs.List.{flat_map}
use Rattle.sessions.specs.Kept.{Bounded}
use Rattle.sessions.proofs.Files.{Fresh}
use Rattle.sessions.proofs.Groups.{chunk_at, group_of, flat_items, renewed, written}
use Rattle.sessions.proofs.Lapse.{least_fresh}
use Rattle.sessions.proofs.store.bounds.Bounds.refresh.Goals as goal
use Rattle.sessions.proofs.store.bounds.Bounds.refresh.Goals.{then-is_idle, else-is_idle}

bounded : (c : goal.After-min-oldest) → Bounded (map vec_items c.args.slots.now) (set c.loop-group.bound-items c.loop-group.group c.if-is_idle.bound)
bounded c =
    let i = c.loop-group.invariant in
    let vs = c.args.slots.now in
    let g = c.loop-group.group in
    elim c.if-is_idle.branch [
      | then-is_idle w ↦
          let n : length c.args.slots.now / 16 ≡ 4096 = omega (arith, c.requires.0) in
          let at : get_or c.as_chunks.result.0.now c.loop-group.group w.index-groups-group.result ≡ take 16 (drop (c.loop-group.group * 16) c.args.slots.now) =
          rw (c.as_chunks.ensures.front, n) (chunk_at 4096 c.loop-group.group c.args.slots.now w.index-groups-group.result (omega (arith, i.0))) in
          let q : w.least.result ≡ fold (λ o e. min o e.seen) c.args.tick (group_of c.args.slots.now c.loop-group.group) =
          w.least.ensures ∙ (ap (λ ws. fold (λ o e. min o e.seen) c.args.tick (flat_map vec_items ws)) (w.index-groups-group.is ∙ at) ∙ ap (fold (λ o e. min o e.seen) c.args.tick) (flat_items (take 16 (drop (c.loop-group.group * 16) c.args.slots.now)))) in
          let f : Fresh w.least.result (group_of c.args.slots.now c.loop-group.group) = rw q (least_fresh c.args.tick (group_of c.args.slots.now c.loop-group.group)) in
          rw w.bound-is (renewed vs c.loop-group.bound-items g w.least.result i.0 (omega (arith, i.0)) i.1 f)
      | else-is_idle w ↦ rw (w.bound-is, set-get_or c.loop-group.bound-items c.loop-group.group 0) i.1
    ]

pub loop-group-preserved : goal.loop-group-preserved
loop-group-preserved c =
    let i = c.loop-group.invariant in
    let bs = c.loop-group.bound-items in
    let b = c.if-is_idle.bound in (
      length-set bs c.loop-group.group b ∙ i.0,
      bounded c,
      λ g h. elim (cases_eq g c.loop-group.group) [
        | inl e ↦ rw (e, get_or-set_same bs c.loop-group.group b 0 (omega (arith, i.0))) (omega (arith, c.min-oldest.ensures))
        | inr n ↦ rw (get_or-set_other bs c.loop-group.group g b 0 n) (omega (arith, i.2 g (omega arith), c.min-oldest.ensures))
      ],
    )

pub returns-clause-least : goal.returns-clause-least
returns-clause-least c g h =
    let t = c.args.self.now.ticks in
    let i = c.loop-group.invariant in
    rw (written t.len c.loop-group.bound-items (vec_items t) (omega (arith, i.0, t.ok.0, c.args.self.now.long)) (omega (arith, t.ok.0))) (i.2 g (omega (arith, h, i.0, c.loop-group-test.false)))
