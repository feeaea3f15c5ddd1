-- One bucket more.
use Rattle.std.proofs.Common.{◌≤◌, ◌++◌, map, length, vec_items, sym, ap, ◌∙◌, arith, rules}
use Rattle.std.specs.Slice.Iter.{iter_rest}
use Rattle.flow.proofs.Powers.{counted}
use Rattle.server_bucket.specs.Kept.{holding}
use Rattle.server.specs.Kept.{sessions_of}
use Rattle.server.specs.Status.{busy_in, busy_from}
use Rattle.machine.proofs.Numbered.{left_more, left_none, walk_on}
use Rattle.server.proofs.Noted.{buckets_more, buckets_none, buckets_all}
use Rattle.server.proofs.kept.Server.status.Goals as goal

pub loop-number-init : goal.loop-number-init
loop-number-init c =
    let was = c.args.self.now in
    let b = counted was.buckets.count was.buckets.ok in
    let few : length c.deref.result.now ≤ 65536 = omega (arith, was.one_each, b.1, c.deref.ensures.len) in (search rules, search rules)

pub loop-number-preserved : goal.loop-number-preserved
loop-number-preserved c =
    let s = c.loop-number.number-iterator in
    let t = c.next.new.self in
    let n = c.in-Some.number in
    let x = c.in-Some.bucket.now in
    let p = c.in-Some.ensures.steps in
    let es = sessions_of c.args.self.now in
    let was = vec_items c.loop-number.busy in (
      walk_on s t c.loop-number.invariant.1 n x p holding (λ m hs. busy_from m es hs) (buckets_none es) was _ (buckets_more n es (holding x) (map holding (iter_rest t.b)) was _ (c.in_ok-note_bucket.ensures ∙ ap (λ xs. was ++ busy_in n es xs) c.standing.ensures)) ∙ c.loop-number.invariant.0,
      left_more s t c.loop-number.invariant.1 n x p,
    )

pub returns : goal.returns
returns c =
    let s = c.loop-number.number-iterator in
    sym (buckets_all s.a.start (sessions_of c.args.self.now) (iter_rest s.b) (vec_items c.loop-number.busy) (left_none s c.loop-number.invariant.1 c.in-None.ensures.steps)) ∙ c.loop-number.invariant.0
