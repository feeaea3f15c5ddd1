-- The tally of the place is one higher, or there is a new one.
use Rattle.std.proofs.Common.{vec_items, ap, arith, rules}
use Rattle.sessions.proofs.Sums.{hit_tally, raised_set}
use Rattle.sessions.proofs.tally.raise.Goals as goal

pub overflow_add-index_mut : goal.overflow_add-index_mut
overflow_add-index_mut c =
    let h = hit_tally c.args.place (vec_items c.args.tallies.now) c.in-Some.i c.index_mut.result.now (search rules) in
    omega (arith, h.2, ap (λ t. t.count) c.index_mut.ensures.value)

pub returns-in-Some : goal.returns-in-Some
returns-in-Some c q = raised_set c.args.place (vec_items c.args.tallies.now) c.in-Some.i c.index_mut.result.now (search rules) c.index_mut.ensures.value q
