-- One bucket more is counted.
use Rattle.std.proofs.Common.{◌≡◌, ◌+◌, get_or, sym, refl, ap, ◌∙◌, arith}
use Rattle.std.proofs.lemmas.List.{get_or-replicate, length-set}
use Rattle.assignment.specs.Even.{count}
use Rattle.assignment.proofs.Servers.{server_is, server_not, counted, passed_over, count_le, count_drop_le}
use Rattle.assignment.proofs.counts.counts.Goals as goal
use Rattle.assignment.proofs.counts.counts.Goals.{in-Some, in_default}

pub loop-entry-init : goal.loop-entry-init
loop-entry-init c = (refl, λ s h. ap (λ n. n + count s c.args.assignment.now) (get_or-replicate 256 s 0 0 h) ∙ omega arith)

pub overflow_add-counts : goal.overflow_add-counts
overflow_add-counts c =
    let xs = c.args.assignment.now in
    let x = get_or xs c.loop-entry.entry-index 0 in
    let e = server_is x c.in-Some.server (sym c.server_of.ensures ∙ c.in-Some.is) in
    omega (arith, e.0, c.from.ensures, c.loop-entry.invariant.1 x e.1, count_le x xs, count_drop_le x xs c.loop-entry.entry-index (omega arith) refl, ap (λ k. get_or c.loop-entry.counts k 0) (c.from.ensures ∙ e.0))

pub loop-entry-preserved : goal.loop-entry-preserved
loop-entry-preserved c =
    let xs = c.args.assignment.now in
    let b = c.loop-entry.entry-index in
    let x = get_or xs b 0 in
    let cs = c.loop-entry.counts in
    elim c.match-server_of.branch [
      | in-Some w ↦
          let e = server_is x w.in-Some.server (sym c.server_of.ensures ∙ w.in-Some.is) in
          let at : w.from.result ≡ x = w.from.ensures ∙ e.0 in
          rw (w.counts-is, at) (length-set cs x (get_or cs x 0 + 1) ∙ c.loop-entry.invariant.0, λ s h. counted s x xs cs b (omega arith) refl (omega (arith, e.1)) (c.loop-entry.invariant.1 s h))
      | in_default w ↦
          let n = server_not x (sym c.server_of.ensures ∙ w.in_default.is) in
          rw w.counts-is (c.loop-entry.invariant.0, λ s h. ap (λ n. get_or cs s 0 + n) (passed_over s xs b (omega arith) (omega arith)) ∙ c.loop-entry.invariant.1 s h)
    ]
