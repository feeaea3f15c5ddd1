-- The public promise: the rule's answer, even, with the fewest buckets changed.
use Rattle.std.proofs.Common.{◌≡◌, ℕ, ◌<◌, true, List, length, get_or, sym, ◌∙◌, subst, arith}
use Rattle.std.proofs.lemmas.Bool.{ne_eqb}
use Rattle.std.proofs.lemmas.Bool.Decides.{nat_tests}
use Rattle.assignment.specs.Even.{Even, Fewest}
use Rattle.assignment.specs.Rule.{rises, rebalanced, is_buckets}
use Rattle.assignment.proofs.Servers.{listed_low}
use Rattle.assignment.proofs.Changes.{Fit}
use Rattle.assignment.proofs.Best.{even, fewest}
use Rattle.assignment.proofs.balance.rebalance.Goals as goal

pub returns : goal.returns
returns c =
    let ss = c.args.servers.now in
    let xs = c.args.assignment.now in
    let up : rises ss ≡ true = sym c.is_rising.ensures ∙ c.if-not-is_rising.false in
    let fit : Fit ss = record { rise = up; real = λ i. omega (arith, c.type_inv.servers i) } in
    let some : 0 < length ss = grind (arith, nat_tests) in
    let e : c.balance.new.assignment ≡ rebalanced ss xs = c.balance.ensures in
    let good : is_buckets (length xs) ≡ true = sym c.is_buckets.ensures ∙ c.if-not-is_buckets.false in
    let P : List ℕ → Type 0 = Even ss in
    let Q : List ℕ → Type 0 = Fewest ss xs in
    record {
      value = rw (good, ne_eqb (length ss) 0 (λ z. omega arith), up, e);
      even = subst P (sym e) (even ss xs fit some);
      fewest = subst Q (sym e) (fewest ss xs fit some);
      numbered = (omega (arith, c.balance.auto.assignment), subst (λ ys. (b : ℕ) → get_or ys b 0 < 256) (sym e) (listed_low ss (rebalanced ss xs) fit.real (even ss xs fit some).served));
    }
