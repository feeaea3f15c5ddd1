-- A number with one bit is a power of two, and no other is one.
use Rattle.std.proofs.Common.{refl, inl, inr, arith}
use Rattle.std.proofs.lemmas.Bool.{cases_Bool}
use Rattle.std.proofs.lemmas.Bool.Decides.{nat_tests}
use Rattle.flow.specs.Buckets.{is_bucket_count}
use Rattle.flow.proofs.Powers.{counts, counted}
use Rattle.flow.proofs.buckets.Buckets.new.Goals as goal
use Rattle.flow.proofs.buckets.Buckets.new.Goals.{then-count-lt-FEWEST-via-then-count-lt-FEWEST, then-count-lt-FEWEST-via-else-count-lt-FEWEST+then-count-gt-MOST, then-count-lt-FEWEST-via-else-count-lt-FEWEST+else-count-gt-MOST+then-not-is_power_of_two}

pub returns-then-count-lt-FEWEST : goal.returns-then-count-lt-FEWEST
returns-then-count-lt-FEWEST c = (
  refl,
  elim (cases_Bool (is_bucket_count c.args.count)) [
    | inl t ↦
        let n = counted c.args.count t in
        absurd (elim c.then-count-lt-FEWEST.branch [
          | then-count-lt-FEWEST-via-then-count-lt-FEWEST w ↦ omega (arith, w.if-count-lt-FEWEST.true)
          | then-count-lt-FEWEST-via-else-count-lt-FEWEST+then-count-gt-MOST w ↦ omega (arith, w.if-count-gt-MOST.true)
          | then-count-lt-FEWEST-via-else-count-lt-FEWEST+else-count-gt-MOST+then-not-is_power_of_two w ↦ grind (arith, nat_tests)
        ])
    | inr f ↦ f
  ],
)

pub invariant_of-result : goal.invariant_of-result
invariant_of-result c = record { ok = counts c.args.count c.if-count-lt-FEWEST.false c.if-count-gt-MOST.false (grind (arith, nat_tests)) }
