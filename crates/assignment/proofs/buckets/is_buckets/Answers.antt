-- The number of buckets is the session key's.
use Rattle.std.proofs.Common.{rules, sym}
use Rattle.flow.specs.Buckets.{is_bucket_count, power_to}
use Rattle.assignment.proofs.Numbers.{same_number}
use Rattle.assignment.proofs.buckets.is_buckets.Goals as goal

pub returns : goal.returns
unfolding is_bucket_count power_to
returns c = rw (sym (same_number c.args.buckets)) (search rules)
