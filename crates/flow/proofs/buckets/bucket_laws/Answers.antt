-- The two laws of the bucket.
use Rattle.flow.proofs.Powers.{same_fields, doubling}
use Rattle.flow.proofs.buckets.bucket_laws.Goals as goal

pub returns : goal.returns
returns c = record { fields = same_fields; doubled = doubling }
