-- The struct of what a server keeps of one bucket, as the rules know it. Assumes nothing.
use Rattle.places.specs.Kept.{known}
use Rattle.server_bucket.specs.declared.kept.Bucket.{Bucket}
use Rattle.server_bucket.specs.Rules.{Holding}

abbrev pub holding : Bucket → Holding
holding b = record { known = known b.places; farewells = b.farewells.items }
