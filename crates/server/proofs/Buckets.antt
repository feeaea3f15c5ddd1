-- What a server keeps of a bucket, in the list of all. Assumes nothing.
use Rattle.std.proofs.Common.{◌≡◌, ℕ, ◌<◌, true, ltb, List, map, length, get_or, set, sym, ap, ◌∙◌, arith}
use Rattle.std.proofs.lemmas.List.{map-set, get_or-map, length-map, set-get_or}
use Rattle.std.proofs.lemmas.Bool.{lt-ltb}
use Rattle.server_bucket.specs.declared.kept.Bucket.{Bucket}
use Rattle.server_bucket.specs.Rules.{unheld}
use Rattle.server_bucket.specs.Kept.{holding}

-- what was read is what the rule reads
pub held_at : (bs : List Bucket) (b : ℕ) (s : Bucket) → b < length bs → s ≡ get_or bs b s → get_or (map holding bs) b unheld ≡ holding s
held_at bs b s h g = get_or-map holding bs b s unheld h ∙ ap holding (sym g)

pub within_buckets : (bs : List Bucket) (b : ℕ) → b < length bs → ltb b (length (map holding bs)) ≡ true
within_buckets bs b h = lt-ltb b (length (map holding bs)) (omega (arith, length-map bs holding))

-- a bucket that is as it was
pub same_set : (bs : List Bucket) (b : ℕ) (s s' : Bucket) → b < length bs → s ≡ get_or bs b s → holding s' ≡ holding s → map holding (set bs b s') ≡ map holding bs
same_set bs b s s' h g e = map-set holding bs b s' ∙ (ap (set (map holding bs) b) (e ∙ sym (held_at bs b s h g)) ∙ set-get_or (map holding bs) b unheld)
