-- Of a bucket that is not there a server knows no place. Assumes nothing.
use Rattle.std.proofs.Common.{◌≡◌, ℕ, ◌≤◌, false, List, map, length, get_or, is_some, refl, arith}
use Rattle.std.proofs.lemmas.List.{length-map, get_or_past}
use Rattle.places.specs.Rules.{find, find_in}
use Rattle.server_bucket.specs.declared.kept.Bucket.{Bucket}
use Rattle.server_bucket.specs.Rules.{unheld}
use Rattle.server_bucket.specs.Kept.{holding}

pub none_held : (bs : List Bucket) (b n : ℕ) → length bs ≤ b → false ≡ is_some (find n (get_or (map holding bs) b unheld).known)
unfolding find_in
none_held bs b n h = rw (get_or_past (map holding bs) b unheld (omega (arith, length-map bs holding))) refl
