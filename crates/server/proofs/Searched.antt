-- All buckets are left when each is. Assumes nothing.
use Rattle.std.specs.List.{list_all}
use Rattle.std.proofs.Common.{◌≡◌, List, [], ◌∷◌, map, refl}
use Rattle.server_bucket.specs.declared.kept.Bucket.{Bucket}
use Rattle.server_bucket.specs.Kept.{holding}
use Rattle.server.specs.Rules.{is_left, all_left}

pub left_all : (bs : List Bucket) → list_all (λ b. is_left (holding b)) bs ≡ all_left (map holding bs)
unfolding all_left
left_all [] = refl
left_all (b ∷ bs) = let ih = left_all bs in rw ih refl
