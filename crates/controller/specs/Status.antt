-- What the operator is shown: handovers that are put off, and servers that may be switched off. Assumes nothing.
use Rattle.std.specs.Prelude.{ℕ, suc, Bool, cond, ◌&&◌, List, [], ◌∷◌, nat_lt, slice_index}
use Rattle.controller_bucket.specs.Rules.{Charge, oldest}
use Rattle.controller.specs.declared.status.Waiting.{Waiting}
use Rattle.controller.specs.Rules.{Ruling, up_from, is_parted}

-- of the buckets from b on: each whose handover is put off, with the oldest place of its chain, which holds it up
unfoldable pub waiting_from : ℕ → List Charge → List Waiting
waiting_from b [] = []
waiting_from b (c ∷ cs) = cond c.reported (record { bucket = b; oldest = oldest c } ∷ waiting_from (suc b) cs) (waiting_from (suc b) cs)

abbrev pub waiting : Ruling → List Waiting
waiting k = waiting_from 0 k.charges

-- it left a chain, and may be switched off. A server that never was in a chain has not left one
abbrev pub may_go : ℕ → Ruling → Bool
may_go s k = nat_lt 0 (slice_index k.parted s) && is_parted s k

-- those of some servers that may
unfoldable pub go_of : Ruling → List ℕ → List ℕ
go_of k [] = []
go_of k (s ∷ ss) = cond (may_go s k) (s ∷ go_of k ss) (go_of k ss)

-- servers have the numbers below 256
abbrev pub leaving : Ruling → List ℕ
leaving k = go_of k (up_from 0 256)
