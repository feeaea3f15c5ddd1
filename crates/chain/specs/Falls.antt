-- What is true of every chain that the controller keeps: its numbers fall, and a handover has room. Assumes nothing.
use Rattle.std.specs.Prelude.{ℕ, Bool, true, ◌&&◌, List, [], ◌∷◌, nat_lt}
use Rattle.chain.specs.declared.way.Link.{Link}
use Rattle.chain.specs.declared.handover.Handover.{Handover}
use Rattle.chain.specs.declared.handover.Handover.TheVariants.{Idle, AwaitStood, AwaitTold}

abbrev pub under : ℕ → List Link → Bool
under n [] = true
under n (l ∷ ls) = nat_lt l.place n

-- from the newest to the oldest
unfoldable pub falls : List Link → Bool
falls [] = true
falls (l ∷ ls) = under l.place ls && falls ls

-- of the number of places kept, and the newest place's number: the place that is being made has room, and a higher number
abbrev pub awaits : ℕ → ℕ → Handover → Bool
awaits len newest Idle = true
awaits len newest (AwaitStood l) = nat_lt len 8 && nat_lt newest l.place
awaits len newest (AwaitTold l) = nat_lt len 8 && nat_lt newest l.place
