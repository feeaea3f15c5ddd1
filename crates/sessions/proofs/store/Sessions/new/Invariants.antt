-- As many slots and lists of tallies as turns, and each is empty.
use Rattle.std.proofs.Common.{◌≡◌, map, vec_items, vec_len}
use Rattle.sessions.proofs.Stores.{Empty}
use Rattle.sessions.proofs.store.Sessions.new.Given as goal

abbrev pub invariant-loop-i : goal.invariant-loop-i
invariant-loop-i l =
    (vec_len l.slots ≡ l._i)
    × (vec_len l.tallies ≡ l._i)
    × Empty (map vec_items (vec_items l.slots))
    × Empty (map vec_items (vec_items l.tallies))
