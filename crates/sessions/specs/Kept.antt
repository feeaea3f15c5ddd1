-- What holds of the fields of a store of sessions at all times. Assumes nothing.
use Rattle.std.specs.Prelude.{◌≡◌, ℕ, ◌/◌, ◌<◌, ◌≤◌, true, List, [], length, slice_index, slice_index_or}
use Rattle.sessions.specs.declared.entry.Entry.{Entry}
use Rattle.sessions.specs.declared.tally.Tally.{Tally}
use Rattle.sessions.specs.Entries.{count_in}
use Rattle.sessions.specs.Slots.{flat, tidy, fresh}
use Rattle.sessions.specs.Tallies.{tallied_in}

-- each session stands in its slot, once
abbrev pub InSlots : List (List Entry) → Type 0
InSlots slots = (length slots ≡ 65536) × (tidy 0 slots ≡ true)

-- a list of tallies for each bucket
abbrev pub Listed : List (List Tally) → Type 0
Listed tallies = length tallies ≡ 65536

-- len is their number
abbrev pub Numbered : List (List Entry) → ℕ → Type 0
Numbered slots len = (len ≡ length (flat slots)) × (len ≤ 65536)

-- each bucket's tallies are right for each place
abbrev pub Tallied : List (List Entry) → List (List Tally) → Type 0
Tallied slots tallies = (b p : ℕ) → b < 65536 → tallied_in p (slice_index_or tallies b []) ≡ count_in b p (flat slots)

-- no session had its last packet before the tick oldest
abbrev pub NoneBefore : List (List Entry) → ℕ → Type 0
NoneBefore slots oldest = fresh oldest (flat slots) ≡ true

-- a bound for each group of sixteen slots: no session of the group had its last packet before it
abbrev pub Grouped : List ℕ → Type 0
Grouped bounds = length bounds ≡ 4096

abbrev pub Bounded : List (List Entry) → List ℕ → Type 0
Bounded slots bounds = (i : ℕ) → fresh (slice_index bounds (i / 16)) (slice_index_or slots i []) ≡ true
