-- Entries filed in slots: the entry of a key stands in the slot of its hash, once. Assumes nothing.
use Rattle.std.specs.Prelude.{ℕ, suc, ◌≤◌, Bool, true, not, ◌&&◌, List, [], ◌∷◌, ◌++◌, is_some, ◌==◌, nat_le}
use Rattle.std.specs.List.{AllByRecursion}
use Rattle.sessions.specs.declared.entry.Entry.{Entry}
use Rattle.sessions.specs.Keys.{slot_of}
use Rattle.sessions.specs.Entries.{seen_in}

-- all entries, slot after slot
abbrev pub flat : List (List Entry) → List Entry
flat [] = []
flat (s ∷ ss) = s ++ flat ss

-- what stands in slot n belongs there, and stands there once
abbrev pub filed : ℕ → List Entry → Bool
filed n [] = true
filed n (e ∷ es) = slot_of e.key == n && (not (is_some (seen_in e.key es)) && filed n es)

-- each slot, the first being slot n
abbrev pub tidy : ℕ → List (List Entry) → Bool
tidy n [] = true
tidy n (s ∷ ss) = filed n s && tidy (suc n) ss

-- the entries stand in the order of their slots
abbrev pub Ascending : List Entry → Type 0
Ascending [] = Unit {0}
Ascending (e ∷ es) = AllByRecursion (λ x. slot_of e.key ≤ slot_of x.key) es × Ascending es

-- no session had its last packet before the tick t
abbrev pub fresh : ℕ → List Entry → Bool
fresh t [] = true
fresh t (e ∷ es) = nat_le t e.seen && fresh t es
