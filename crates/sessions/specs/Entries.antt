-- The open sessions as a plain list of entries, each key at most once. Assumes nothing.
use Rattle.std.specs.Prelude.{◌≡◌, ℕ, ◌+◌, Bool, cond, List, [], ◌∷◌, Some, None, count_by, Option, nat_le}
use Rattle.sessions.specs.declared.key.Key.{Key}
use Rattle.sessions.specs.declared.entry.Entry.{Entry}
use Rattle.sessions.specs.Keys.{same_key, in_place}

-- the tick of a session's last packet, if it is open
abbrev pub seen_in : Key → List Entry → Option ℕ
seen_in k [] = None
seen_in k (e ∷ es) = cond (same_key e.key k) (Some e.seen) (seen_in k es)

-- no key stands twice
abbrev pub Once : List Entry → Type 0
Once [] = Unit {0}
Once (e ∷ es) = (seen_in e.key es ≡ None) × Once es

abbrev pub without : Key → List Entry → List Entry
without k [] = []
without k (e ∷ es) = cond (same_key e.key k) es (e ∷ without k es)

-- with the tick t for the session
abbrev pub noted : Key → ℕ → List Entry → List Entry
noted k t [] = []
noted k t (e ∷ es) = cond (same_key e.key k) (record { key = k; seen = t } ∷ es) (e ∷ noted k t es)

-- how many are open in place p of bucket b
abbrev pub count_in : ℕ → ℕ → List Entry → ℕ
count_in b p es = count_by (λ e. in_place b p e.key) es

-- an hour, in ticks of a 256th of a second, has passed since the tick t
abbrev pub is_idle : ℕ → ℕ → Bool
is_idle now t = nat_le (t + 921600) now

abbrev pub idle_keys : ℕ → List Entry → List Key
idle_keys now [] = []
idle_keys now (e ∷ es) = cond (is_idle now e.seen) (e.key ∷ idle_keys now es) (idle_keys now es)

abbrev pub staying : ℕ → List Entry → List Entry
staying now [] = []
staying now (e ∷ es) = cond (is_idle now e.seen) (staying now es) (e ∷ staying now es)

-- what an hour without packets leaves of a session
abbrev pub lapsed : ℕ → Option ℕ → Option ℕ
lapsed now None = None
lapsed now (Some t) = cond (is_idle now t) None (Some t)
