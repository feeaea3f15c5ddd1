-- The open sessions of a server, by place. Assumes nothing.
use Rattle.std.specs.Prelude.{ℕ, suc, cond, List, [], ◌∷◌, ◌++◌}
use Rattle.chain.specs.declared.place.Place.{Place}
use Rattle.sessions.specs.declared.entry.Entry.{Entry}
use Rattle.sessions.specs.Entries.{count_in}
use Rattle.server_bucket.specs.Rules.{Holding}
use Rattle.server.specs.declared.busy.Busy.{Busy}
use Rattle.server.specs.Rules.{is_empty}

-- place n of bucket b, if a session is open in it
abbrev pub busy_at : ℕ → ℕ → List Entry → List Busy
busy_at b n es = cond (is_empty b n es) [] (record { bucket = b; place = n; sessions = count_in b n es } ∷ [])

-- of these places of bucket b, the newest first
unfoldable pub busy_in : ℕ → List Entry → List Place → List Busy
busy_in b es [] = []
busy_in b es (x ∷ xs) = busy_at b x.link.place es ++ busy_in b es xs

-- of the buckets from b on
unfoldable pub busy_from : ℕ → List Entry → List Holding → List Busy
busy_from b es [] = []
busy_from b es (h ∷ hs) = busy_in b es h.known.standing ++ busy_from (suc b) es hs
