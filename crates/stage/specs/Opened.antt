-- The open sessions, each at its place, by their list. Assumes nothing.
use Rattle.std.specs.Prelude.{ℕ, Bool, cond, not, ◌&&◌, List, vec_items, count_by, find, Option, ◌==◌, nat_lt}
use Rattle.std.specs.List.{list_any, list_all}
use Rattle.flow.specs.declared.key.FlowKey.{FlowKey}
use Rattle.flow.specs.Key.{same_flow}
use Rattle.chain.specs.declared.way.Link.{Link}
use Rattle.chain.specs.declared.place.Entry.{Entry}
use Rattle.chain.specs.declared.place.Entry.TheVariants.{Open, Vacant, Full}
use Rattle.chain.specs.Ways.{same_link}
use Rattle.sessions.specs.Entries.{is_idle}
use Rattle.stage.specs.declared.session.Session.{Session}
use Rattle.stage.specs.declared.session.Sessions.{Sessions}

abbrev pub opened : Sessions → List Session
opened s = vec_items s.«open»

abbrev pub is_of : Link → FlowKey → Session → Bool
is_of a f s = same_link s.at a && same_flow s.flow f

-- is it open at this place?
abbrev pub open_at : Link → FlowKey → List Session → Bool
open_at a f ss = list_any (is_of a f) ss

-- how many are open at a server, in all its places
abbrev pub count_at : ℕ → List Session → ℕ
count_at v ss = count_by (λ s. s.at.server == v) ss

-- what the server says of a session at this place
abbrev pub entry_at : ℕ → Link → FlowKey → List Session → Entry
entry_at most a f ss = cond (open_at a f ss) Open (cond (nat_lt (count_at a.server ss) most) Vacant Full)

-- is none open at this place?
abbrev pub empty_at : Link → List Session → Bool
empty_at a ss = list_all (λ s. not (same_link s.at a)) ss

-- the first that had no packet for an hour
abbrev pub first_idle : ℕ → List Session → Option Session
first_idle tick ss = find (λ s. is_idle tick s.seen) ss
