-- What a balancer does: where it begins, what it makes of news, and where it sends a packet. Assumes nothing.
use Rattle.std.specs.Prelude.{◌≡◌, ℕ, max, Bool, true, false, cond, ◌&&◌, ◌⊎◌, List, [], ◌∷◌, ◌++◌, map, length, Ok, Err, vec_items, fold, Result, ◌==◌, nat_lt, slice_index_or, slice_set}
use Rattle.std.specs.List.{list_all}
use Rattle.fault.specs.declared.Error.{Error}
use Rattle.fault.specs.declared.Error.TheVariants.{Of, Memory}
use Rattle.fault.specs.declared.Fault.{Fault}
use Rattle.fault.specs.declared.Fault.TheVariants.{NoSuch}
use Rattle.flow.specs.declared.ipv4.Flow.{Flow}
use Rattle.flow.specs.Buckets.{bucket_of}
use Rattle.flow.specs.Ipv4.{read_spec}
use Rattle.chain.specs.declared.way.Link.{Link}
use Rattle.chain.specs.declared.way.Way.TheVariants.{Up}
use Rattle.chain.specs.Ways.{heard_link}
use Rattle.wire.specs.Meant.{Meant, Carried}
use Rattle.wire.specs.Messages.{encode}
use Rattle.balancer.specs.declared.Balancer.{Balancer}
use Rattle.balancer.specs.declared.News.{News}

-- for each bucket the link of the highest place that it heard of
abbrev pub links_of : Balancer → List Link
links_of b = vec_items b.links

abbrev pub link_at : List Link → ℕ → Link
link_at known b = slice_index_or known b (record { place = 0; server = 0 })

-- THE START

abbrev pub is_server : ℕ → Bool
is_server s = nat_lt s 256

abbrev pub are_servers : List ℕ → Bool
are_servers ss = list_all is_server ss

-- each of B buckets has a server
abbrev pub is_assignment : ℕ → List ℕ → Bool
is_assignment B servers = length servers == B && are_servers servers

abbrev pub first_link : ℕ → Link
first_link s = record { place = 1; server = s }

-- place 1 of each bucket stands at its server
abbrev pub first_links : List ℕ → List Link
first_links servers = map first_link servers

-- how a balancer of B buckets begins
abbrev pub Begins : ℕ → List ℕ → Result Balancer Error → Type 0
Begins B servers (Ok b) = (is_assignment B servers ≡ true) × (b.buckets.count ≡ B) × (links_of b ≡ first_links servers)
Begins B servers (Err Memory) = is_assignment B servers ≡ true
Begins B servers (Err (Of f)) = (is_assignment B servers ≡ false) × (f ≡ NoSuch)

-- NEWS

-- a contradiction changes nothing
abbrev pub kept : ℕ → List Link → Result Link Fault → Result (Unit {0}) Fault × List Link
kept b known (Ok link) = (Ok tt, slice_set known b link)
kept b known (Err f) = (Err f, known)

-- it is told of a bucket's newest place: the answer, and what it knows then
abbrev pub hears : ℕ → Link → List Link → Result (Unit {0}) Fault × List Link
hears b said known = cond (nat_lt b (length known)) (kept b known (heard_link (link_at known b) said)) (Err NoSuch, known)

abbrev pub knows : List Link → News → List Link
knows known n = (hears n.bucket n.newest known).1

-- what it knows after many news, one by one
abbrev pub knows_all : List Link → List News → List Link
knows_all known news = fold knows known news

-- the highest place, of the one known before and those told of the bucket b
abbrev pub highest : ℕ → ℕ → List News → ℕ
highest b place [] = place
highest b place (n ∷ news) = highest b (cond (n.bucket == b) (max place n.newest.place) place) news

-- the link known before, or one that was told of the bucket b
abbrev pub KnownOrTold : ℕ → Link → List News → Link → Type 0
KnownOrTold b known [] link = link ≡ known
KnownOrTold b known (n ∷ news) link = KnownOrTold b known news link ⊎ ((n.bucket ≡ b) × (link ≡ n.newest))

-- PACKETS

-- to the server of the place that is known of its bucket, up
abbrev pub carried_to : ℕ → Link → Flow → List ℕ → ℕ × Meant
carried_to b link flow bs = (link.server, Carried (record { bucket = b; place = link.place; way = Up; opens = flow.opens }) flow.key bs)

abbrev pub sends_flow : ℕ → List Link → List ℕ → Result Flow Fault → Result (ℕ × Meant) Fault
sends_flow B known bs (Ok flow) = Ok (carried_to (bucket_of flow.key B) (link_at known (bucket_of flow.key B)) flow bs)
sends_flow B known bs (Err f) = Err f

-- to which server a packet from outside goes, and in which message; or what is wrong with it
abbrev pub sends : ℕ → List Link → List ℕ → Result (ℕ × Meant) Fault
sends B known bs = sends_flow B known bs (read_spec bs)

-- the answer, and what is written behind what was there: all of the message, or nothing
abbrev pub Sent : Result (ℕ × Meant) Fault → Result ℕ Error → List ℕ → List ℕ → Type 0
Sent (Ok p) (Ok server) was after = (server ≡ p.0) × (after ≡ was ++ encode p.1)
Sent (Ok p) (Err Memory) was after = after ≡ was
Sent (Ok p) (Err (Of f)) was after = ⊥
Sent (Err f) (Ok server) was after = ⊥
Sent (Err f) (Err Memory) was after = ⊥
Sent (Err f) (Err (Of g)) was after = (g ≡ f) × (after ≡ was)
