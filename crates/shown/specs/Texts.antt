-- What is printed of places, ways, bytes and chains. Assumes nothing.
use Rattle.std.specs.Prelude.{◌≡◌, ℕ, ◌+◌, ◌/◌, ◌%◌, Bool, cond, List, [], ◌∷◌, ◌++◌, Option, Some, None, codes, decimal, nat_lt, flat_map}
use Rattle.std.specs.Fmt.{◌++?◌}
use Rattle.chain.specs.declared.way.Link.{Link}
use Rattle.chain.specs.declared.way.Way.{Way}
use Rattle.chain.specs.declared.way.Way.TheVariants.{Up, Down, Asked}
use Rattle.chain.specs.declared.place.Place.{Place}
use Rattle.chain.specs.declared.place.Standing.{Standing}
use Rattle.chain.specs.declared.place.Standing.TheVariants as Knows
use Rattle.chain.specs.declared.handover.Handover.{Handover}
use Rattle.chain.specs.declared.handover.Handover.TheVariants.{Idle, AwaitStood, AwaitTold}
use Rattle.flow.specs.Text.{key_text}
use Rattle.shown.specs.declared.text.NumberText.{NumberText}
use Rattle.shown.specs.declared.text.PacketText.{PacketText}
use Rattle.shown.specs.declared.text.PlaceText.{PlaceText}
use Rattle.shown.specs.declared.text.PlaceText.TheVariants as Shown

-- BYTES

abbrev pub hex_of : ℕ → ℕ
hex_of d = cond (nat_lt d 10) (48 + d) (87 + d)

-- two digits for each byte
abbrev pub byte_text : ℕ → List ℕ
byte_text b = hex_of (b / 16) ∷ hex_of (b % 16) ∷ []

abbrev pub hex_text : List ℕ → List ℕ
hex_text = flat_map byte_text

-- PLACES

abbrev pub link_text : Link → List ℕ
link_text l = codes "place " ++ (decimal l.place ++ (codes " of house " ++ decimal l.server))

-- the number of a place alone
abbrev pub number_of : NumberText → ℕ
number_of t = t.0

abbrev pub number_text : NumberText → List ℕ
number_text t = decimal (number_of t)

-- A neighbour, if there is one. Here and below `text` is what its own kind prints, if that is stated.
abbrev pub neighbour_text : {N : Type 0} → (N → Option (List ℕ)) → Option N → Option (List ℕ)
neighbour_text text (Some neighbour) = text neighbour
neighbour_text text None = Some (codes "none")

abbrev pub place_text : {N : Type 0} → (N → Option (List ℕ)) → PlaceText N → Option (List ℕ)
place_text text (Shown.Never here) = Some (link_text here.0 ++ codes " does not stand yet")
place_text text (Shown.Stands here before after) =
    Some (link_text here.0) ++? Some (codes " stands, before it ") ++? neighbour_text text before.0
    ++? Some (codes ", after it ") ++? neighbour_text text after.0
place_text text (Shown.Forgotten here after) = Some (link_text here.0) ++? Some (codes " is forgotten, after it ") ++? text after

-- what is shown of a neighbour, where `gives` is how its own kind is made of its place
abbrev pub NeighbourOf : {N : Type 0} → (Link → N → Type 0) → Option Link → Option N → Type 0
NeighbourOf gives None None = Unit {0}
NeighbourOf gives None (Some n) = ⊥
NeighbourOf gives (Some link) None = ⊥
NeighbourOf gives (Some link) (Some n) = gives link n

-- the same place, and the same neighbours
abbrev pub StandingOf : {N : Type 0} → (Link → N → Type 0) → Link → Standing → PlaceText N → Type 0
StandingOf gives link Knows.Never (Shown.Never here) = here.0 ≡ link
StandingOf gives link (Knows.Stands before after) (Shown.Stands here b a) =
    (here.0 ≡ link) × NeighbourOf gives before b.0 × NeighbourOf gives after a.0
StandingOf gives link (Knows.Forgotten after) (Shown.Forgotten here a) = (here.0 ≡ link) × gives after a
StandingOf gives link _ _ = ⊥

abbrev pub PlaceOf : {N : Type 0} → (Link → N → Type 0) → Place → PlaceText N → Type 0
PlaceOf gives p t = StandingOf gives p.link p.standing t

-- WAYS AND PACKETS

abbrev pub way_text : Way → List ℕ
way_text Up = codes "up"
way_text (Down by) = codes "down for place " ++ decimal by.place
way_text (Asked by) = codes "asked by place " ++ decimal by.place

abbrev pub opens_text : Bool → List ℕ
opens_text opens = cond opens (codes ", may open") []

abbrev pub packet_text : PacketText → List ℕ
packet_text p =
    codes "packet " ++ (key_text p.flow ++ (codes " to place " ++ (decimal p.place ++ (codes ", " ++ (way_text p.way ++ opens_text p.opens)))))

-- CHAINS

abbrev pub handover_text : Handover → List ℕ
handover_text Idle = codes " no change of hands"
handover_text (AwaitStood link) = codes " waits for " ++ (link_text link ++ codes " to stand")
handover_text (AwaitTold link) = codes " waits for the newest to be told of " ++ link_text link

-- each place behind a space and before a comma
abbrev pub links_text : List Link → List ℕ
links_text = flat_map (λ link. codes " " ++ (link_text link ++ codes ","))

abbrev pub chain_text : List Link → Handover → List ℕ
chain_text links handover = (codes "office keeps" ++ links_text links) ++ handover_text handover
