-- The worked cases: a packet's way from place to place, by the rules of a place alone. Assumes nothing.
use Rattle.std.specs.Prelude.{◌≡◌, Bool, true, false, cond, List, [], ◌∷◌, Some, None, Ok, Err, Option, Result}
use Rattle.fault.specs.declared.Fault.{Fault}
use Rattle.fault.specs.declared.Refusal.TheVariants.{Nobody}
use Rattle.flow.specs.declared.key.FlowKey.{FlowKey}
use Rattle.flow.specs.declared.key.Protocol.TheVariants.{Tcp}
use Rattle.chain.specs.declared.way.Link.{Link}
use Rattle.chain.specs.declared.way.Way.TheVariants.{Up, Down, Asked}
use Rattle.chain.specs.declared.way.Packet.{Packet}
use Rattle.chain.specs.declared.place.Standing.TheVariants.{Never}
use Rattle.chain.specs.declared.place.Place.{Place}
use Rattle.chain.specs.declared.place.Entry.{Entry}
use Rattle.chain.specs.declared.place.Entry.TheVariants.{Open, Vacant}
use Rattle.chain.specs.declared.place.Outcome.{Outcome}
use Rattle.chain.specs.declared.place.Outcome.TheVariants.{Delivered, Opened, Forwarded, Refused, Dropped}
use Rattle.chain.specs.Ways.{same_link}
use Rattle.chain.specs.Places.{told_to_stand, told_behind, handle}

-- what a packet finds where it is handled: the place as it is then, and what the store says of its session
pub record Moment : Type 0 where
  pub place : Place
  pub entry : Entry

-- a packet that is forwarded goes on from there; any other outcome is the last
abbrev onward : (Packet → List Outcome) → Packet → Outcome → List Outcome
onward rest p Delivered = Delivered ∷ []
onward rest p Opened = Opened ∷ []
onward rest p (Forwarded l w) = Forwarded l w ∷ rest (record { flow = p.flow; opens = p.opens; at = l; way = w })
onward rest p (Refused r) = Refused r ∷ []
onward rest p Dropped = Dropped ∷ []

-- what becomes of a packet, handling by handling; it is handled only at the place that it was sent to
unfoldable pub follow : List Moment → Packet → List Outcome
follow [] p = []
follow (m ∷ ms) p = cond (same_link p.at m.place.link) (onward (follow ms) p (handle m.place p m.entry)) []

-- a row of the table: a packet, what it finds at each handling, and what becomes of it each time
pub record Case : Type 0 where
  pub opens : Bool
  pub at : Link
  pub finds : List Moment
  pub outcomes : List Outcome

abbrev session : FlowKey
session = record { src = 167772167; dst = 167837953; sport = 4242; dport = 80; protocol = Tcp }

abbrev pub Holds : Case → Type 0
Holds r = follow r.finds (record { flow = session; opens = r.opens; at = r.at; way = Up }) ≡ r.outcomes

unfoldable pub AllHold : List Case → Type 0
AllHold [] = Unit {0}
AllHold (r ∷ rs) = Holds r × AllHold rs

-- place 1 at server 10, place 2 at server 20, place 3 at server 30
abbrev one : Link
one = record { place = 1; server = 10 }

abbrev two : Link
two = record { place = 2; server = 20 }

abbrev three : Link
three = record { place = 3; server = 30 }

-- the places by the messages that they were told
abbrev or_never : Link → Result Place Fault → Place
or_never l (Ok x) = x
or_never l (Err f) = record { link = l; standing = Never }

abbrev standing : Link → Option Link → Place
standing l b = or_never l (told_to_stand b (record { link = l; standing = Never }))

abbrev followed_by : Link → Place → Place
followed_by a x = or_never x.link (told_behind a x)

abbrev one_alone : Place
one_alone = standing one None

abbrev one_of_two : Place
one_of_two = followed_by two one_alone

abbrev two_of_two : Place
two_of_two = standing two (Some one)

abbrev two_of_three : Place
two_of_three = followed_by three two_of_two

abbrev three_of_three : Place
three_of_three = standing three (Some two)

-- the session is open there at that moment, or not
abbrev has : Place → Moment
has x = record { place = x; entry = Open }

abbrev lacks : Place → Moment
lacks x = record { place = x; entry = Vacant }

abbrev pub table : List Case
table =
    -- one place, a packet that may open: up, nobody, asked, opened: two handlings
    record { opens = true; at = one; finds = lacks one_alone ∷ lacks one_alone ∷ []; outcomes = Forwarded one (Asked one) ∷ Opened ∷ [] } ∷
    -- places 1 and 2, the session open in 1, the balancer knows 2: up at 2, down to 1, delivered
    record { opens = false; at = two; finds = lacks two_of_two ∷ has one_of_two ∷ []; outcomes = Forwarded one (Down two) ∷ Delivered ∷ [] } ∷
    -- the same, the session open in 2, the balancer knows 1: up to 2, delivered
    record { opens = false; at = one; finds = lacks one_of_two ∷ has two_of_two ∷ []; outcomes = Forwarded two Up ∷ Delivered ∷ [] } ∷
    -- two copies of an opening packet. The one at 1 is forwarded up, asks, and is asked first: it opens
    record {
      opens = true;
      at = one;
      finds = lacks one_of_two ∷ lacks two_of_two ∷ lacks one_of_two ∷ lacks two_of_two ∷ [];
      outcomes = Forwarded two Up ∷ Forwarded one (Down two) ∷ Forwarded two (Asked two) ∷ Opened ∷ [];
    } ∷
    -- the one at 2 asks too, and is delivered to the same session
    record { opens = true; at = two; finds = lacks two_of_two ∷ lacks one_of_two ∷ has two_of_two ∷ []; outcomes = Forwarded one (Down two) ∷ Forwarded two (Asked two) ∷ Delivered ∷ [] } ∷
    -- while a packet is down at 1, place 3 is made: asked at 2, forwarded up to 3, all again
    record {
      opens = true;
      at = two;
      finds = lacks two_of_two ∷ lacks one_of_two ∷ lacks two_of_three ∷ lacks three_of_three ∷ lacks two_of_three ∷ lacks one_of_two ∷ lacks three_of_three ∷ [];
      outcomes = Forwarded one (Down two) ∷ Forwarded two (Asked two) ∷ Forwarded three Up ∷ Forwarded two (Down three) ∷ Forwarded one (Down three) ∷ Forwarded three (Asked three) ∷ Opened ∷ [];
    } ∷
    -- a packet that may not open, its session closed: refused
    record { opens = false; at = two; finds = lacks two_of_two ∷ lacks one_of_two ∷ []; outcomes = Forwarded one (Down two) ∷ Refused Nobody ∷ [] } ∷ []

abbrev pub WorkedCases : Type 0
WorkedCases = AllHold table
