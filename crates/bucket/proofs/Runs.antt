-- The runs of the protocol, step by step; that each step is one is computed. Assumes nothing.
use Rattle.std.proofs.Common.{true, false, Some, refl, arith}
use Rattle.flow.specs.Key.{same_flow}
use Rattle.chain.specs.declared.way.Way.TheVariants.{Up, Down, Asked}
use Rattle.chain.specs.Places.{handle}
use Rattle.bucket.specs.Sessions.{is_in, without, bump}
use Rattle.bucket.specs.Model.{NotOpen, OpenAt, link_to, begins, stands, introduces, follows, confirms, announces, hears, comes, arrives, closes, forgets}
use Rattle.bucket.specs.Runs.{SomeRuns}
use Rattle.bucket.proofs.Play.{session, not_open, is_open, host, Run, then, packet, newest_word, one, opening, back}

-- the session is opened in place 1
abbrev asked : Run handle
unfolding is_in same_flow
asked = then (one handle) (arrives true opening newest_word)

abbrev talking : Run handle
unfolding is_in same_flow
talking = then asked (arrives true back newest_word)

-- a handover from place 1 to place 2
abbrev handed_over : Run handle
unfolding is_in same_flow
handed_over =
    let a = then talking (begins (link_to host 2) refl (omega arith) refl) in
    let b = then a (stands (link_to host 2) (Some (link_to host 1)) newest_word) in
    let c = then b (introduces (link_to host 2) newest_word) in
    let d = then c (follows (link_to host 1) (link_to host 2) newest_word) in
    then d (confirms (link_to host 1) (link_to host 2) newest_word)

-- the balancer hears of it, and sends a packet to place 2, which forwards it down
abbrev found : Run handle
unfolding is_in same_flow
found =
    let a = then handed_over (announces 0) in
    let b = then a (hears 0 (link_to host 2) newest_word) in
    let c = then b (comes 0 session false (OpenAt 1) (is_open b.state 1 tt)) in
    then c (arrives true (packet false 2 Up (OpenAt 1) 0) newest_word)

-- or: the session is closed, place 1 is forgotten, and the balancer, which has heard nothing, sends an opening packet there; it goes up, down and is asked
abbrev past : Run handle
unfolding is_in same_flow without bump
past =
    let a = then handed_over (closes session 1 tt) in
    let b = then a (forgets 1) in
    let c = then b (comes 0 session true NotOpen (not_open b.state)) in
    let d = then c (arrives true (packet true 1 Up NotOpen 1) newest_word) in
    let e = then d (arrives true (packet true 2 Up NotOpen 1) newest_word) in
    then e (arrives true (packet true 1 (Down (link_to host 2)) NotOpen 1) newest_word)

-- or: the session is closed while a packet is on its way to it
abbrev late : Run handle
unfolding is_in same_flow without bump
late =
    let a = then talking (comes 0 session false (OpenAt 1) (is_open talking.state 1 tt)) in
    then a (closes session 1 tt)

pub runs : SomeRuns
unfolding is_in same_flow without bump
runs = (
  host,
  record {
    opens_session = (asked.state, _, back, asked.reached, refl, arrives true back newest_word);
    finds_old = (found.state, _, packet false 1 (Down (link_to host 2)) (OpenAt 1) 0, found.reached, refl, refl, refl, arrives true (packet false 1 (Down (link_to host 2)) (OpenAt 1) 0) newest_word);
    opens_past_forgotten =
        (past.state, _, packet true 2 (Asked (link_to host 2)) NotOpen 1, past.reached, refl, refl, refl, arrives true (packet true 2 (Asked (link_to host 2)) NotOpen 1) newest_word);
    refuses_closed = (late.state, _, packet false 1 Up (OpenAt 1) 0, late.reached, refl, arrives true (packet false 1 Up (OpenAt 1) 0) newest_word);
  },
)
