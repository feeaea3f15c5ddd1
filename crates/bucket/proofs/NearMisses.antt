-- Each near miss breaks a promise: the run that breaks it, step by step; that each step is one is computed. Assumes nothing.
use Rattle.std.proofs.Common.{true, false, Some, refl, arith}
use mathlib.Core.List.Memᴰ
use Rattle.fault.specs.declared.Refusal.TheVariants.{Nobody}
use Rattle.flow.specs.Key.{same_flow}
use Rattle.chain.specs.declared.way.Way.TheVariants.{Up, Down, Asked}
use Rattle.bucket.specs.Sessions.{is_in, count}
use Rattle.bucket.specs.Model.{NotOpen, OpenAt, start, link_to, begin, begins, stands, introduces, follows, confirms, announces, hears, comes, arrives}
use Rattle.bucket.specs.NearMisses.{refuses_old, opens_at_once, asks_from_anywhere, opens_though_told, opens_again, BreaksOnePlace, BreaksOnce, BreaksNotRefused, AllBreak}
use Rattle.bucket.proofs.Play.{session, not_open, is_open, host, Run, then, packet, newest_word, one, opening, back}

-- Refuses whatever isn't at the newest place: the session is open in place 1, the bucket is handed over, and the balancer sends its next packet to place 2.
abbrev old_talk : Run refuses_old
unfolding is_in same_flow
old_talk = then (then (one refuses_old) (arrives true opening newest_word)) (arrives true back newest_word)

abbrev old_sent : Run refuses_old
unfolding is_in same_flow
old_sent =
    let a = then old_talk (begins (link_to host 2) refl (omega arith) refl) in
    let b = then a (stands (link_to host 2) (Some (link_to host 1)) newest_word) in
    let c = then b (introduces (link_to host 2) newest_word) in
    let d = then c (follows (link_to host 1) (link_to host 2) newest_word) in
    let e = then d (confirms (link_to host 1) (link_to host 2) newest_word) in
    let f = then e (announces 0) in
    let g = then f (hears 0 (link_to host 2) newest_word) in
    then g (comes 0 session false (OpenAt 1) (is_open g.state 1 tt))

refused_old : BreaksNotRefused refuses_old host
unfolding is_in same_flow
refused_old = (old_sent.state, _, packet false 2 Up (OpenAt 1) 0, Nobody, 1, old_sent.reached, arrives true (packet false 2 Up (OpenAt 1) 0) newest_word, refl, refl, tt)

-- Opens at the newest place without asking: the same, and the next packet may open.
abbrev once_talk : Run opens_at_once
unfolding is_in same_flow
once_talk = then (one opens_at_once) (arrives true opening newest_word)

abbrev once_opened : Run opens_at_once
unfolding is_in same_flow
once_opened =
    let a = then once_talk (begins (link_to host 2) refl (omega arith) refl) in
    let b = then a (stands (link_to host 2) (Some (link_to host 1)) newest_word) in
    let c = then b (introduces (link_to host 2) newest_word) in
    let d = then c (follows (link_to host 1) (link_to host 2) newest_word) in
    let e = then d (confirms (link_to host 1) (link_to host 2) newest_word) in
    let f = then e (announces 0) in
    let g = then f (hears 0 (link_to host 2) newest_word) in
    let h = then g (comes 0 session true (OpenAt 1) (is_open g.state 1 tt)) in
    then h (arrives true (packet true 2 Up (OpenAt 1) 0) newest_word)

opened_at_once : BreaksOnePlace opens_at_once host
unfolding is_in same_flow
opened_at_once = (once_opened.state, session, 1, 2, once_opened.reached, tt, tt, λ e. absurd (omega arith))

-- Asks downward from wherever the packet came in: the session is open in place 2, and a balancer that knows place 1 sends a packet there.
abbrev anywhere_talk : Run asks_from_anywhere
unfolding is_in same_flow
anywhere_talk =
    let z : Run asks_from_anywhere = record { state = start host; reached = begin } in
    let a = then z (begins (link_to host 2) refl (omega arith) refl) in
    let b = then a (stands (link_to host 2) (Some (link_to host 1)) newest_word) in
    let c = then b (introduces (link_to host 2) newest_word) in
    let d = then c (follows (link_to host 1) (link_to host 2) newest_word) in
    let e = then d (confirms (link_to host 1) (link_to host 2) newest_word) in
    let f = then e (announces 1) in
    let g = then f (hears 1 (link_to host 2) newest_word) in
    let h = then g (comes 1 session true NotOpen (not_open g.state)) in
    let i = then h (arrives true (packet true 2 Up NotOpen 0) newest_word) in
    let j = then i (arrives true (packet true 1 (Down (link_to host 2)) NotOpen 0) newest_word) in
    let k = then j (arrives true (packet true 2 (Asked (link_to host 2)) NotOpen 0) newest_word) in
    then k (comes 0 session false (OpenAt 2) (is_open k.state 2 tt))

asked_from_anywhere : BreaksNotRefused asks_from_anywhere host
unfolding is_in same_flow
asked_from_anywhere =
    (anywhere_talk.state, _, packet false 1 Up (OpenAt 2) 0, Nobody, 2, anywhere_talk.reached, arrives true (packet false 1 Up (OpenAt 2) 0) newest_word, refl, refl, tt)

-- Was told of a place behind it and still opens: a packet is back at place 1, to be opened there; meanwhile the bucket is handed over, and a copy of it opens the session in place 2.
abbrev told_asked : Run opens_though_told
unfolding is_in same_flow
told_asked = then (one opens_though_told) (arrives true opening newest_word)

abbrev told_opened : Run opens_though_told
unfolding is_in same_flow
told_opened =
    let a = then told_asked (begins (link_to host 2) refl (omega arith) refl) in
    let b = then a (stands (link_to host 2) (Some (link_to host 1)) newest_word) in
    let c = then b (introduces (link_to host 2) newest_word) in
    let d = then c (follows (link_to host 1) (link_to host 2) newest_word) in
    let e = then d (confirms (link_to host 1) (link_to host 2) newest_word) in
    let f = then e (announces 0) in
    let g = then f (hears 0 (link_to host 2) newest_word) in
    let h = then g (comes 0 session true NotOpen (not_open g.state)) in
    let i = then h (arrives true (packet true 2 Up NotOpen 0) newest_word) in
    let j = then i (arrives true (packet true 1 (Down (link_to host 2)) NotOpen 0) newest_word) in
    let k = then j (arrives true (packet true 2 (Asked (link_to host 2)) NotOpen 0) newest_word) in
    then k (arrives true back (Memᴰ.tail (Memᴰ.tail (Memᴰ.tail (Memᴰ.tail (Memᴰ.tail (Memᴰ.tail (Memᴰ.tail (Memᴰ.tail newest_word)))))))))

opened_though_told : BreaksOnePlace opens_though_told host
unfolding is_in same_flow
opened_though_told = (told_opened.state, session, 1, 2, told_opened.reached, tt, tt, λ e. absurd (omega arith))

-- Does not look whether the session was opened meanwhile: two copies are back at place 1.
abbrev again_opened : Run opens_again
unfolding is_in same_flow
again_opened = then (then (then (one opens_again) (arrives true opening newest_word)) (arrives true back newest_word)) (arrives true back newest_word)

opened_again : BreaksOnce opens_again host
unfolding is_in same_flow count
opened_again = (again_opened.state, session, 1, again_opened.reached, refl)

pub near_misses : AllBreak
near_misses = (
  host,
  record { refused_old = refused_old; opened_at_once = opened_at_once; asked_from_anywhere = asked_from_anywhere; opened_though_told = opened_though_told; opened_again = opened_again },
)
