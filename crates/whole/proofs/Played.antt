-- The runs, step by step; that each step is one is computed. Assumes nothing.
use Rattle.std.proofs.Common.{◌≡◌, ℕ, true, List, [], ◌∷◌, replicate, Some, refl, arith}
use mathlib.Core.List.{Memᴰ}
use lib.Count.{ones}
use Rattle.flow.specs.declared.key.Protocol.TheVariants.{Udp}
use Rattle.flow.specs.declared.ipv4.Flow.{Flow}
use Rattle.flow.specs.Key.{same_flow}
use Rattle.flow.specs.Mix.{reversed_from}
use Rattle.flow.specs.Buckets.{bucket_of, is_bucket_count, power_to}
use Rattle.chain.specs.declared.way.Link.{Link}
use Rattle.chain.specs.declared.way.Way.{Way}
use Rattle.chain.specs.declared.way.Way.TheVariants.{Up, Down, Asked}
use Rattle.places.specs.Rules.{find_in, replace_in, oldest_in}
use Rattle.sessions.specs.declared.key.Key.{Key}
use Rattle.sessions.specs.Keys.{same_key, in_place}
use Rattle.sessions.proofs.Changed.{push_slot, noted_slot}
use Rattle.wire.specs.declared.message.Control.TheVariants as say
use Rattle.machine.specs.declared.name.Machine.TheVariants.{Balancer, Server}
use Rattle.assignment.specs.Rule.{rebalanced}
use Rattle.server.specs.Rules.{first_holdings}
use Rattle.controller.specs.Rules.{begun_from, up_from}
use Rattle.whole.specs.World.{Was, NotOpen, OpenAt, World, start, IsOpen, Packet, counted, Event, Step, comes, arrives, tells, confirms, hears, adds, begin, more}
use Rattle.whole.specs.Runs.{InRun, SomeRuns}

-- a packet of UDP from 10.0.0.7, port 4242
abbrev bytes : List ℕ
bytes = 69 ∷ 0 ∷ 0 ∷ 28 ∷ 0 ∷ 0 ∷ 0 ∷ 0 ∷ 64 ∷ 17 ∷ 0 ∷ 0 ∷ 10 ∷ 0 ∷ 0 ∷ 7 ∷ 10 ∷ 1 ∷ 0 ∷ 1 ∷ 16 ∷ 146 ∷ 0 ∷ 80 ∷ 0 ∷ 8 ∷ 0 ∷ 0 ∷ []

abbrev flow : Flow
flow = record { key = record { src = 167772167; dst = 167837697; sport = 4242; dport = 80; protocol = Udp }; opens = true }

record Run : Type 0 where
  state : World
  reached : InRun state

abbrev then : (r : Run) {e : Event} {x : World} → Step 16 r.state e x → Run
then r {e} {x} step = record { state = x; reached = more r.reached step }

abbrev at_start : Run
at_start = record { state = start (3 ∷ []) (replicate 16 3) 1; reached = begin }

abbrev at : ℕ → Way → Was → Packet
at n way was = record { head = record { bucket = 8; place = n; way = way; opens = true }; flow = flow.key; bytes = bytes; was = was; seen = 0 }

abbrev one : Link
one = record { place = 1; server = 3 }

abbrev two : Link
two = record { place = 2; server = 5 }

abbrev key : Key
key = record { bucket = 8; place = 1; flow = flow.key }

not_open : (w : World) (v p : ℕ) → NotOpen ≡ OpenAt v p → IsOpen 16 w flow.key v p
not_open w v p e = absurd (grind arith)

abbrev came : Run
unfolding bucket_of reversed_from
came = then at_start (comes 0 bytes 3 (record { bucket = 8; place = 1; way = Up; opens = true }) flow.key NotOpen refl (not_open at_start.state))

abbrev asked : Run
unfolding bucket_of reversed_from find_in same_key same_flow first_holdings counted
asked = then came (arrives (Balancer 0) 3 (at 1 Up NotOpen) [] (Memᴰ.head refl) refl)

-- the session is opened in place 1
abbrev talking : Run
unfolding bucket_of reversed_from find_in same_key same_flow first_holdings counted
talking = then asked (arrives (Server 3) 3 (at 1 (Asked one) NotOpen) (record { key = key; seen = 0 } ∷ []) (Memᴰ.head refl) (push_slot key 0 [] refl))

-- server 5 is added, and bucket 8 is handed over to it
abbrev added : Run
unfolding bucket_of reversed_from find_in same_key same_flow first_holdings counted rebalanced is_bucket_count power_to ones begun_from
added = then talking (adds 5 (omega arith))

abbrev stood : Run
unfolding bucket_of reversed_from find_in same_key same_flow first_holdings counted rebalanced is_bucket_count power_to ones begun_from
stood = then added (tells _ 5 (say.Stand 8 2 (Some one)) (Memᴰ.head refl) refl refl)

abbrev introduced : Run
unfolding bucket_of reversed_from find_in same_key same_flow first_holdings counted rebalanced is_bucket_count power_to ones begun_from
introduced = then stood (confirms _ (say.Stand 8 2 (Some one)) (Memᴰ.head refl) refl refl)

abbrev followed : Run
unfolding bucket_of reversed_from find_in replace_in oldest_in in_place same_key same_flow first_holdings counted rebalanced is_bucket_count power_to ones begun_from
followed = then introduced (tells _ 3 (say.Behind 8 1 two) (Memᴰ.head refl) refl refl)

abbrev handed_over : Run
unfolding bucket_of reversed_from find_in replace_in oldest_in in_place same_key same_flow first_holdings counted rebalanced is_bucket_count power_to ones begun_from up_from
handed_over = then followed (confirms _ (say.Behind 8 1 two) (Memᴰ.head refl) refl refl)

abbrev heard : Run
unfolding bucket_of reversed_from find_in replace_in oldest_in in_place same_key same_flow first_holdings counted rebalanced is_bucket_count power_to ones begun_from up_from
heard = then handed_over (hears _ 0 8 two (Memᴰ.head refl) refl refl)

is_open : (w : World) → IsOpen 16 w flow.key 3 1 → (v p : ℕ) → OpenAt 3 1 ≡ OpenAt v p → IsOpen 16 w flow.key v p
is_open w o v p e = let a : 3 ≡ v = grind arith in let b : 1 ≡ p = grind arith in rw (← a, ← b) o

-- the balancer sends the next packet to place 2, which asks below
abbrev found : Run
unfolding bucket_of reversed_from find_in replace_in oldest_in in_place same_key same_flow first_holdings counted rebalanced is_bucket_count power_to ones begun_from up_from
found =
    let a = then heard (comes 0 bytes 5 (record { bucket = 8; place = 2; way = Up; opens = true }) flow.key (OpenAt 3 1) refl (is_open heard.state tt)) in
    then a (arrives (Balancer 0) 5 (at 2 Up (OpenAt 3 1)) [] (Memᴰ.head refl) refl)

pub runs : SomeRuns
unfolding bucket_of reversed_from find_in replace_in oldest_in in_place same_key same_flow first_holdings counted rebalanced is_bucket_count power_to ones begun_from up_from
runs = record {
  opens_session = (asked.state, _, at 1 (Asked one) NotOpen, asked.reached, arrives (Server 3) 3 (at 1 (Asked one) NotOpen) (record { key = key; seen = 0 } ∷ []) (Memᴰ.head refl) (push_slot key 0 [] refl));
  finds_old = (
    found.state,
    _,
    at 1 (Down two) (OpenAt 3 1),
    found.reached,
    refl,
    refl,
    refl,
    arrives (Server 5) 3 (at 1 (Down two) (OpenAt 3 1)) (record { key = key; seen = 0 } ∷ []) (Memᴰ.head refl) (noted_slot key 0 (record { key = key; seen = 0 } ∷ [])),
  );
}
