-- Tools for runs that compute: one session, servers by number, a state with how it was reached. Assumes nothing.
use Rattle.std.proofs.Common.{◌≡◌, ℕ, Bool, true, List, ◌∷◌, refl, arith}
use mathlib.Core.List.{Memᴰ}
use Rattle.flow.specs.declared.key.FlowKey.{FlowKey}
use Rattle.flow.specs.declared.key.Protocol.TheVariants.{Tcp}
use Rattle.chain.specs.declared.way.Way.{Way}
use Rattle.chain.specs.declared.way.Way.TheVariants.{Up, Asked}
use Rattle.bucket.specs.Model.{Was, NotOpen, OpenAt, Traced, Message, State, start, IsOpen, link_to, Rule, Event, Step, comes, Reach, begin, more}

-- the session that all runs are about
abbrev pub session : FlowKey
session = record { src = 167772167; dst = 167837953; sport = 4242; dport = 80; protocol = Tcp }

pub not_open : (s : State) (g : ℕ) → NotOpen ≡ OpenAt g → IsOpen s session g
not_open s g e = absurd (grind arith)

pub is_open : (s : State) (h : ℕ) → IsOpen s session h → (g : ℕ) → OpenAt h ≡ OpenAt g → IsOpen s session g
is_open s h o g e = grind arith

-- place p is at the server with that number
abbrev pub host : ℕ → ℕ
host p = p

-- a state that is reached
pub record Run (rule : Rule) : Type 0 where
  pub state : State
  pub reached : Reach rule host state

abbrev pub then : {rule : Rule} (r : Run rule) {e : Event} {t : State} → Step rule host r.state e t → Run rule
then r {e} {t} step = record { state = t; reached = more r.reached step }

abbrev pub packet : Bool → ℕ → Way → Was → ℕ → Traced
packet opens k w was seen = record { packet = record { flow = session; opens = opens; at = link_to host k; way = w }; was = was; seen = seen }

-- what was sent last, and the one before that
abbrev pub newest_word : {m : Message} {ms : List Message} → Memᴰ m (m ∷ ms)
newest_word = Memᴰ.head refl

abbrev pub at_start : (rule : Rule) → Run rule
at_start rule = record { state = start host; reached = begin }

-- an opening packet comes to place 1
abbrev pub one : (rule : Rule) → Run rule
one rule = then (at_start rule) (comes 0 session true NotOpen (not_open (start host)))

abbrev pub opening : Traced
opening = packet true 1 Up NotOpen 0

abbrev pub back : Traced
back = packet true 1 (Asked (link_to host 1)) NotOpen 0
