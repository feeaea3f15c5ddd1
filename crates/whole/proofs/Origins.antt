-- Every packet on its way came while its session was open where it says. Assumes nothing.
use Rattle.std.proofs.Common.{◌≡◌, ℕ, List, [], ◌∷◌, ◌++◌, Ok, Err, Result, refl, inl, inr}
use mathlib.Core.List.Memᴰ
use mathlib.Core.List.{Memᴰ}
use Rattle.fault.specs.declared.Fault.{Fault}
use Rattle.flow.specs.declared.key.FlowKey.{FlowKey}
use Rattle.flow.specs.Buckets.{bucket_of}
use Rattle.chain.specs.declared.way.Link.{Link}
use Rattle.chain.specs.declared.place.Outcome.{Outcome}
use Rattle.chain.specs.declared.place.Outcome.TheVariants.{Delivered, Opened, Forwarded, Refused, Dropped}
use Rattle.wire.specs.declared.message.Control as said
use Rattle.wire.specs.Meant.{Meant, Carried, Said, Answered, Back, Ordered}
use Rattle.machine.specs.declared.name.Machine.{Machine}
use Rattle.machine.specs.declared.name.Machine.TheVariants.{Balancer, Server, Controller}
use Rattle.machine.specs.declared.sent.Note.{Note}
use Rattle.machine.specs.declared.sent.Note.TheVariants.{Say, Answer, PutOff}
use Rattle.machine.specs.declared.sent.Sent.{Sent}
use Rattle.machine.specs.Notes.{meant_by}
use Rattle.balancer.specs.Rules as balancer
use Rattle.server.specs.Rules as server
use Rattle.server.specs.Rules.{Keeping}
use Rattle.controller.specs.Rules as controller
use Rattle.controller.specs.Rules.{Ruling}
use Rattle.wire.specs.declared.message.Control.TheVariants as say
use Rattle.whole.specs.World.{Was, NotOpen, OpenAt, Envelope, posted, hint_of, World, IsOpen, Packet, taken, forwarded, carries, server_did, controller_did, balancer_did, Event, Quiet, Handled, Step, comes, arrives, tells, answers, reports, confirms, hears, closes, ticks, adds, removes, waits}

abbrev pub WasIn : (ℕ → ℕ) → Was → Type 0
WasIn host NotOpen = Unit {0}
WasIn host (OpenAt v p) = host p ≡ v

-- the place where its session was open is the server's
abbrev pub Origin : (ℕ → ℕ → ℕ) → ℕ → Was → Meant → Type 0
Origin host B was (Carried h c bs) = WasIn (host (bucket_of c B)) was
Origin host B was (Said c) = Unit {0}
Origin host B was (Answered c) = Unit {0}
Origin host B was (Back r bs) = Unit {0}
Origin host B was (Ordered o) = Unit {0}

abbrev pub Origins : (ℕ → ℕ → ℕ) → ℕ → List Envelope → Type 0
Origins host B es = (e : Envelope) → Memᴰ e es → Origin host B e.was e.what

-- what is seen to be handled was sent
abbrev pub Came : World → Event → Type 0
Came w Quiet = Unit {0}
Came w (Handled v p o) = (from : Machine) × Memᴰ (carries from v p) w.sent

pub step_came : {B : ℕ} {w x : World} {e : Event} → Step B w e x → Came w e
step_came (comes _ _ _ _ _ _ _ _) = tt
step_came (arrives from v p es mem st) = (from, mem)
step_came (tells _ _ _ _ _ _) = tt
step_came (answers _ _ _ _ _ _) = tt
step_came (reports _ _ _ _ _) = tt
step_came (confirms _ _ _ _ _) = tt
step_came (hears _ _ _ _ _ _ _) = tt
step_came (closes _ _ _ _) = tt
step_came (ticks _ _ _ _) = tt
step_came (adds _ _) = tt
step_came (removes _) = tt
step_came (waits _) = tt

module _ (host : ℕ → ℕ → ℕ) (B : ℕ) where
  both : (es fs : List Envelope) → Origins host B es → Origins host B fs → Origins host B (es ++ fs)
  both es fs p q e mem = elim (Memᴰ.append_cases es mem) [ inl m ↦ p e m | inr m ↦ q e m ]

  note_origin : (n : Note) → Origin host B NotOpen (meant_by n)
  note_origin (Say c) = tt
  note_origin (Answer c) = tt
  note_origin (PutOff b) = tt

  notes : (from : Machine) (out : List Sent) → Origins host B (posted from out)
  notes from [] e mem = absurd (Memᴰ.not-nil mem)
  notes from (x ∷ out) e mem = elim (Memᴰ.cases_cons mem) [ inl q ↦ rw q (note_origin x.note) | inr m ↦ notes from out e m ]

  onward : (v : ℕ) (p : Packet) (o : Outcome) → WasIn (host (bucket_of p.flow B)) p.was → Origins host B (forwarded v p o)
  onward v p Delivered q e m = absurd (Memᴰ.not-nil m)
  onward v p Opened q e m = absurd (Memᴰ.not-nil m)
  onward v p (Forwarded l way) q e m = rw (Memᴰ.eq_of_singleton m) q
  onward v p (Refused r) q e m = absurd (Memᴰ.not-nil m)
  onward v p Dropped q e m = absurd (Memᴰ.not-nil m)

  module _ (w : World) (i : Origins host B w.sent) (at : (c : FlowKey) (v p : ℕ) → IsOpen B w c v p → host (bucket_of c B) p ≡ v) where
    came : (c : FlowKey) (was : Was) → ((v p : ℕ) → was ≡ OpenAt v p → IsOpen B w c v p) → WasIn (host (bucket_of c B)) was
    came c NotOpen h = tt
    came c (OpenAt v p) h = at c v p (h v p refl)

    by_server : (v : ℕ) (z : Result (List Sent × Keeping) Fault) → Origins host B (server_did v z w).sent
    by_server v (Ok (out, k)) = both (posted (Server v) out) w.sent (notes (Server v) out) i
    by_server v (Err f) = i

    by_controller : (z : Result (List Sent × Ruling) Fault) → Origins host B (controller_did z w).sent
    by_controller (Ok (out, k)) = both (posted Controller out) w.sent (notes Controller out) i
    by_controller (Err f) = i

    by_balancer : (d : ℕ) (from : Machine) (c : said.Control) (z : Result (Unit {0}) Fault × List Link) → Origins host B (balancer_did d from c z w).sent
    by_balancer d from c (Ok u, ls) = both (record { from = Balancer d; to = from; what = Answered c; was = NotOpen; seen = 0 } ∷ []) w.sent (λ e m. rw (Memᴰ.eq_of_singleton m) tt) i
    by_balancer d from c (Err f, ls) = i

    pub step_origins : {e : Event} {x : World} → Step B w e x → Origins host B x.sent
    step_origins (comes d bytes v h c was e o) =
        let env = carries (Balancer d) v (record { head = h; flow = c; bytes = bytes; was = was; seen = w.closings c }) in
        both (env ∷ []) w.sent (λ e m. rw (Memᴰ.eq_of_singleton m) (came c was o)) i
    step_origins (arrives from v p es mem st) =
        both (forwarded v p (taken w v from p).outcome) (posted (Server v) (hint_of (taken w v from p).hint) ++ w.sent) (onward v p (taken w v from p).outcome (i (carries from v p) mem))
        (both (posted (Server v) (hint_of (taken w v from p).hint)) w.sent (notes (Server v) (hint_of (taken w v from p).hint)) i)
    step_origins (tells m v c mem to what) = by_server v (server.told m.from c (w.servers v) (w.sessions v))
    step_origins (answers m v c mem to what) = i
    step_origins (reports m c mem to what) = by_controller (controller.told m.from c w.controller)
    step_origins (confirms m c mem to what) = by_controller (Ok (controller.heard m.from c w.controller))
    step_origins (hears m d b l mem to what) = by_balancer d m.from (say.Door b l) (balancer.hears b l (w.balancers d))
    step_origins (closes v c es st) = both (posted (Server v) (server.closes c (w.servers v) (w.sessions v)).sends) w.sent (notes (Server v) (server.closes c (w.servers v) (w.sessions v)).sends) i
    step_origins (ticks v n es st) = both (posted (Server v) (server.ticked n (w.servers v) (w.sessions v)).sends) w.sent (notes (Server v) (server.ticked n (w.servers v) (w.sessions v)).sends) i
    step_origins (adds v _) = by_controller (controller.adds v w.controller)
    step_origins (removes v) = by_controller (controller.removes v w.controller)
    step_origins (waits n) = by_controller (Ok (controller.ticked n w.controller))
