-- The assignment is even after every order. Assumes nothing.
use Rattle.std.proofs.Common.{◌≡◌, ℕ, zero, suc, ◌+◌, ◌<◌, ◌&&◌, eqb, ltb, leb, ◌⊎◌, List, [], ◌∷◌, ◌++◌, length, get_or, Some, None, Ok, Err, Option, Result, refl, inl, inr, arith}
use Rattle.std.specs.List.{AllByRecursion as All}
use Rattle.std.proofs.lemmas.Bool.{eqb-false}
use Rattle.fault.specs.declared.Fault.{Fault}
use Rattle.chain.specs.declared.way.Link.{Link}
use Rattle.assignment.specs.Even.{Even}
use Rattle.assignment.specs.Rule.{answered, rises, is_buckets}
use Rattle.assignment.proofs.Best.{even}
use Rattle.roster.specs.Listing.{among, with_server, without_server}
use Rattle.wire.specs.declared.message.Control as said
use Rattle.wire.specs.declared.message.Control.TheVariants as say
use Rattle.machine.specs.declared.name.Machine.{Machine}
use Rattle.machine.specs.declared.name.Machine.TheVariants.{Client, Operator, Balancer, Server, Controller}
use Rattle.machine.specs.declared.sent.Sent.{Sent}
use Rattle.balancer.specs.Rules as balancer
use Rattle.server.specs.Rules as server
use Rattle.server.specs.Rules.{Keeping}
use Rattle.controller_bucket.specs.Rules as bucket
use Rattle.controller_bucket.specs.Rules.{Charge}
use Rattle.controller.specs.Rules as controller
use Rattle.controller.specs.Rules.{Ruling, charge_at, assigned_at, all_balancers, forgotten_as, ruled_by, door_heard, reassigned}
use Rattle.whole.specs.World.{World, server_did, controller_did, balancer_did, Event, Step, comes, arrives, tells, answers, reports, confirms, hears, closes, ticks, adds, removes, waits, Reach, begin, more}
use Rattle.whole.specs.Promise.{Balanced}
use Rattle.whole.proofs.Fits.{by_cond}

abbrev Bytes : List ℕ → Type 0
Bytes ss = All (λ s. s < 256) ss

-- A LIST OF SERVERS

bytes_append : (xs ys : List ℕ) → Bytes xs → Bytes ys → Bytes (xs ++ ys)
bytes_append [] ys p q = q
bytes_append (x ∷ xs) ys p q = (p.0, bytes_append xs ys p.1 q)

bytes_among : (a b : ℕ) (ss : List ℕ) → Bytes ss → Bytes (among a b ss)
bytes_among a b [] p = tt
bytes_among a b (s ∷ ss) p = by_cond Bytes (leb a s && ltb s b) (s ∷ among a b ss) (among a b ss) (λ _. (p.0, bytes_among a b ss p.1)) (λ _. bytes_among a b ss p.1)

bytes_with : (s : ℕ) (ss : List ℕ) → s < 256 → Bytes ss → Bytes (with_server s ss)
bytes_with s ss lt p = bytes_append (among 0 s ss) (s ∷ among (s + 1) 256 ss) (bytes_among 0 s ss p) (lt, bytes_among (s + 1) 256 ss p)

bytes_without : (s : ℕ) (ss : List ℕ) → Bytes ss → Bytes (without_server s ss)
bytes_without s ss p = bytes_append (among 0 s ss) (among (s + 1) 256 ss) (bytes_among 0 s ss p) (bytes_among (s + 1) 256 ss p)

bytes_at : (ss : List ℕ) → Bytes ss → (i : ℕ) → get_or ss i 0 < 256
bytes_at [] p i = omega arith
bytes_at (s ∷ ss) p zero = p.0
bytes_at (s ∷ ss) p (suc i) = bytes_at ss p.1 i

-- AN ORDER

abbrev EvenIf : List ℕ → Result (Unit {0}) Fault × List ℕ → Type 0
EvenIf ss (Ok u, ns) = Even ss ns
EvenIf ss (Err f, ns) = Unit {0}

answered_even : (ss xs : List ℕ) → Bytes ss → EvenIf ss (answered ss xs)
answered_even ss xs p = by_cond {A = Result (Unit {0}) Fault × List ℕ} (EvenIf ss) (is_buckets (length xs)) _ _
    (λ _. by_cond {A = Result (Unit {0}) Fault × List ℕ} (EvenIf ss) (eqb (length ss) 0) _ _ (λ _. tt)
    (λ ne. by_cond {A = Result (Unit {0}) Fault × List ℕ} (EvenIf ss) (rises ss) _ _ (λ r. let z = eqb-false (length ss) 0 ne in even ss xs (record { rise = r; real = bytes_at ss p }) (grind arith)) (λ _. tt)))
    (λ _. tt)

-- A STEP

module _ (listed assignment : List ℕ) where
  -- the servers are bytes, and the assignment is the first or even
  abbrev Shared : Ruling → Type 0
  Shared k = Bytes k.servers × (((k.servers ≡ listed) × (k.assignment ≡ assignment)) ⊎ Even k.servers k.assignment)

  abbrev SharedIn : Result (List Sent × Ruling) Fault → Type 0
  SharedIn (Ok p) = Shared p.1
  SharedIn (Err f) = Unit {0}

  module _ (k : Ruling) (i : Shared k) where
    forgotten_settles : (from : Machine) (c : said.Control) (d n : ℕ) (o : Option (List Sent × Charge)) → SharedIn (Ok (forgotten_as from c d n k o))
    forgotten_settles from c d n None = i
    forgotten_settles from c d n (Some (out, x)) = i

    told_right : (from : Machine) (c : said.Control) → SharedIn (controller.told_of from c c k)
    told_right from (say.Stand d n before) = tt
    told_right from (say.Behind d n a) = tt
    told_right from (say.Door d l) = tt
    told_right from (say.Forgotten d n a) = forgotten_settles from (say.Forgotten d n a) d n (bucket.forgotten d (assigned_at d k) n (charge_at d k))

    told_shared : (from : Machine) (c : said.Control) → SharedIn (controller.told from c k)
    told_shared from c = by_cond SharedIn (controller.is_bucket (controller.bucket_in c) k) _ _ (λ _. told_right from c) (λ _. tt)

    ruled_so : (d : ℕ) (p : List Sent × Charge) → SharedIn (Ok (ruled_by d k p))
    ruled_so d (out, c) = i

    door_hears : (from : Machine) (d : ℕ) (l : Link) → Shared (door_heard from d l k)
    door_hears Client d l = i
    door_hears Operator d l = i
    door_hears (Balancer g) d l = i
    door_hears (Server v) d l = i
    door_hears Controller d l = i

    heard_keeps : (from : Machine) (c : said.Control) → SharedIn (Ok (controller.heard_of from c k))
    heard_keeps from (say.Stand d n before) = ruled_so d (bucket.stood d n (charge_at d k))
    heard_keeps from (say.Behind d n a) = ruled_so d (bucket.told d (assigned_at d k) (all_balancers k) n a (charge_at d k))
    heard_keeps from (say.Door d l) = door_hears from d l
    heard_keeps from (say.Forgotten d n a) = i

    heard_shared : (from : Machine) (c : said.Control) → SharedIn (Ok (controller.heard from c k))
    heard_shared from c = by_cond {A = List Sent × Ruling} (λ z. SharedIn (Ok z)) (controller.is_bucket (controller.bucket_in c) k) _ _ (λ _. heard_keeps from c) (λ _. i)

    reassigned_shared : (ss : List ℕ) (p : Result (Unit {0}) Fault × List ℕ) → Bytes ss → EvenIf ss p → SharedIn (reassigned ss k p)
    reassigned_shared ss (Ok u, ns) b e = (b, inr e)
    reassigned_shared ss (Err f, ns) b e = tt

    adds_shared : (v : ℕ) → v < 256 → SharedIn (controller.adds v k)
    adds_shared v lt =
        let ss = with_server v k.servers in
        let b = bytes_with v k.servers lt i.0 in
        by_cond SharedIn (eqb (length ss) (length k.servers)) _ _ (λ _. i) (λ _. reassigned_shared ss (answered ss k.assignment) b (answered_even ss k.assignment b))

    removes_shared : (v : ℕ) → SharedIn (controller.removes v k)
    removes_shared v =
        let ss = without_server v k.servers in
        let b = bytes_without v k.servers i.0 in
        by_cond SharedIn (eqb (length ss) (length k.servers)) _ _ (λ _. tt) (λ _. reassigned_shared ss (answered ss k.assignment) b (answered_even ss k.assignment b))

  module _ (B : ℕ) (w : World) (i : Shared w.controller) where
    did : (z : Result (List Sent × Ruling) Fault) → SharedIn z → Shared (controller_did z w).controller
    did (Ok p) h = h
    did (Err f) h = i

    server_has_done : (v : ℕ) (z : Result (List Sent × Keeping) Fault) → Shared (server_did v z w).controller
    server_has_done v (Ok p) = i
    server_has_done v (Err f) = i

    balancer_has_done : (d : ℕ) (from : Machine) (c : said.Control) (z : Result (Unit {0}) Fault × List Link) → Shared (balancer_did d from c z w).controller
    balancer_has_done d from c (Ok u, ls) = i
    balancer_has_done d from c (Err f, ls) = i

    step_shared : {e : Event} {x : World} → Step B w e x → Shared x.controller
    step_shared (comes _ _ _ _ _ _ _ _) = i
    step_shared (arrives from v p es mem st) = i
    step_shared (tells m v c mem to what) = server_has_done v (server.told m.from c (w.servers v) (w.sessions v))
    step_shared (answers m v c mem to what) = i
    step_shared (reports m c mem to what) = did (controller.told m.from c w.controller) (told_shared w.controller i m.from c)
    step_shared (confirms m c mem to what) = heard_shared w.controller i m.from c
    step_shared (hears m d b l mem to what) = balancer_has_done d m.from (say.Door b l) (balancer.hears b l (w.balancers d))
    step_shared (closes v c es st) = i
    step_shared (ticks v n es st) = i
    step_shared (adds v lt) = did (controller.adds v w.controller) (adds_shared w.controller i v lt)
    step_shared (removes v) = did (controller.removes v w.controller) (removes_shared w.controller i v)
    step_shared (waits n) = i

  reach_shared : {count : ℕ} {w : World} → Bytes listed → Reach listed assignment count w → Shared w.controller
  reach_shared b begin = (b, inl (refl, refl))
  reach_shared b (more {w} r step) = step_shared (length assignment) w (reach_shared b r) step

pub balanced : Balanced
balanced listed assignment count w b r = (reach_shared listed assignment b r).1
