-- For each run there is a function that says which server each place of each bucket was given to; so the proofs may take it as given from the start. Assumes nothing.
use Rattle.std.proofs.Common.{◌≡◌, ℕ, ◌+◌, ◌<◌, Bool, ◌&&◌, eqb, ltb, ◌⊎◌, List, [], ◌∷◌, length, get_or, set, Some, None, Ok, Err, Option, Result, sym, refl, ap, ◌∙◌, subst, inl, inr, arith}
use Rattle.std.proofs.lemmas.Bool.{cases_eq}
use Rattle.std.proofs.lemmas.List.{get_or-set_same, get_or-set_other, get_or-map}
use Rattle.fault.specs.declared.Fault.{Fault}
use Rattle.chain.specs.declared.way.Link.{Link}
use Rattle.chain.specs.Ways.{same_link}
use Rattle.chain.specs.declared.handover.Handover.{Handover}
use Rattle.chain.specs.declared.handover.Handover.TheVariants.{Idle, AwaitStood, AwaitTold}
use Rattle.chain.specs.Controllers.{Control, newest_of, has_room, begins_in, stood_in, told_in, above}
use Rattle.wire.specs.declared.message.Control as said
use Rattle.wire.specs.declared.message.Control.TheVariants as say
use Rattle.machine.specs.declared.name.Machine.{Machine}
use Rattle.machine.specs.declared.name.Machine.TheVariants.{Client, Operator, Balancer, Server, Controller}
use Rattle.machine.specs.declared.sent.Sent.{Sent}
use Rattle.assignment.specs.Rule as assigned
use Rattle.roster.specs.Listing.{with_server, without_server}
use Rattle.balancer.specs.Rules as balancer
use Rattle.server.specs.Rules as server
use Rattle.server.specs.Rules.{Keeping}
use Rattle.controller_bucket.specs.Rules as bucket
use Rattle.controller_bucket.specs.Rules.{Charge, charge_first, started_with, begun_in, stood_with, told_with, forgotten_with}
use Rattle.controller.specs.Rules as controller
use Rattle.controller.specs.Rules.{Ruling, charge_at, assigned_at, all_balancers, parts, forgotten_as, ruled_by, door_heard, begun_from, reassigned}
use Rattle.whole.specs.World.{World, Event, server_did, controller_did, balancer_did, Step, comes, arrives, tells, answers, reports, confirms, hears, closes, ticks, adds, removes, waits}
use Rattle.whole.proofs.Sim.{lead_of, lead}
use Rattle.whole.proofs.Fits.{by_cond}
use Rattle.whole.proofs.Charges.{above_newest}
use Rattle.whole.proofs.Moves.{all_begun}
use Rattle.whole.proofs.Sane.{Sane}

-- the place last given is the same, or a higher one
abbrev pub Rises : Control → Control → Type 0
Rises c d = (lead d ≡ lead c) ⊎ ((lead c).place < (lead d).place)

rises_then : (c d e : Control) → Rises c d → Rises d e → Rises c e
rises_then c d e a b = elim a [
  | inl p ↦ elim b [ inl q ↦ inl (q ∙ p) | inr lt ↦ inr (subst (λ z. z.place < (lead e).place) p lt) ]
  | inr l ↦ elim b [ inl q ↦ inr (subst (λ z. (lead c).place < z.place) (sym q) l) | inr m ↦ inr (omega (arith, l, m)) ]
]

begun_in_rises : (b server : ℕ) (g : Handover) (c : Charge) → c.control.handover ≡ g → Rises c.control (begun_in b server g c).1.control
begun_in_rises b server Idle c e = by_cond {A = List Sent × Charge} (λ p. Rises c.control p.1.control) (eqb (bucket.newest c).server server) _ _ (λ _. inl refl)
    (λ _. subst (λ g. Rises c.control (started_with b c (begins_in g server c.control)).1.control) (sym e)
    (by_cond {A = Result Link Fault × Control} (λ p. Rises c.control (started_with b c p).1.control) (has_room c.control.kept) _ _
    (λ _. inr (subst (λ g. (lead_of g (newest_of c.control.kept)).place < (newest_of c.control.kept).place + 1) (sym e) (omega arith)))
    (λ _. inl refl)))
begun_in_rises b server (AwaitStood l) c e = inl refl
begun_in_rises b server (AwaitTold l) c e = inl refl

begun_rises : (b server : ℕ) (c : Charge) → Rises c.control (bucket.begun b server c).1.control
begun_rises b server c = begun_in_rises b server c.control.handover c refl

stood_rises : (b n : ℕ) (c : Charge) (g : Handover) → c.control.handover ≡ g → Rises c.control (stood_with b c (stood_in g n c.control)).1.control
stood_rises b n c Idle e = inl refl
stood_rises b n c (AwaitTold l) e = inl refl
stood_rises b n c (AwaitStood l) e = by_cond {A = Option Link × Control} (λ p. Rises c.control (stood_with b c p).1.control) (eqb n l.place) _ _
    (λ _. inl (sym (ap (λ g. lead_of g (newest_of c.control.kept)) e))) (λ _. inl refl)

told_rises : (b server : ℕ) (all : List ℕ) (n : ℕ) (a : Link) (c : Charge) (g : Handover) → c.control.handover ≡ g → Rises c.control (told_with b server all c (told_in g n a c.control)).1.control
told_rises b server all n a c Idle e = inl refl
told_rises b server all n a c (AwaitStood l) e = inl refl
told_rises b server all n a c (AwaitTold l) e = by_cond {A = Bool × Control} (λ p. Rises c.control (told_with b server all c p).1.control) (eqb n (newest_of c.control.kept).place && same_link a l) _ _
    (λ _. let c1 : Charge = record { control = record { kept = l ∷ c.control.kept; handover = Idle }; age = 0; untold = all; untold_age = 0; reported = c.reported } in
    rises_then c.control c1.control (bucket.begun b server c1).1.control (inl (sym (ap (λ g. lead_of g (newest_of c.control.kept)) e))) (begun_rises b server c1))
    (λ _. inl refl)

abbrev RisesIf : Control → Option (List Sent × Charge) → Type 0
RisesIf c None = Unit {0}
RisesIf c (Some (out, d)) = Rises c d.control

forgotten_rises : (b server n : ℕ) (c : Charge) → RisesIf c.control (bucket.forgotten b server n c)
forgotten_rises b server n c = by_cond {A = Bool × Control} (λ p. RisesIf c.control (forgotten_with b server c p)) (ltb n (newest_of c.control.kept).place) _ _
    (λ q. let k : Control = record { kept = above n c.control.kept; handover = c.control.handover } in
    let c1 : Charge = record { control = k; age = c.age; untold = c.untold; untold_age = c.untold_age; reported = c.reported } in
    rises_then c.control k (bucket.begun b server c1).1.control (inl (ap (lead_of c.control.handover) (above_newest n c.control.kept (grind arith)))) (begun_rises b server c1))
    (λ _. tt)

-- THE CONTROLLER

module _ (b : ℕ) (k : Ruling) (lt : b < length k.charges) where
  abbrev RisesIn : Result (List Sent × Ruling) Fault → Type 0
  RisesIn (Ok p) = Rises (charge_at b k).control (charge_at b p.1).control
  RisesIn (Err f) = Unit {0}

  rules_rise : (j : Ruling) (d : ℕ) (c : Charge) → j.charges ≡ k.charges → Rises (charge_at d k).control c.control → Rises (charge_at b k).control (charge_at b (controller.rules d c j)).control
  rules_rise j d c same up = elim (cases_eq d b) [
    | inl e ↦ rw (ap (λ z. get_or (set z d c) b (charge_first 0)) same) (rw e (rw (get_or-set_same k.charges b c (charge_first 0) lt) (subst (λ z. Rises (charge_at z k).control c.control) e up)))
    | inr ne ↦ inl (ap (λ z. lead z.control) (ap (λ z. get_or (set z d c) b (charge_first 0)) same ∙ get_or-set_other k.charges d b c (charge_first 0) (λ e. ne (sym e))))
  ]

  forgotten_settles : (from : Machine) (c : said.Control) (d n : ℕ) (o : Option (List Sent × Charge)) → RisesIf (charge_at d k).control o → RisesIn (Ok (forgotten_as from c d n k o))
  forgotten_settles from c d n None h = inl refl
  forgotten_settles from c d n (Some (out, x)) h = rules_rise (parts d n k) d x refl h

  told_right : (from : Machine) (c : said.Control) → RisesIn (controller.told_of from c c k)
  told_right from (say.Stand d n before) = tt
  told_right from (say.Behind d n a) = tt
  told_right from (say.Door d l) = tt
  told_right from (say.Forgotten d n a) = forgotten_settles from (say.Forgotten d n a) d n (bucket.forgotten d (assigned_at d k) n (charge_at d k)) (forgotten_rises d (assigned_at d k) n (charge_at d k))

  told_rise : (from : Machine) (c : said.Control) → RisesIn (controller.told from c k)
  told_rise from c = by_cond RisesIn (controller.is_bucket (controller.bucket_in c) k) _ _ (λ _. told_right from c) (λ _. tt)

  ruled_rise : (d : ℕ) (p : List Sent × Charge) → Rises (charge_at d k).control p.1.control → RisesIn (Ok (ruled_by d k p))
  ruled_rise d (out, c) h = rules_rise k d c refl h

  door_rise : (from : Machine) (d : ℕ) (l : Link) → RisesIn (Ok ([], door_heard from d l k))
  door_rise Client d l = inl refl
  door_rise Operator d l = inl refl
  door_rise (Server v) d l = inl refl
  door_rise Controller d l = inl refl
  door_rise (Balancer g) d l = rules_rise k d (bucket.heard g l (charge_at d k)) refl (by_cond {A = Charge} (λ z. Rises (charge_at d k).control z.control) (same_link l (bucket.newest (charge_at d k))) _ _ (λ _. inl refl) (λ _. inl refl))

  heard_keeps : (from : Machine) (c : said.Control) → RisesIn (Ok (controller.heard_of from c k))
  heard_keeps from (say.Stand d n before) = ruled_rise d (bucket.stood d n (charge_at d k)) (stood_rises d n (charge_at d k) (charge_at d k).control.handover refl)
  heard_keeps from (say.Behind d n a) = ruled_rise d (bucket.told d (assigned_at d k) (all_balancers k) n a (charge_at d k)) (told_rises d (assigned_at d k) (all_balancers k) n a (charge_at d k) (charge_at d k).control.handover refl)
  heard_keeps from (say.Door d l) = door_rise from d l
  heard_keeps from (say.Forgotten d n a) = inl refl

  heard_rise : (from : Machine) (c : said.Control) → RisesIn (Ok (controller.heard from c k))
  heard_rise from c = by_cond {A = List Sent × Ruling} (λ z. RisesIn (Ok z)) (controller.is_bucket (controller.bucket_in c) k) _ _ (λ _. heard_keeps from c) (λ _. inl refl)

  reassigned_rise : (ss : List ℕ) (p : Result (Unit {0}) Fault × List ℕ) → RisesIn (reassigned ss k p)
  reassigned_rise ss (Err f, ns) = tt
  reassigned_rise ss (Ok u, ns) = elim (all_begun 0 b 0 b ns k.charges (omega arith)) [
    | inl z ↦ subst (λ c. Rises (charge_at b k).control c.control) (sym z.is) (begun_rises b z.server (charge_at b k))
    | inr z ↦ inl (ap (λ c. lead c.control) z.0)
  ]

  adds_rise : (v : ℕ) → RisesIn (controller.adds v k)
  adds_rise v = by_cond RisesIn (eqb (length (with_server v k.servers)) (length k.servers)) _ _ (λ _. inl refl) (λ _. reassigned_rise (with_server v k.servers) (assigned.answered (with_server v k.servers) k.assignment))

  removes_rise : (v : ℕ) → RisesIn (controller.removes v k)
  removes_rise v = by_cond RisesIn (eqb (length (without_server v k.servers)) (length k.servers)) _ _ (λ _. tt) (λ _. reassigned_rise (without_server v k.servers) (assigned.answered (without_server v k.servers) k.assignment))

  waits_rise : (n : ℕ) → RisesIn (Ok (controller.ticked n k))
  waits_rise n = inl (ap (λ c. lead c.control) (get_or-map (bucket.passed n) k.charges b (charge_first 0) (charge_first 0) lt))

abbrev pub control_at : World → ℕ → Control
control_at w b = (charge_at b w.controller).control

-- A STEP

module _ (B : ℕ) (w : World) (sane : Sane B w) (b : ℕ) (lt : b < B) where
  abbrev in_b : b < length w.controller.charges
  in_b = subst (λ z. b < z) (sym sane.charges) lt

  did : (z : Result (List Sent × Ruling) Fault) → RisesIn b w.controller in_b z → Rises (control_at w b) (control_at (controller_did z w) b)
  did (Ok p) h = h
  did (Err f) h = inl refl

  server_has_done : (v : ℕ) (z : Result (List Sent × Keeping) Fault) → control_at (server_did v z w) b ≡ control_at w b
  server_has_done v (Ok p) = refl
  server_has_done v (Err f) = refl

  balancer_has_done : (d : ℕ) (from : Machine) (c : said.Control) (z : Result (Unit {0}) Fault × List Link) → control_at (balancer_did d from c z w) b ≡ control_at w b
  balancer_has_done d from c (Ok u, ls) = refl
  balancer_has_done d from c (Err f, ls) = refl

  pub step_rises : {e : Event} {x : World} → Step B w e x → Rises (control_at w b) (control_at x b)
  step_rises (comes _ _ _ _ _ _ _ _) = inl refl
  step_rises (arrives from v p es mem st) = inl refl
  step_rises (tells m v c mem to what) = inl (ap lead (server_has_done v (server.told m.from c (w.servers v) (w.sessions v))))
  step_rises (answers m v c mem to what) = inl refl
  step_rises (reports m c mem to what) = did (controller.told m.from c w.controller) (told_rise b w.controller in_b m.from c)
  step_rises (confirms m c mem to what) = heard_rise b w.controller in_b m.from c
  step_rises (hears m d c l mem to what) = inl (ap lead (balancer_has_done d m.from (say.Door c l) (balancer.hears c l (w.balancers d))))
  step_rises (closes v c es st) = inl refl
  step_rises (ticks v n es st) = inl refl
  step_rises (adds v _) = did (controller.adds v w.controller) (adds_rise b w.controller in_b v)
  step_rises (removes v) = did (controller.removes v w.controller) (removes_rise b w.controller in_b v)
  step_rises (waits n) = waits_rise b w.controller in_b n
