-- Every step leaves each bucket with a handover in progress, at its server, or put off and reported. Assumes nothing.
use Rattle.std.proofs.Common.{◌≡◌, ℕ, zero, suc, ◌<◌, Bool, true, false, cond, eqb, ltb, List, [], ◌∷◌, map, length, get_or, Some, None, Ok, Err, Option, Result, sym, refl, ap, ◌∙◌, inl, inr, arith}
use Rattle.std.proofs.lemmas.List.{length-map, length-set, get_or-set_same, get_or-set_other, get_or-map}
use Rattle.std.proofs.lemmas.Bool.{cases_Bool, cases_eq, eqb-true, eqb-false, ltb-true, cond_both}
use Rattle.fault.specs.declared.Fault.{Fault}
use Rattle.fault.specs.declared.Fault.TheVariants.{NoSuch, NoServer}
use Rattle.chain.specs.declared.way.Link.{Link}
use Rattle.chain.specs.declared.handover.Handover.{Handover}
use Rattle.chain.specs.declared.handover.Handover.TheVariants.{Idle, AwaitStood, AwaitTold}
use Rattle.chain.specs.Controllers as chains
use Rattle.chain.specs.Controllers.{newest_of, has_room}
use Rattle.chain.specs.Ways.{same_link}
use Rattle.wire.specs.declared.message.Control.{Control}
use Rattle.wire.specs.declared.message.Control.TheVariants as control
use Rattle.machine.specs.declared.name.Machine.{Machine}
use Rattle.machine.specs.declared.name.Machine.TheVariants.{Client, Operator, Balancer, Server, Controller}
use Rattle.machine.specs.declared.sent.Sent.{Sent}
use Rattle.assignment.specs.Rule.{kept, kept_quota, dealt, lowest, spent, rises, is_buckets, rebalanced, quotas, answered}
use Rattle.assignment.proofs.Changes.{kept_length}
use Rattle.roster.specs.Listing.{with_server, without_server}
use Rattle.controller_bucket.specs.Rules as bucket
use Rattle.controller_bucket.specs.Rules.{Charge, charge_first}
use Rattle.controller.specs.Rules.{Ruling, charge_at, assigned_at, all_balancers, is_bucket, bucket_in, rules, parts, forgotten_as, told_of, heard_of, door_heard, begun_from, reassigned, changes}
use Rattle.controller.specs.Settled.{SettledAt, Settled, Leaves, FirstSettled, ToldSettled, HeardSettled, AddedSettled, RemovedSettled, TickedSettled, SettledSteady}

-- ONE BUCKET

abbrev made : List Link → Handover → ℕ → List ℕ → ℕ → Bool → Charge
made ls h age untold untold_age reported = record { control = record { kept = ls; handover = h }; age = age; untold = untold; untold_age = untold_age; reported = reported }

settles_in : (b s : ℕ) (ls : List Link) (h : Handover) (age : ℕ) (untold : List ℕ) (untold_age : ℕ) (reported : Bool) → SettledAt s (bucket.begun b s (made ls h age untold untold_age reported)).1
settles_in b s ls Idle age untold untold_age reported =
    elim (cases_Bool (eqb (newest_of ls).server s)) [
      | inl t ↦ rw t (inl (eqb-true (newest_of ls).server s t))
      | inr f ↦ rw f (elim (cases_Bool (has_room ls)) [ inl r ↦ rw r tt | inr r ↦ rw r (inr (r, refl)) ])
    ]
settles_in b s ls (AwaitStood l) age untold untold_age reported = tt
settles_in b s ls (AwaitTold l) age untold untold_age reported = tt

-- whatever was, a bucket is settled after it was looked at
begun_settles : (b s : ℕ) (c : Charge) → SettledAt s (bucket.begun b s c).1
begun_settles b s c = settles_in b s c.control.kept c.control.handover c.age c.untold c.untold_age c.reported

stood_settles : (b s n : ℕ) (ls : List Link) (h : Handover) (age : ℕ) (untold : List ℕ) (untold_age : ℕ) (reported : Bool) → SettledAt s (made ls h age untold untold_age reported)
    → SettledAt s (bucket.stood b n (made ls h age untold untold_age reported)).1
stood_settles b s n ls Idle age untold untold_age reported x = x
stood_settles b s n ls (AwaitStood l) age untold untold_age reported x = elim (cases_Bool (eqb n l.place)) [ inl t ↦ rw t tt | inr f ↦ rw f tt ]
stood_settles b s n ls (AwaitTold l) age untold untold_age reported x = tt

told_as : (b s : ℕ) (all : List ℕ) (c : Charge) (p : Bool × chains.Control) → SettledAt s c → SettledAt s (bucket.told_with b s all c p).1
told_as b s all c (false, k) x = x
told_as b s all c (true, k) x = begun_settles b s (record { control = k; age = 0; untold = all; untold_age = 0; reported = c.reported })

abbrev MaybeSettled : ℕ → Option (List Sent × Charge) → Type 0
MaybeSettled s None = Unit {0}
MaybeSettled s (Some p) = SettledAt s p.1

forgotten_settles : (b s : ℕ) (c : Charge) (p : Bool × chains.Control) → MaybeSettled s (bucket.forgotten_with b s c p)
forgotten_settles b s c (false, k) = tt
forgotten_settles b s c (true, k) = begun_settles b s (record { control = k; age = c.age; untold = c.untold; untold_age = c.untold_age; reported = c.reported })

heard_settles : (s d : ℕ) (l : Link) (c : Charge) → SettledAt s c → SettledAt s (bucket.heard d l c)
heard_settles s d l c x = elim (cases_Bool (same_link l (bucket.newest c))) [ inl t ↦ rw t x | inr f ↦ rw f x ]

-- ALL BUCKETS

rules_settled : (b : ℕ) (x : Charge) (k : Ruling) → Settled k → SettledAt (assigned_at b k) x → Settled (rules b x k)
rules_settled b x k h y = (
  h.0 ∙ sym (length-set k.charges b x),
  λ q l. elim (cases_eq q b) [
    | inl e ↦ rw e (rw (get_or-set_same k.charges b x (charge_first 0) (omega (arith, length-set k.charges b x))) y)
    | inr n ↦ rw (get_or-set_other k.charges b q x (charge_first 0) n) (h.1 q (omega (arith, length-set k.charges b x)))
  ],
)

forgotten_settled : (from : Machine) (c : Control) (b n : ℕ) (k : Ruling) (o : Option (List Sent × Charge)) → Settled k → MaybeSettled (assigned_at b k) o → Settled (forgotten_as from c b n k o).1
forgotten_settled from c b n k None h x = h
forgotten_settled from c b n k (Some p) h x = rules_settled b p.1 (parts b n k) h x

told_settles : (from : Machine) (d c : Control) (k : Ruling) → Settled k → Leaves (told_of from d c k)
told_settles from d (control.Stand b n before) k h = tt
told_settles from d (control.Behind b n a) k h = tt
told_settles from d (control.Door b l) k h = tt
told_settles from d (control.Forgotten b n a) k h =
    forgotten_settled from d b n k (bucket.forgotten b (assigned_at b k) n (charge_at b k)) h (forgotten_settles b (assigned_at b k) (charge_at b k) (chains.hears_forgotten n (charge_at b k).control))

pub told_settled : ToldSettled
told_settled from c k h = cond_both (is_bucket (bucket_in c) k) (told_of from c c k) (Err NoSuch) Leaves (λ _. told_settles from c c k h) (λ _. tt)

door_settled : (from : Machine) (b : ℕ) (l : Link) (k : Ruling) → b < length k.charges → Settled k → Settled (door_heard from b l k)
door_settled Client b l k i h = h
door_settled Operator b l k i h = h
door_settled (Balancer d) b l k i h = rules_settled b (bucket.heard d l (charge_at b k)) k h (heard_settles (assigned_at b k) d l (charge_at b k) (h.1 b i))
door_settled (Server s) b l k i h = h
door_settled Controller b l k i h = h

heard_keeps : (from : Machine) (c : Control) (k : Ruling) → bucket_in c < length k.charges → Settled k → Settled (heard_of from c k).1
heard_keeps from (control.Stand b n before) k i h =
    let x = charge_at b k in
    rules_settled b (bucket.stood b n x).1 k h (stood_settles b (assigned_at b k) n x.control.kept x.control.handover x.age x.untold x.untold_age x.reported (h.1 b i))
heard_keeps from (control.Behind b n a) k i h =
    let x = charge_at b k in
    rules_settled b (bucket.told b (assigned_at b k) (all_balancers k) n a x).1 k h (told_as b (assigned_at b k) (all_balancers k) x (chains.hears_told n a x.control) (h.1 b i))
heard_keeps from (control.Door b l) k i h = door_settled from b l k i h
heard_keeps from (control.Forgotten b n a) k i h = h

pub heard_settled : HeardSettled
heard_settled from c k h =
    cond_both (is_bucket (bucket_in c) k) (heard_of from c k) ([], k) (λ p. Settled p.1) (λ t. heard_keeps from c k (ltb-true (bucket_in c) (length k.charges) t) h) (λ _. h)

first_at : (ns : List ℕ) (b : ℕ) → b < length (map charge_first ns) → SettledAt (get_or ns b 0) (get_or (map charge_first ns) b (charge_first 0))
first_at [] b h = absurd (omega arith)
first_at (n ∷ ns) zero h = inl refl
first_at (n ∷ ns) (suc b) h = first_at ns b (omega arith)

pub first_settled : FirstSettled
first_settled servers assignment balancers = (sym (length-map assignment charge_first), first_at assignment)

-- SERVERS COME AND GO

dealt_length : (ss xs q : List ℕ) → length (dealt ss xs q) ≡ length xs
dealt_length ss [] q = refl
dealt_length ss (x ∷ xs) q =
    let one = dealt_length ss xs (spent q (lowest q)) in
    let two = dealt_length ss xs q in
    cond_both (eqb x 65535) (cond (ltb (lowest q) (length q)) (get_or ss (lowest q) 0 ∷ dealt ss xs (spent q (lowest q))) (x ∷ xs)) (x ∷ dealt ss xs q) (λ ys. length ys ≡ suc (length xs))
    (λ _. cond_both (ltb (lowest q) (length q)) (get_or ss (lowest q) 0 ∷ dealt ss xs (spent q (lowest q))) (x ∷ xs) (λ ys. length ys ≡ suc (length xs)) (λ _. ap suc one) (λ _. refl))
    (λ _. ap suc two)

rebalanced_length : (ss xs : List ℕ) → length (rebalanced ss xs) ≡ length xs
unfolding rebalanced
rebalanced_length ss xs = dealt_length ss (kept ss xs (quotas ss xs)) (kept_quota ss xs (quotas ss xs)) ∙ kept_length ss xs (quotas ss xs)

begun_each : (b n : ℕ) (ns : List ℕ) (c : Charge) (cs : List Charge)
    → ((q : ℕ) → q < length (begun_from (suc b) ns cs).1 → SettledAt (get_or ns q 0) (get_or (begun_from (suc b) ns cs).1 q (charge_first 0)))
    → (q : ℕ) → q < suc (length (begun_from (suc b) ns cs).1) → SettledAt (get_or (n ∷ ns) q 0) (get_or ((bucket.begun b n c).1 ∷ (begun_from (suc b) ns cs).1) q (charge_first 0))
begun_each b n ns c cs f zero h = begun_settles b n c
begun_each b n ns c cs f (suc q) h = f q (omega arith)

begun_at : (b : ℕ) (ns : List ℕ) (cs : List Charge) → length ns ≡ length cs
    → (length ns ≡ length (begun_from b ns cs).1) × ((q : ℕ) → q < length (begun_from b ns cs).1 → SettledAt (get_or ns q 0) (get_or (begun_from b ns cs).1 q (charge_first 0)))
unfolding begun_from
begun_at b [] [] e = (refl, λ q h. absurd (omega arith))
begun_at b [] (c ∷ cs) e = absurd (omega arith)
begun_at b (n ∷ ns) [] e = absurd (omega arith)
begun_at b (n ∷ ns) (c ∷ cs) e = let ih = begun_at (suc b) ns cs (omega arith) in (ap suc ih.0, begun_each b n ns c cs ih.1)

changes_as : (ss : List ℕ) (k : Ruling) (p : Result (Unit {0}) Fault × List ℕ) → Settled k → length p.1 ≡ length k.assignment → Leaves (reassigned ss k p)
changes_as ss k (Ok u, ns) h e = begun_at 0 ns k.charges (e ∙ h.0)
changes_as ss k (Err f, ns) h e = tt

abbrev answers : Bool → Bool → Bool → List ℕ → List ℕ → Result (Unit {0}) Fault × List ℕ
answers p q r xs ys = cond p (cond q (Err NoServer, xs) (cond r (Ok tt, ys) (Err NoSuch, xs))) (Err NoSuch, xs)

answers_length : (p q r : Bool) (xs ys : List ℕ) → length ys ≡ length xs → length (answers p q r xs ys).1 ≡ length xs
answers_length true true r xs ys e = refl
answers_length true false true xs ys e = e
answers_length true false false xs ys e = refl
answers_length false q r xs ys e = refl

answered_length : (ss xs : List ℕ) → length (answered ss xs).1 ≡ length xs
answered_length ss xs = answers_length (is_buckets (length xs)) (eqb (length ss) 0) (rises ss) xs (rebalanced ss xs) (rebalanced_length ss xs)

changes_settled : (ss : List ℕ) (k : Ruling) → Settled k → Leaves (changes ss k)
changes_settled ss k h = changes_as ss k (answered ss k.assignment) h (answered_length ss k.assignment)

pub added_settled : AddedSettled
added_settled s k h =
    cond_both (eqb (length (with_server s k.servers)) (length k.servers)) (Ok ([], k)) (changes (with_server s k.servers) k) Leaves (λ _. h) (λ _. changes_settled (with_server s k.servers) k h)

pub removed_settled : RemovedSettled
removed_settled s k h =
    cond_both (eqb (length (without_server s k.servers)) (length k.servers)) (Err NoSuch) (changes (without_server s k.servers) k) Leaves (λ _. tt)
    (λ _. changes_settled (without_server s k.servers) k h)

-- TICKS

pub ticked_settled : TickedSettled
ticked_settled ticks k h = (
  h.0 ∙ sym (length-map k.charges (bucket.passed ticks)),
  λ b l.
      let i : b < length k.charges = omega (arith, length-map k.charges (bucket.passed ticks)) in
      rw (get_or-map (bucket.passed ticks) k.charges b (charge_first 0) (charge_first 0) i) (h.1 b i),
)

-- NOTHING IS LEFT TO BEGIN

steady_in : (b s : ℕ) (ls : List Link) (h : Handover) (age : ℕ) (untold : List ℕ) (untold_age : ℕ) (reported : Bool) → SettledAt s (made ls h age untold untold_age reported)
    → ((bucket.begun b s (made ls h age untold untold_age reported)).0 ≡ []) × ((bucket.begun b s (made ls h age untold untold_age reported)).1.control ≡ record { kept = ls; handover = h })
steady_in b s ls Idle age untold untold_age reported x =
    elim (cases_Bool (eqb (newest_of ls).server s)) [
      | inl t ↦ rw t (refl, refl)
      | inr f ↦ rw f (elim x [
        | inl e ↦ absurd (eqb-false (newest_of ls).server s f e)
        | inr y ↦ rw (y.0, y.1) (refl, refl)
      ])
    ]
steady_in b s ls (AwaitStood l) age untold untold_age reported x = (refl, refl)
steady_in b s ls (AwaitTold l) age untold untold_age reported x = (refl, refl)

pub settled_steady : SettledSteady
settled_steady b s c x = steady_in b s c.control.kept c.control.handover c.age c.untold c.untold_age c.reported x
