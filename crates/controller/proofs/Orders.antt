-- Servers come and go: the new assignment, and what begins by it. Assumes nothing.
use Rattle.std.proofs.Common.{◌≡◌, ℕ, Bool, true, false, cond, eqb, List, [], ◌++◌, length, Ok, Err, MatchBool, Result, Vec, sym, refl, ap, subst}
use Rattle.std.specs.declared.alloc.Global.{Global}
use Rattle.fault.specs.declared.Fault.{Fault}
use Rattle.fault.specs.declared.Fault.TheVariants.{NoSuch}
use Rattle.machine.specs.declared.sent.Sent.{Sent}
use Rattle.machine.specs.Steps.{Did}
use Rattle.assignment.specs.declared.moves.Move.{Move}
use Rattle.assignment.specs.Rule.{answered}
use Rattle.roster.specs.declared.roster.Roster.{Roster}
use Rattle.roster.specs.Listing.{with_server, without_server}
use Rattle.roster.specs.Rosters.{servers_of, assignment_of, Stays, Unlisted, Changed, Added, Removed, ChangedWhole, AddedWhole, RemovedWhole}
use Rattle.controller_bucket.specs.Rules.{Charge}
use Rattle.controller.specs.Rules.{Ruling, begun_from, reassigned, changes, adds, removes}

abbrev pub with_roster : Ruling → Roster → List Charge → Ruling
with_roster k b cs = record { servers = servers_of b; assignment = assignment_of b; charges = cs; balancers = k.balancers; tick = k.tick; parted = k.parted }

changes_by : (ss ns : List ℕ) (k : Ruling) (p : Result (Unit {0}) Fault × List ℕ) (cs : List Charge) (was out : List Sent) → p ≡ (Ok tt, ns) → cs ≡ (begun_from 0 ns k.charges).1
    → out ≡ was ++ (begun_from 0 ns k.charges).0
    → Did (reassigned ss k p) (Ok tt) k (record { servers = ss; assignment = ns; charges = cs; balancers = k.balancers; tick = k.tick; parted = k.parted }) was out
changes_by ss ns k p cs was out e f g =
    subst (λ q. Did (reassigned ss k q) (Ok tt) k (record { servers = ss; assignment = ns; charges = cs; balancers = k.balancers; tick = k.tick; parted = k.parted }) was out) (sym e)
    (rw f refl, g)

pub changed_did : (ss : List ℕ) (k : Ruling) (a b : Roster) (v : Vec Move Global) (cs : List Charge) (was out : List Sent) → assignment_of a ≡ k.assignment → Changed ss a b (Ok v) → ChangedWhole ss a b (Ok v)
    → cs ≡ (begun_from 0 (assignment_of b) k.charges).1 → out ≡ was ++ (begun_from 0 (assignment_of b) k.charges).0 → Did (changes ss k) (Ok tt) k (with_roster k b cs) was out
changed_did ss k a b v cs was out e h w f g =
    subst (λ us. Did (changes ss k) (Ok tt) k (record { servers = us; assignment = assignment_of b; charges = cs; balancers = k.balancers; tick = k.tick; parted = k.parted }) was out) (sym h.0)
    (changes_by ss (assignment_of b) k (answered ss k.assignment) cs was out (subst (λ xs. answered ss xs ≡ (Ok tt, assignment_of b)) e w.1) f g)

add_as : (t : Bool) (ss : List ℕ) (k : Ruling) (a b : Roster) (v : Vec Move Global) (cs : List Charge) (was out : List Sent) → MatchBool t (Stays a b (Ok v)) (Changed ss a b (Ok v)) → MatchBool t (Unit {0}) (ChangedWhole ss a b (Ok v))
    → (length (servers_of b) ≡ length (servers_of a) → ⊥) → assignment_of a ≡ k.assignment → cs ≡ (begun_from 0 (assignment_of b) k.charges).1 → out ≡ was ++ (begun_from 0 (assignment_of b) k.charges).0
    → Did (cond t (Ok ([], k)) (changes ss k)) (Ok tt) k (with_roster k b cs) was out
add_as true ss k a b v cs was out h w z e f g = absurd (z (ap (λ r. length (servers_of r)) h.0))
add_as false ss k a b v cs was out h w z e f g = changed_did ss k a b v cs was out e h w f g

pub added_did : (s : ℕ) (k : Ruling) (a b : Roster) (v : Vec Move Global) (cs : List Charge) (was out : List Sent) → Added s a b (Ok v) → AddedWhole s a b (Ok v) → (length (servers_of b) ≡ length (servers_of a) → ⊥)
    → servers_of a ≡ k.servers → assignment_of a ≡ k.assignment → cs ≡ (begun_from 0 (assignment_of b) k.charges).1 → out ≡ was ++ (begun_from 0 (assignment_of b) k.charges).0
    → Did (adds s k) (Ok tt) k (with_roster k b cs) was out
added_did s k a b v cs was out h w z d e f g =
    subst (λ ss. Did (cond (eqb (length (with_server s ss)) (length ss)) (Ok ([], k)) (changes (with_server s ss) k)) (Ok tt) k (with_roster k b cs) was out) d
    (add_as (eqb (length (with_server s (servers_of a))) (length (servers_of a))) (with_server s (servers_of a)) k a b v cs was out h w z e f g)

remove_as : (t : Bool) (ss : List ℕ) (k : Ruling) (a b : Roster) (v : Vec Move Global) (cs : List Charge) (was out : List Sent) → MatchBool t (Unlisted a b (Ok v)) (Changed ss a b (Ok v)) → MatchBool t (Unit {0}) (ChangedWhole ss a b (Ok v))
    → assignment_of a ≡ k.assignment → cs ≡ (begun_from 0 (assignment_of b) k.charges).1 → out ≡ was ++ (begun_from 0 (assignment_of b) k.charges).0
    → Did (cond t (Err NoSuch) (changes ss k)) (Ok tt) k (with_roster k b cs) was out
remove_as true ss k a b v cs was out h w e f g = absurd h
remove_as false ss k a b v cs was out h w e f g = changed_did ss k a b v cs was out e h w f g

pub removed_did : (s : ℕ) (k : Ruling) (a b : Roster) (v : Vec Move Global) (cs : List Charge) (was out : List Sent) → Removed s a b (Ok v) → RemovedWhole s a b (Ok v) → servers_of a ≡ k.servers → assignment_of a ≡ k.assignment
    → cs ≡ (begun_from 0 (assignment_of b) k.charges).1 → out ≡ was ++ (begun_from 0 (assignment_of b) k.charges).0 → Did (removes s k) (Ok tt) k (with_roster k b cs) was out
removed_did s k a b v cs was out h w d e f g =
    subst (λ ss. Did (cond (eqb (length (without_server s ss)) (length ss)) (Err NoSuch) (changes (without_server s ss) k)) (Ok tt) k (with_roster k b cs) was out) d
    (remove_as (eqb (length (without_server s (servers_of a))) (length (servers_of a))) (without_server s (servers_of a)) k a b v cs was out h w e f g)

-- what was begun, from lists that are equal to those that are kept
pub begun_as : (k : Ruling) (ns ms : List ℕ) (xs : List Charge) (cs : List Charge) (was here out : List Sent) → ms ≡ ns → xs ≡ k.charges → here ≡ was → cs ≡ (begun_from 0 ms xs).1 → out ≡ here ++ (begun_from 0 ms xs).0
    → (cs ≡ (begun_from 0 ns k.charges).1) × (out ≡ was ++ (begun_from 0 ns k.charges).0)
begun_as k ns ms xs cs was here out e f w g h = rw (← e, ← f, ← w) (g, h)
