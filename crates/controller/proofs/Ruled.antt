-- One bucket of the controller changes, and nothing else of it. Assumes nothing.
use Rattle.std.proofs.Common.{◌≡◌, false, Result, Ok, Err, is_err, MatchResult, ℕ, ◌+◌, ◌<◌, List, ◌++◌, map, length, get_or, set, sym, ap, ◌∙◌, subst, arith}
use Rattle.std.proofs.lemmas.List.{map-set, get_or-map}
use Rattle.machine.specs.declared.sent.Sent.{Sent}
use Rattle.controller_bucket.specs.declared.kept.Bucket.{Bucket}
use Rattle.controller_bucket.specs.Rules.{Charge}
use Rattle.controller_bucket.specs.Kept.{charge, Goes}
use Rattle.chain.specs.declared.way.Link.{Link}
use Rattle.controller_bucket.specs.Rules as bucket
use Rattle.controller.specs.Rules.{Ruling, assigned_at, ticked, due_from}

abbrev pub with_charges : Ruling → List Charge → Ruling
with_charges k cs = record { servers = k.servers; assignment = k.assignment; charges = cs; balancers = k.balancers; tick = k.tick; parted = k.parted }

-- what is kept of the bucket
pub charge_of : (cs : List Bucket) (b : ℕ) (x : Bucket) (d : Charge) → b < length cs → x ≡ get_or cs b x → get_or (map charge cs) b d ≡ charge x
charge_of cs b x d h e = get_or-map charge cs b x d h ∙ ap charge (sym e)

pub ruled : (cs : List Bucket) (i b : ℕ) (x y : Bucket) (d : Charge) (F : Charge → Charge) → i ≡ b → b < length cs → x ≡ get_or cs i x → charge y ≡ F (charge x)
    → map charge (set cs i y) ≡ set (map charge cs) b (F (get_or (map charge cs) b d))
ruled cs i b x y d F j h e f = rw j (map-set charge cs b y ∙ ap (set (map charge cs) b) (f ∙ ap F (sym (charge_of cs b x d h (rw j at e)))))

pub goes : (cs : List Bucket) (i b : ℕ) (x y : Bucket) (d : Charge) (P : Charge → List Sent × Charge) (was here out : List Sent) → i ≡ b → b < length cs → x ≡ get_or cs i x → here ≡ was
    → Goes (P (charge x)) (charge y) here out
    → (map charge (set cs i y) ≡ set (map charge cs) b (P (get_or (map charge cs) b d)).1) × (out ≡ was ++ (P (get_or (map charge cs) b d)).0)
goes cs i b x y d P was here out j h e w g =
    (ruled cs i b x y d (λ c. (P c).1) j h e g.0, g.1 ∙ (ap (λ o. o ++ (P (charge x)).0) w ∙ ap (λ c. was ++ (P c).0) (sym (charge_of cs b x d h (rw j at e)))))

pub assigned_is : (b : ℕ) (k : Ruling) (s i : ℕ) (xs : List ℕ) → s ≡ get_or xs i 0 → xs ≡ k.assignment → i ≡ b → s ≡ assigned_at b k
assigned_is b k s i xs e f j = rw (e, f, j)

pub told_as : (b s t : ℕ) (all every : List ℕ) (n : ℕ) (a : Link) (x y : Charge) (here out : List Sent) → s ≡ t → all ≡ every → Goes (bucket.told b s all n a x) y here out
    → Goes (bucket.told b t every n a x) y here out
told_as b s t all every n a x y here out e f g = subst (λ u. Goes (bucket.told b u every n a x) y here out) e (subst (λ us. Goes (bucket.told b s us n a x) y here out) f g)

pub newest_at : (cs : List Bucket) (i b : ℕ) (x : Bucket) (d : Charge) (l : Link) → i ≡ b → b < length cs → x ≡ get_or cs i x → l ≡ bucket.newest (charge x) → l ≡ bucket.newest (get_or (map charge cs) b d)
newest_at cs i b x d l j h e f = f ∙ ap bucket.newest (sym (charge_of cs b x d h (rw j at e)))

abbrev pub with_both : Ruling → List Charge → List ℕ → Ruling
with_both k cs ps = record { servers = k.servers; assignment = k.assignment; charges = cs; balancers = k.balancers; tick = k.tick; parted = ps }

pub both : (k : Ruling) (xs ys : List Charge) (ps qs : List ℕ) → xs ≡ ys → ps ≡ qs → with_both k xs ps ≡ with_both k ys qs
both k xs ys ps qs e f = rw (e, f)

pub charge_here : (cs : List Bucket) (i b : ℕ) (x : Bucket) (d : Charge) → i ≡ b → b < length cs → x ≡ get_or cs i x → charge x ≡ get_or (map charge cs) b d
charge_here cs i b x d j h e = sym (charge_of cs b x d h (rw j at e))

-- all buckets are later
pub later_is : (k : Ruling) (n : ℕ) (cs : List Charge) (t : ℕ) → cs ≡ map (bucket.passed n) k.charges → t ≡ k.tick + n
    → record { servers = k.servers; assignment = k.assignment; charges = cs; balancers = k.balancers; tick = t; parted = k.parted } ≡ (ticked n k).1
later_is k n cs t e f = rw (e, f)

pub due_is : (k : Ruling) (n : ℕ) (xs : List Charge) (was out : List Sent) → xs ≡ k.charges → out ≡ was ++ due_from 0 n xs → out ≡ was ++ (ticked n k).0
due_is k n xs was out e f = rw (← e) f

-- what was not refused is said
pub due_done : {E : Type 0} (P : Unit {0} → Type 0) (Q : E → Type 0) (r : Result (Unit {0}) E) → false ≡ is_err r → MatchResult r P Q → P tt
due_done P Q (Ok u) e m = m
due_done P Q (Err x) e m = grind arith
