-- Walks through the buckets, the balancers and the links of a chain, one after the other. Assumes nothing.
use Rattle.std.proofs.Common.{◌≡◌, ℕ, zero, suc, ◌+◌, ◌<◌, ◌≤◌, List, [], ◌∷◌, ◌++◌, map, length, get_or, take, drop, set, sym, refl, ap, append_assoc, add-one, arith}
use Rattle.std.proofs.lemmas.List.{drop_more, drop_all, take_all, take_more_set, drop-set-lt, map_push, map_more, append-nil}
use Rattle.std.proofs.lemmas.Bool.Decides.{nat_tests}
use Rattle.chain.specs.declared.way.Link.{Link}
use Rattle.machine.specs.declared.sent.Sent.{Sent}
use Rattle.controller_bucket.specs.declared.kept.Bucket.{Bucket}
use Rattle.controller_bucket.specs.Rules as bucket
use Rattle.controller_bucket.specs.Rules.{Charge, charge_first}
use Rattle.controller_bucket.specs.Kept.{charge}
use Rattle.controller.specs.Rules.{up_from, parted_at, begun_from, due_from}

-- one bucket more is made
pub first_more : (ns : List ℕ) (vs : List Bucket) (b : ℕ) (y : Bucket) (s : ℕ) → b < length ns → s ≡ get_or ns b 0 → charge y ≡ charge_first s → map charge vs ≡ map charge_first (take b ns)
    → map charge (vs ++ y ∷ []) ≡ map charge_first (take (b + 1) ns)
first_more ns vs b y s l e f h = rw (map_push charge vs y, h, map_more charge_first ns b 0 l, f, e)

-- one balancer more
pub up_more : (n m : ℕ) → up_from n (suc m) ≡ up_from n m ++ (n + m) ∷ []
unfolding up_from
up_more n zero = ap (λ x. x ∷ []) (omega arith)
up_more n (suc m) = let e : suc n + m ≡ n + suc m = omega arith in ap (λ xs. n ∷ xs) (rw e at (up_more (suc n) m))

-- one link more: its server left, or not
pub part_yes : (tick n : ℕ) (ls : List Link) (i : ℕ) (d : Link) (ps : List ℕ) (s : ℕ) → i < length ls → (get_or ls i d).place ≤ n → s ≡ (get_or ls i d).server
    → parted_at tick n (drop (i + 1) ls) (set ps s tick) ≡ parted_at tick n (drop i ls) ps
unfolding parted_at
part_yes tick n ls i d ps s h k e = rw (drop_more ls i d h, e) (grind (arith, nat_tests))

pub part_no : (tick n : ℕ) (ls : List Link) (i : ℕ) (d : Link) (ps : List ℕ) → i < length ls → n < (get_or ls i d).place → parted_at tick n (drop (i + 1) ls) ps ≡ parted_at tick n (drop i ls) ps
unfolding parted_at
part_no tick n ls i d ps h k = rw (drop_more ls i d h) (grind (arith, nat_tests))

pub part_end : (tick n : ℕ) (ls : List Link) (i : ℕ) (ps : List ℕ) → length ls ≤ i → parted_at tick n (drop i ls) ps ≡ ps
unfolding parted_at
part_end tick n ls i ps h = rw (drop_all i ls h)

-- ticks pass for one bucket more
pub pass_more : (t : ℕ) (cs : List Bucket) (b : ℕ) (d y : Bucket) → b < length cs → charge y ≡ bucket.passed t (charge (get_or cs b d))
    → map charge (take (b + 1) (set cs b y)) ++ map (bucket.passed t) (map charge (drop (b + 1) (set cs b y))) ≡ map charge (take b cs) ++ map (bucket.passed t) (map charge (drop b cs))
pass_more t cs b d y h p =
    rw (take_more_set cs b y h, drop-set-lt (b + 1) cs b y (omega arith), drop_more cs b d h, map_push charge (take b cs) y, p)
    (append_assoc (map charge (take b cs)) (bucket.passed t (charge (get_or cs b d)) ∷ []) (map (bucket.passed t) (map charge (drop (b + 1) cs))))

pub pass_end : (t : ℕ) (cs : List Bucket) (b : ℕ) → length cs ≤ b → map charge (take b cs) ++ map (bucket.passed t) (map charge (drop b cs)) ≡ map charge cs
pass_end t cs b h = rw (take_all b cs h, drop_all b cs h) (append-nil (map charge cs))

-- a handover begins in one bucket more, if it is wanted there
pub begun_more : (ns : List ℕ) (cs : List Bucket) (b : ℕ) (d y : Bucket) (s : ℕ) → b < length cs → b < length ns → s ≡ get_or ns b 0 → charge y ≡ (bucket.begun b s (charge (get_or cs b d))).1
    → map charge (take (b + 1) (set cs b y)) ++ (begun_from (b + 1) (drop (b + 1) ns) (map charge (drop (b + 1) (set cs b y)))).1 ≡ map charge (take b cs) ++ (begun_from b (drop b ns) (map charge (drop b cs))).1
unfolding begun_from
begun_more ns cs b d y s h k f p =
    rw (take_more_set cs b y h, drop-set-lt (b + 1) cs b y (omega arith), drop_more cs b d h, drop_more ns b 0 k, map_push charge (take b cs) y, p, ← f, add-one)
    (append_assoc (map charge (take b cs)) ((bucket.begun b s (charge (get_or cs b d))).1 ∷ []) (begun_from (suc b) (drop (suc b) ns) (map charge (drop (suc b) cs))).1)

pub begun_said : (ns : List ℕ) (cs : List Bucket) (b : ℕ) (d y : Bucket) (s : ℕ) (was here : List Sent) → b < length cs → b < length ns → s ≡ get_or ns b 0
    → here ≡ was ++ (bucket.begun b s (charge (get_or cs b d))).0
    → here ++ (begun_from (b + 1) (drop (b + 1) ns) (map charge (drop (b + 1) (set cs b y)))).0 ≡ was ++ (begun_from b (drop b ns) (map charge (drop b cs))).0
unfolding begun_from
begun_said ns cs b d y s was here h k f p =
    rw (drop-set-lt (b + 1) cs b y (omega arith), drop_more cs b d h, drop_more ns b 0 k, p, ← f, add-one)
    (append_assoc was (bucket.begun b s (charge (get_or cs b d))).0 (begun_from (suc b) (drop (suc b) ns) (map charge (drop (suc b) cs))).0)

pub begun_end : (ns : List ℕ) (cs : List Bucket) (b : ℕ) → length cs ≤ b → map charge (take b cs) ++ (begun_from b (drop b ns) (map charge (drop b cs))).1 ≡ map charge cs
unfolding begun_from
begun_end ns cs b h = rw (take_all b cs h, drop_all b cs h) (append-nil (map charge cs))

pub begun_all_said : (ns : List ℕ) (cs : List Bucket) (b : ℕ) (out : List Sent) → length cs ≤ b → out ++ (begun_from b (drop b ns) (map charge (drop b cs))).0 ≡ out
unfolding begun_from
begun_all_said ns cs b out h = rw (drop_all b cs h) (append-nil out)

-- what is due of one bucket more
pub due_more : (t b : ℕ) (c : Charge) (cs : List Charge) (was here : List Sent) → here ≡ was ++ bucket.due b t c → here ++ due_from (suc b) t cs ≡ was ++ due_from b t (c ∷ cs)
unfolding due_from
due_more t b c cs was here p = rw p (append_assoc was (bucket.due b t c) (due_from (suc b) t cs))

pub due_none : (t m n : ℕ) → due_from m t [] ≡ due_from n t []
unfolding due_from
due_none t m n = refl

pub due_end : (t b : ℕ) (cs : List Bucket) (out : List Sent) → cs ≡ [] → out ++ due_from b t (map charge cs) ≡ out
unfolding due_from
due_end t b cs out e = rw e (append-nil out)

-- what was sent before stays in front
pub front_more : (e xs ys : List Sent) → take (length e) xs ≡ e → take (length e) (xs ++ ys) ≡ e
front_more [] xs ys h = refl
front_more (x ∷ e) [] ys h = grind arith
front_more (x ∷ e) (z ∷ xs) ys h = let ih = front_more e xs ys in grind arith

pub ups_more : (m : ℕ) (xs ys : List ℕ) → xs ≡ up_from 0 m → ys ≡ xs ++ m ∷ [] → ys ≡ up_from 0 (m + 1)
ups_more m xs ys h e = let z : 0 + m ≡ m = omega arith in rw (e, h, add-one) (sym (rw z at (up_more 0 m)))
