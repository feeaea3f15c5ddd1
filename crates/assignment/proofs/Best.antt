-- The assignment of the rule is even, and no other even one changes fewer buckets. Assumes nothing.
use Rattle.std.proofs.Common.{◌≡◌, ℕ, zero, suc, ◌+◌, ◌-◌, ◌/◌, ◌%◌, ◌<◌, ◌≤◌, min, Bool, true, false, ◌&&◌, eqb, ltb, leb, ◌⊎◌, List, [], ◌∷◌, map, length, get_or, refl, ◌∙◌, subst, inl, inr, mul-one, mul-add, arith}
use native.Mathlib.Nat.{div-add-mod}
use Rattle.std.proofs.lemmas.Nat.{mod_below}
use Rattle.std.proofs.ByRecursion.{All-get_or}
use Rattle.std.proofs.lemmas.List.{get_or-map, get_or_past, length-map}
use Rattle.std.proofs.lemmas.Bool.{lt-ltb, ltb-true, ne_eqb, eq-eqb, cases_eq, cases_lt, cases_Bool, and_parts, and_cases, leb-true, leb-false, both_ways}
use Rattle.std.specs.List.{AllByRecursion as All}
use Rattle.assignment.specs.Even.{count, place, Listed, Even, moved, Fewest}
use Rattle.assignment.specs.Rule.{rises, sum_over, rank, quota_of, kept, kept_quota, shared_by, rebalanced}
use Rattle.assignment.specs.Laws.{LeastMoves, AnyQuotas}
use Rattle.assignment.proofs.Servers.{one, one_le, place_at, has_place}
use Rattle.assignment.proofs.Sums.{sum_eq, sum_le, sum_lt, sum_add, sum_const, sum_once, ahead_more, rank_strict, ranks}
use Rattle.assignment.proofs.Changes.{total, total_map, sum_places, Fit, keep_count, keep_most, keep_total, left_length, kept_served, deal_count, deal_served, moved_dealt}

-- QUOTAS: as many as there are buckets, and each one part or one more
pub quota_sum : (c : ℕ → ℕ) (ss : List ℕ) (n : ℕ) → rises ss ≡ true → 0 < length ss → sum_over (quota_of c ss n) ss ≡ n
quota_sum c ss n r h =
    let k = length ss in
    let more : ℕ → ℕ = λ s. one (ltb (rank c ss s) (n % k)) in
    omega (arith, sum_add (λ _. n / k) more ss, sum_const (n / k) ss, ranks c 0 (n % k) ss r, mod_below n k h, div-add-mod n k)

quota_low : (c : ℕ → ℕ) (ss : List ℕ) (n s : ℕ) → n / length ss ≤ quota_of c ss n s
quota_low c ss n s = omega arith

quota_high : (c : ℕ → ℕ) (ss : List ℕ) (n s : ℕ) → quota_of c ss n s ≤ n / length ss + 1
quota_high c ss n s = omega (arith, one_le (ltb (rank c ss s) (n % length ss)))

-- EVEN
abbrev count_in : List ℕ → ℕ → ℕ
count_in xs s = count s xs

-- as many quotas are left as buckets without a server
level_left : (f : ℕ → ℕ) (ss xs : List ℕ) → Fit ss → sum_over f ss ≡ length xs → total (kept_quota ss xs (map f ss)) ≡ count 65535 (kept ss xs (map f ss))
level_left f ss xs fit e = omega (arith, keep_total ss xs (map f ss) fit (length-map ss f), total_map f ss)

-- each server has its quota afterwards
filled_at : (f : ℕ → ℕ) (ss xs : List ℕ) (i : ℕ) → Fit ss → sum_over f ss ≡ length xs → i < length ss → count (get_or ss i 0) (shared_by (map f ss) ss xs) ≡ f (get_or ss i 0)
filled_at f ss xs i fit e h =
    let q = map f ss in
    let l = length-map ss f in
    omega (arith, deal_count ss i (kept ss xs q) (kept_quota ss xs q) fit h (left_length ss xs q ∙ l) (level_left f ss xs fit e), keep_count ss i xs q fit h l, get_or-map f ss i 0 0 h)

filled : (f : ℕ → ℕ) (ss xs : List ℕ) (s : ℕ) → Fit ss → sum_over f ss ≡ length xs → Listed ss s → count s (shared_by (map f ss) ss xs) ≡ f s
filled f ss xs s fit e in' =
    let P : ℕ → Type 0 = λ t. count t (shared_by (map f ss) ss xs) ≡ f t in
    subst P (has_place ss s in') (filled_at f ss xs (place ss s) fit e in')

pub even : (ss xs : List ℕ) → Fit ss → 0 < length ss → Even ss (rebalanced ss xs)
unfolding rebalanced
even ss xs fit h =
    let f : ℕ → ℕ = quota_of (count_in xs) ss (length xs) in
    let q = map f ss in
    let l = length-map ss f in
    let e = quota_sum (count_in xs) ss (length xs) fit.rise h in
    record {
      served = deal_served ss (kept ss xs q) (kept_quota ss xs q) fit (left_length ss xs q ∙ l) (level_left f ss xs fit e) (kept_served ss xs q l);
      level = λ s t a b. omega (arith, filled f ss xs s fit e a, filled f ss xs t fit e b, quota_high (count_in xs) ss (length xs) s, quota_low (count_in xs) ss (length xs) t);
    }

-- BOUND: where two assignments agree on s, s has that bucket in both
both : ℕ → List ℕ → List ℕ → ℕ
both s [] zs = 0
both s (x ∷ xs) [] = 0
both s (x ∷ xs) (z ∷ zs) = one (eqb s x && eqb s z) + both s xs zs

one_and : (a b : Bool) → (one (a && b) ≤ one a) × (one (a && b) ≤ one b)
one_and true true = (omega arith, omega arith)
one_and true false = (omega arith, omega arith)
one_and false true = (omega arith, omega arith)
one_and false false = (omega arith, omega arith)

one_same : (b : Bool) → one (b && b) ≡ one b
one_same true = refl
one_same false = refl

both_le : (s : ℕ) (xs zs : List ℕ) → both s xs zs ≤ min (count s xs) (count s zs)
unfolding both
both_le s [] zs = omega arith
both_le s (x ∷ xs) [] = omega arith
both_le s (x ∷ xs) (z ∷ zs) = omega (arith, one_and (eqb s x) (eqb s z), both_le s xs zs)

-- a bucket stays, or it changes hands
agree : (ss xs zs : List ℕ) → rises ss ≡ true → length zs ≡ length xs → All (Listed ss) zs → length xs ≤ moved xs zs + sum_over (λ s. both s xs zs) ss
unfolding both
agree ss [] zs r l a = omega arith
agree ss (x ∷ xs) [] r l a = absurd (omega arith)
agree ss (x ∷ xs) (z ∷ zs) r l a =
    let more : ℕ → ℕ = λ s. one (eqb s x && eqb s z) in
    let rest : ℕ → ℕ = λ s. both s xs zs in
    let split = sum_add more rest ss in
    let less = agree ss xs zs r (omega arith) a.1 in
    elim (cases_eq x z) [
      | inl e ↦
          let here : sum_over more ss ≡ 1 =
          sum_eq more (λ s. one (eqb s z)) ss (λ i h. rw e (one_same (eqb (get_or ss i 0) z))) ∙ sum_once 0 z ss r a.0 in
          rw (eq-eqb x z e) (omega arith)
      | inr d ↦ rw (ne_eqb x z d) (omega arith)
    ]

-- all buckets are counted where all are served
counts_sum : (ss zs : List ℕ) → rises ss ≡ true → All (Listed ss) zs → sum_over (count_in zs) ss ≡ length zs
counts_sum ss [] r a = omega (arith, sum_const 0 ss)
counts_sum ss (z ∷ zs) r a = omega (arith, sum_add (λ s. one (eqb s z)) (count_in zs) ss, sum_once 0 z ss r a.0, counts_sum ss zs r a.1)

-- LEVEL: numbers for the servers that differ by at most one and come to n are parts of n, or one more
parts_low : (d : ℕ → ℕ) (ss : List ℕ) (n i : ℕ) → sum_over d ss ≡ n → ((k j : ℕ) → k < length ss → j < length ss → d (get_or ss k 0) ≤ d (get_or ss j 0) + 1)
    → i < length ss → n / length ss ≤ d (get_or ss i 0)
parts_low d ss n i e flat h =
    let k = length ss in
    let p = n / k in
    elim (cases_lt (d (get_or ss i 0)) p) [
      | inl less ↦ absurd (omega (arith, sum_lt d (λ _. p) ss i h (λ j l. omega (arith, flat j i l h)) (omega arith), sum_const p ss, div-add-mod n k))
      | inr y ↦ y
    ]

parts_high : (d : ℕ → ℕ) (ss : List ℕ) (n i : ℕ) → sum_over d ss ≡ n → ((k j : ℕ) → k < length ss → j < length ss → d (get_or ss k 0) ≤ d (get_or ss j 0) + 1)
    → i < length ss → d (get_or ss i 0) ≤ n / length ss + 1
parts_high d ss n i e flat h =
    let k = length ss in
    let p = n / k in
    elim (cases_lt (p + 1) (d (get_or ss i 0))) [
      | inl more ↦ absurd (omega (arith, sum_lt (λ _. p + 1) d ss i h (λ j l. omega (arith, flat i j h l)) (omega arith), sum_const (p + 1) ss, mul-add k p 1, mul-one k, div-add-mod n k, mod_below n k (omega arith)))
      | inr y ↦ y
    ]

find_none : (p : ℕ → Bool) (s : ℕ) (ss : List ℕ) → p s ≡ false → ((i : ℕ) → i < length ss → p (get_or ss i 0) ≡ false) → (i : ℕ) → i < length (s ∷ ss) → p (get_or (s ∷ ss) i 0) ≡ false
find_none p s ss n none zero h = n
find_none p s ss n none (suc i) h = none i (omega arith)

-- a server that passes the test, or none does
find : (p : ℕ → Bool) (ss : List ℕ) → ((i : ℕ) × (i < length ss) × (p (get_or ss i 0) ≡ true)) ⊎ ((i : ℕ) → i < length ss → p (get_or ss i 0) ≡ false)
find p [] = inr (λ i h. absurd (omega arith))
find p (s ∷ ss) = elim (cases_Bool (p s)) [
  | inl y ↦ inl (0, omega arith, y)
  | inr n ↦ elim (find p ss) [
    | inl f ↦ inl (suc f.0, omega (arith, f.1), f.2)
    | inr none ↦ inr (find_none p s ss n none)
  ]
]

-- QUOTAS ARE BEST: no other even numbers have more in common with the counts
best : (c d K : ℕ → ℕ) (ss : List ℕ) (n : ℕ) → rises ss ≡ true → 0 < length ss → sum_over d ss ≡ n
    → ((k j : ℕ) → k < length ss → j < length ss → d (get_or ss k 0) ≤ d (get_or ss j 0) + 1)
    → ((i : ℕ) → i < length ss → min (c (get_or ss i 0)) (quota_of c ss n (get_or ss i 0)) ≤ K (get_or ss i 0))
    → sum_over (λ s. min (c s) (d s)) ss ≤ sum_over K ss
best c d K ss n r h e flat keeps =
    let m = length ss in
    let p = n / m in
    let rest = n % m in
    let low : (i : ℕ) → i < length ss → p ≤ d (get_or ss i 0) = λ i l. parts_low d ss n i e flat l in
    let high : (i : ℕ) → i < length ss → d (get_or ss i 0) ≤ p + 1 = λ i l. parts_high d ss n i e flat l in
    let poor : ℕ → Bool = λ s. ltb (rank c ss s) rest && leb (c s) p in
    elim (find poor ss) [
      | inl f ↦
          -- one that gets one more has none to spare: so all that have more than a part get one more
          let t = get_or ss f.0 0 in
          let w = and_parts (ltb (rank c ss t) rest) (leb (c t) p) f.2 in
          let ahead-t = ltb-true (rank c ss t) rest w.0 in
          let few = leb-true (c t) p w.1 in
          sum_le (λ s. min (c s) (d s)) K ss (λ i l.
          let s = get_or ss i 0 in
          elim (cases_lt p (c s)) [
            | inl much ↦
                let strict = rank_strict c ss i t l (ahead_more c s t (omega arith)) in
                let q : quota_of c ss n s ≡ p + 1 = rw (lt-ltb (rank c ss s) rest (omega arith)) in
                omega (arith, keeps i l, high i l)
            | inr little ↦ omega (arith, keeps i l, quota_low c ss n s)
          ])
      | inr none ↦
          -- each that gets one more keeps it, and no even numbers have more than so many more
          let more : ℕ → ℕ = λ s. one (ltb (rank c ss s) rest) in
          let part : ℕ → ℕ = λ s. min (c s) p in
          let over : ℕ → ℕ = λ s. d s - p in
          let left = sum_le (λ s. min (c s) (d s)) (λ s. part s + over s) ss (λ i l. omega (arith, low i l)) in
          let right = sum_le (λ s. part s + more s) K ss (λ i l.
          let s = get_or ss i 0 in
          elim (cases_Bool (ltb (rank c ss s) rest)) [
            | inl y ↦
                let q : quota_of c ss n s ≡ p + 1 = rw y in
                let rich : p < c s = elim (and_cases (ltb (rank c ss s) rest) (leb (c s) p) (none i l)) [ inl z ↦ absurd (both_ways (ltb (rank c ss s) rest) z y) | inr z ↦ leb-false (c s) p z ] in
                rw y (omega (arith, keeps i l))
            | inr z ↦
                let q : quota_of c ss n s ≡ p + 0 = rw z in
                rw z (omega (arith, keeps i l))
          ]) in
          let spare = sum_eq (λ s. p + over s) d ss (λ i l. omega (arith, low i l)) in
          omega (arith, sum_add part over ss, sum_add part more ss, sum_add (λ _. p) over ss, sum_const p ss, ranks c 0 rest ss r, mod_below n m h, div-add-mod n m)
    ]

-- any assignment to listed servers changes at least the buckets beyond the smaller of old and new counts
bound : (ss xs zs : List ℕ) → rises ss ≡ true → length zs ≡ length xs → All (Listed ss) zs → length xs ≤ moved xs zs + sum_over (λ s. min (count s xs) (count s zs)) ss
bound ss xs zs r l a =
    omega (arith, agree ss xs zs r l a, sum_le (λ s. both s xs zs) (λ s. min (count s xs) (count s zs)) ss (λ i b. both_le (get_or ss i 0) xs zs))

-- what is kept is counted server by server
kept_sum : (f : ℕ → ℕ) (ss xs : List ℕ) → Fit ss → moved xs (shared_by (map f ss) ss xs) + sum_over (λ s. count s (kept ss xs (map f ss))) ss ≤ length xs
kept_sum f ss xs fit =
    let q = map f ss in
    let l = length-map ss f in
    let K : ℕ → ℕ = λ s. count s (kept ss xs q) in
    let all = sum_places K ss (kept_quota ss xs q) q (left_length ss xs q ∙ l) l (λ i b. keep_count ss i xs q fit b l) in
    omega (arith, moved_dealt ss xs q (kept_quota ss xs q) fit l, keep_total ss xs q fit l)

keeps_most : (f : ℕ → ℕ) (ss xs : List ℕ) (i : ℕ) → Fit ss → i < length ss → min (count (get_or ss i 0) xs) (f (get_or ss i 0)) ≤ count (get_or ss i 0) (kept ss xs (map f ss))
keeps_most f ss xs i fit h = omega (arith, keep_most ss i xs (map f ss) fit h (length-map ss f), get_or-map f ss i 0 0 h)

-- and keeping the lowest attains that, for any quotas
attained : (f : ℕ → ℕ) (ss xs : List ℕ) → Fit ss → moved xs (shared_by (map f ss) ss xs) + sum_over (λ s. min (count s xs) (f s)) ss ≤ length xs
attained f ss xs fit =
    omega (arith, kept_sum f ss xs fit, sum_le (λ s. min (count s xs) (f s)) (λ s. count s (kept ss xs (map f ss))) ss (λ i b. keeps_most f ss xs i fit b))

fit_from : (ss : List ℕ) → rises ss ≡ true → All (λ s. s < 256) ss → Fit ss
fit_from ss r a = record { rise = r; real = λ i. elim (cases_lt i (length ss)) [ inl h ↦ All-get_or (λ s. s < 256) ss i 0 h a | inr n ↦ omega (arith, get_or_past ss i 0 n) ] }

pub least_moves : LeastMoves
least_moves ss xs zs r l a = bound ss xs zs r l a

pub any_quotas : AnyQuotas
any_quotas f ss xs r a =
    let fit = fit_from ss r a in
    (attained f ss xs fit, λ e s in'. filled f ss xs s fit e in')

pub fewest : (ss xs : List ℕ) → Fit ss → 0 < length ss → Fewest ss xs (rebalanced ss xs)
unfolding rebalanced
fewest ss xs fit h zs l ev =
    let c = count_in xs in
    let d = count_in zs in
    let f : ℕ → ℕ = quota_of c ss (length xs) in
    let all : sum_over d ss ≡ length xs = counts_sum ss zs fit.rise ev.served ∙ l in
    let listed : (i : ℕ) → i < length ss → Listed ss (get_or ss i 0) = λ i b. (let e = place_at 0 ss i fit.rise b in omega arith) in
    let top = best c d (λ s. count s (kept ss xs (map f ss))) ss (length xs) fit.rise h all
    (λ k j a b. ev.level (get_or ss k 0) (get_or ss j 0) (listed k a) (listed j b))
    (λ i b. keeps_most f ss xs i fit b) in
    omega (arith, bound ss xs zs fit.rise l ev.served, kept_sum f ss xs fit, top)
