-- Sums over the servers, and how many servers are ahead of another. Assumes nothing.
use Rattle.std.proofs.Common.{◌≡◌, ℕ, zero, suc, ◌+◌, ◌-◌, ◌*◌, ◌<◌, ◌≤◌, min, true, false, eqb, ltb, leb, List, [], ◌∷◌, map, length, get_or, refl, ap, ◌∙◌, inl, inr, add-mul, one-mul, arith}
use Rattle.std.proofs.lemmas.Bool.{and_parts, cases_lt, cases_Bool, cases_eq, lt-ltb, le-ltb, ne_eqb, eq-eqb}
use Rattle.std.proofs.lemmas.Bool.Decides.{nat_tests}
use Rattle.assignment.specs.Even.{place, Listed}
use Rattle.assignment.specs.Rule.{rises_from, sum_over, ahead, rank, quota_of}
use Rattle.assignment.proofs.Servers.{one, rise_above, sum_le_length}

pub sum_eq : (f g : ℕ → ℕ) (ss : List ℕ) → ((i : ℕ) → i < length ss → f (get_or ss i 0) ≡ g (get_or ss i 0)) → sum_over f ss ≡ sum_over g ss
sum_eq f g [] e = refl
sum_eq f g (s ∷ ss) e = omega (arith, e 0 (omega arith), sum_eq f g ss (λ i h. e (suc i) (omega arith)))

pub sum_le : (f g : ℕ → ℕ) (ss : List ℕ) → ((i : ℕ) → i < length ss → f (get_or ss i 0) ≤ g (get_or ss i 0)) → sum_over f ss ≤ sum_over g ss
sum_le f g [] e = omega arith
sum_le f g (s ∷ ss) e = omega (arith, e 0 (omega arith), sum_le f g ss (λ i h. e (suc i) (omega arith)))

pub sum_lt : (f g : ℕ → ℕ) (ss : List ℕ) (i : ℕ) → i < length ss → ((k : ℕ) → k < length ss → f (get_or ss k 0) ≤ g (get_or ss k 0)) → f (get_or ss i 0) + 1 ≤ g (get_or ss i 0)
    → sum_over f ss + 1 ≤ sum_over g ss
sum_lt f g [] i h e l = absurd (omega arith)
sum_lt f g (s ∷ ss) zero h e l = omega (arith, sum_le f g ss (λ k j. e (suc k) (omega arith)))
sum_lt f g (s ∷ ss) (suc i) h e l = omega (arith, e 0 (omega arith), sum_lt f g ss i (omega arith) (λ k j. e (suc k) (omega arith)) l)

pub sum_add : (f g : ℕ → ℕ) (ss : List ℕ) → sum_over (λ s. f s + g s) ss ≡ sum_over f ss + sum_over g ss
sum_add f g [] = refl
sum_add f g (s ∷ ss) = omega (arith, sum_add f g ss)

pub sum_const : (n : ℕ) (ss : List ℕ) → sum_over (λ _. n) ss ≡ length ss * n
sum_const n [] = omega arith
sum_const n (s ∷ ss) = omega (arith, sum_const n ss, add-mul 1 (length ss) n, one-mul n)

pub map_same : (f g : ℕ → ℕ) (ss : List ℕ) → ((i : ℕ) → i < length ss → f (get_or ss i 0) ≡ g (get_or ss i 0)) → map f ss ≡ map g ss
map_same f g [] e = refl
map_same f g (s ∷ ss) e = let here = e 0 (omega arith) in let rest = map_same f g ss (λ i h. e (suc i) (omega arith)) in cc

-- a number that is listed is met once, and any other not at all
pub sum_met : (n x : ℕ) (ss : List ℕ) → rises_from n ss ≡ true → x < n → sum_over (λ s. one (eqb s x)) ss ≡ 0
sum_met n x [] r l = refl
sum_met n x (s ∷ ss) r l =
    let p = and_parts (leb n s) (rises_from (suc s) ss) r in
    let a = rise_above n (s ∷ ss) 0 r (omega arith) in
    rw (ne_eqb s x (λ e. omega arith)) (omega (arith, sum_met (suc s) x ss p.1 (omega arith)))

pub sum_once : (n x : ℕ) (ss : List ℕ) → rises_from n ss ≡ true → Listed ss x → sum_over (λ s. one (eqb s x)) ss ≡ 1
sum_once n x [] r l = absurd (omega arith)
sum_once n x (s ∷ ss) r l =
    let p = and_parts (leb n s) (rises_from (suc s) ss) r in
    elim (cases_eq s x) [
      | inl e ↦ rw (eq-eqb s x e) (omega (arith, sum_met (suc s) x ss p.1 (omega arith)))
      | inr d ↦
          let f = ne_eqb s x d in
          let k : suc (place ss x) < suc (length ss) = rw f at l in
          rw f (omega (arith, sum_once (suc s) x ss p.1 (omega arith)))
    ]

-- to be ahead is a strict order, and of two servers one is ahead
ahead_self : (c : ℕ → ℕ) (s : ℕ) → ahead c s s ≡ false
ahead_self c s = grind (arith, nat_tests)

ahead_trans : (c : ℕ → ℕ) (t s u : ℕ) → ahead c t s ≡ true → ahead c s u ≡ true → ahead c t u ≡ true
ahead_trans c t s u a b = grind (arith, nat_tests)

ahead_other : (c : ℕ → ℕ) (t s : ℕ) → (s ≡ t → ⊥) → ahead c t s ≡ false → ahead c s t ≡ true
ahead_other c t s n a = grind (arith, nat_tests)

pub ahead_more : (c : ℕ → ℕ) (t s : ℕ) → c s < c t → ahead c t s ≡ true
ahead_more c t s h = grind (arith, nat_tests)

one_trans : (c : ℕ → ℕ) (t s u : ℕ) → ahead c s u ≡ true → one (ahead c t s) ≤ one (ahead c t u)
one_trans c t s u a = elim (cases_Bool (ahead c t s)) [
  | inl y ↦ rw (y, ahead_trans c t s u y a) (omega arith)
  | inr n ↦ rw n (omega arith)
]

rank_mono : (c : ℕ → ℕ) (ss : List ℕ) (x s : ℕ) → ahead c x s ≡ true → rank c ss x ≤ rank c ss s
rank_mono c ss x s a = sum_le (λ t. one (ahead c t x)) (λ t. one (ahead c t s)) ss (λ i h. one_trans c (get_or ss i 0) x s a)

pub rank_strict : (c : ℕ → ℕ) (ss : List ℕ) (i x : ℕ) → i < length ss → ahead c (get_or ss i 0) x ≡ true → rank c ss (get_or ss i 0) + 1 ≤ rank c ss x
rank_strict c ss i x h a =
    let s = get_or ss i 0 in
    let f : ℕ → ℕ = λ t. one (ahead c t s) in
    let g : ℕ → ℕ = λ t. one (ahead c t x) in
    let z : f s ≡ 0 = ap one (ahead_self c s) in
    let y : g s ≡ 1 = ap one a in
    sum_lt f g ss i h (λ k l. one_trans c (get_or ss k 0) s x a) (omega arith)

-- the ranks are 0, 1, 2 .., each once: so many are below r
pub ranks : (c : ℕ → ℕ) (n r : ℕ) (ss : List ℕ) → rises_from n ss ≡ true → sum_over (λ s. one (ltb (rank c ss s) r)) ss ≡ min r (length ss)
ranks c n r [] rise = omega arith
ranks c n r (x ∷ ss) rise =
    let p = and_parts (leb n x) (rises_from (suc x) ss) rise in
    let k = rank c ss x in
    let own : one (ahead c x x) + k ≡ k = ap (λ b. one b + k) (ahead_self c x) ∙ omega arith in
    let most = sum_le_length (λ t. ahead c t x) ss in
    let f : ℕ → ℕ = λ s. one (ltb (one (ahead c x s) + rank c ss s) r) in
    elim (cases_lt k r) [
      | inl h ↦
          let g : ℕ → ℕ = λ s. one (ltb (rank c ss s) (r - 1)) in
          let same : (i : ℕ) → i < length ss → f (get_or ss i 0) ≡ g (get_or ss i 0) = λ i l.
          let s = get_or ss i 0 in
          let above = rise_above (suc x) ss i p.1 l in
          elim (cases_Bool (ahead c x s)) [
            | inl y ↦ rw y (grind (arith, nat_tests))
            | inr z ↦
                let before = rank_strict c ss i x l (ahead_other c x s (λ e. omega arith) z) in
                rw (z, lt-ltb (0 + rank c ss s) r (omega arith), lt-ltb (rank c ss s) (r - 1) (omega arith))
          ] in
          rw (own, lt-ltb k r h) (omega (arith, sum_eq f g ss same, ranks c (suc x) (r - 1) ss p.1))
      | inr h ↦
          let g : ℕ → ℕ = λ s. one (ltb (rank c ss s) r) in
          let same : (i : ℕ) → i < length ss → f (get_or ss i 0) ≡ g (get_or ss i 0) = λ i l.
          let s = get_or ss i 0 in
          elim (cases_Bool (ahead c x s)) [
            | inl y ↦
                let after = rank_mono c ss x s y in
                rw (y, le-ltb (1 + rank c ss s) r (omega arith), le-ltb (rank c ss s) r (omega arith))
            | inr z ↦ rw z (ap (λ m. one (ltb m r)) (omega arith))
          ] in
          rw (own, le-ltb k r h) (omega (arith, sum_eq f g ss same, ranks c (suc x) r ss p.1))
    ]

-- quotas depend only on how many buckets the servers of the list have
pub quotas_same : (c e : ℕ → ℕ) (ss : List ℕ) (n : ℕ) → ((i : ℕ) → c (get_or ss i 0) ≡ e (get_or ss i 0)) → map (quota_of c ss n) ss ≡ map (quota_of e ss n) ss
quotas_same c e ss n same = map_same (quota_of c ss n) (quota_of e ss n) ss (λ i h.
    let s = get_or ss i 0 in
    let r : rank c ss s ≡ rank e ss s = sum_eq (λ t. one (ahead c t s)) (λ t. one (ahead e t s)) ss (λ k l. rw (same k, same i)) in
    rw r)
