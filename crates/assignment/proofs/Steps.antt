-- One bucket more is dealt, in a loop whose invariant is that what is done and what is left give the whole. Assumes nothing.
use Rattle.std.proofs.Common.{◌≡◌, ℕ, suc, ◌+◌, ◌-◌, ◌<◌, ◌≤◌, true, leb, List, [], ◌∷◌, ◌++◌, map, length, get_or, take, drop, set, sym, refl, ap, ◌∙◌, inl, inr, append_assoc, arith}
use Rattle.std.proofs.lemmas.List.{take_more_set, drop_more, drop-set-lt, take_all, get_or-set_same, get_or-set_other}
use Rattle.std.proofs.lemmas.Bool.{lt-ltb, le-ltb, ne_eqb, eq-eqb, cases_eq, cases_lt, and_parts, leb-true, le-leb}
use Rattle.assignment.specs.Rule.{rises, rises_from, spent, lowest, dealt}
use Rattle.assignment.proofs.Servers.{rise_above}
use Rattle.assignment.proofs.Sums.{map_same}
use Rattle.assignment.proofs.Changes.{has_listed}

list_step : (F : List ℕ → List ℕ → List ℕ) (xs q q' : List ℕ) (b y : ℕ) → b < length xs
    → F (get_or xs b 0 ∷ drop (b + 1) xs) q ≡ y ∷ F (drop (b + 1) xs) q'
    → take (b + 1) (set xs b y) ++ F (drop (b + 1) (set xs b y)) q' ≡ take b xs ++ F (drop b xs) q
list_step F xs q q' b y h e =
    let d : drop (b + 1) (set xs b y) ≡ drop (b + 1) xs = drop-set-lt (b + 1) xs b y (omega arith) in
    rw (d, take_more_set xs b y h, append_assoc (take b xs) (y ∷ []) (F (drop (b + 1) xs) q'))
    (ap (λ r. take b xs ++ r) (sym e ∙ ap (λ l. F l q) (sym (drop_more xs b 0 h))))

-- the quotas by the servers' numbers, in the order of a list of servers
abbrev pub of_each : List ℕ → List ℕ → List ℕ
of_each q ss = map (λ s. get_or q s 0) ss

-- the quota of a server above s is the same after one of s is spent
pub spent_above : (n : ℕ) (ss q : List ℕ) (s : ℕ) → rises_from n ss ≡ true → s < n → of_each (spent q s) ss ≡ of_each q ss
spent_above n ss q s r h = map_same (λ t. get_or (spent q s) t 0) (λ t. get_or q t 0) ss (λ i l.
    get_or-set_other q s (get_or ss i 0) (get_or q s 0 - 1) 0 (λ e. omega (arith, rise_above n ss i r l)))

rises_weaker : (n m : ℕ) (ss : List ℕ) → m ≤ n → rises_from n ss ≡ true → rises_from m ss ≡ true
rises_weaker n m [] h r = refl
rises_weaker n m (s ∷ ss) h r =
    let p = and_parts (leb n s) (rises_from (suc s) ss) r in
    let t = le-leb m s (omega (arith, leb-true n s p.0)) in
    rw (t, p.1)

-- a server without quota is passed
pub deal_passes : (s n : ℕ) (ss ys q : List ℕ) → n ≤ 0 → dealt (s ∷ ss) ys (n ∷ q) ≡ dealt ss ys q
deal_passes s n ss [] q z = refl
deal_passes s n ss (y ∷ ys) q z =
    let t = le-ltb 0 n z in
    elim (cases_eq y 65535) [
      | inl e ↦ elim (cases_lt (lowest q) (length q)) [
        | inl l ↦ rw (eq-eqb y 65535 e, t, lt-ltb (lowest q) (length q) l, lt-ltb (suc (lowest q)) (suc (length q)) (omega arith)) (ap (λ r. get_or ss (lowest q) 0 ∷ r) (deal_passes s n ss ys (spent q (lowest q)) z))
        | inr l ↦ rw (eq-eqb y 65535 e, t, le-ltb (lowest q) (length q) l, le-ltb (suc (lowest q)) (suc (length q)) (omega arith))
      ]
      | inr d ↦ rw (ne_eqb y 65535 d) (ap (λ r. y ∷ r) (deal_passes s n ss ys q z))
    ]

-- one with quota takes the bucket
pub deal_takes : (s : ℕ) (ss ys q : List ℕ) → rises (s ∷ ss) ≡ true → 0 < get_or q s 0 → s < length q
    → dealt (s ∷ ss) (65535 ∷ ys) (of_each q (s ∷ ss)) ≡ s ∷ dealt (s ∷ ss) ys (of_each (spent q s) (s ∷ ss))
deal_takes s ss ys q r h l =
    let t = lt-ltb 0 (get_or q s 0) h in
    let p = and_parts (leb 0 s) (rises_from (suc s) ss) r in
    let some = lt-ltb 0 (length (of_each q (s ∷ ss))) (omega arith) in
    rw (t, some, get_or-set_same q s (get_or q s 0 - 1) 0 l, spent_above (suc s) ss q s p.1 (omega arith))

-- the servers after the first
abbrev pub after_first : List ℕ → List ℕ
after_first ss = take (length ss - 1) (drop 1 ss)

after_first_is : (s : ℕ) (ss : List ℕ) → after_first (s ∷ ss) ≡ ss
after_first_is s ss = let e : length (s ∷ ss) - 1 ≡ length ss = omega arith in rw e (take_all (length ss) ss (omega arith))

-- the invariant of the loop that deals: what is done, and what is left to those who may still take, give the same
abbrev pub Deals : List ℕ → ℕ → List ℕ → List ℕ → List ℕ → Type 0
Deals ss b xs q all = (rises ss ≡ true) × (take b xs ++ dealt ss (drop b xs) (of_each q ss) ≡ all)

-- and of the loop in it: these deal as those
abbrev pub Likewise : List ℕ → List ℕ → List ℕ → Type 0
Likewise q ss ts = (rises ss ≡ true) × ((ys : List ℕ) → dealt ss ys (of_each q ss) ≡ dealt ts ys (of_each q ts))

pub deal_next : (ss ts q : List ℕ) → 1 ≤ length ss → get_or q (get_or ss 0 0) 0 ≤ 0 → Likewise q ss ts → Likewise q (after_first ss) ts
deal_next [] ts q h z w = absurd (omega arith)
deal_next (s ∷ ss) ts q h z w =
    let p = and_parts (leb 0 s) (rises_from (suc s) ss) w.0 in
    rw (after_first_is s ss) (rises_weaker (suc s) 0 ss (omega arith) p.1, λ ys. sym (deal_passes s (get_or q s 0) ss ys (of_each q ss) z) ∙ w.1 ys)

takes_first : (ss ys q : List ℕ) → rises ss ≡ true → 1 ≤ length ss → 0 < get_or q (get_or ss 0 0) 0
    → dealt ss (65535 ∷ ys) (of_each q ss) ≡ get_or ss 0 0 ∷ dealt ss ys (of_each (spent q (get_or ss 0 0)) ss)
takes_first [] ys q r l p = absurd (omega arith)
takes_first (s ∷ ss) ys q r l p = deal_takes s ss ys q r p (has_listed q s p)

pub deal_here : (ss ts xs q all : List ℕ) (b : ℕ) → b < length xs → get_or xs b 0 ≡ 65535 → 1 ≤ length ss → 0 < get_or q (get_or ss 0 0) 0
    → Likewise q ss ts → Deals ts b xs q all → Deals ss (b + 1) (set xs b (get_or ss 0 0)) (spent q (get_or ss 0 0)) all
deal_here ss ts xs q all b h e l p w d = (
  w.0,
  list_step (λ ys r. dealt ss ys r) xs (of_each q ss) (of_each (spent q (get_or ss 0 0)) ss) b (get_or ss 0 0) h (rw e (takes_first ss (drop (b + 1) xs) q w.0 l p))
      ∙ (ap (λ r. take b xs ++ r) (w.1 (drop b xs)) ∙ d.1),
)
