-- How many buckets each server has after what is kept, and after what is dealt. Assumes nothing.
use Rattle.std.proofs.Common.{◌≡◌, ℕ, zero, suc, ◌+◌, ◌-◌, ◌<◌, ◌≤◌, min, Bool, true, false, cond, eqb, ◌⊎◌, List, [], ◌∷◌, map, length, get_or, sym, refl, ap, ◌∙◌, subst, inl, inr, arith}
use Rattle.std.proofs.lemmas.List.{length-set, get_or-set_same, get_or-set_other, get_or_past}
use Rattle.std.proofs.lemmas.Bool.{lt-ltb, le-ltb, ne_eqb, eq-eqb, cases_eq, cases_lt}
use Rattle.std.specs.List.{AllByRecursion as All}
use Rattle.assignment.specs.Even.{count, place, Listed, moved}
use Rattle.assignment.specs.Rule.{rises, sum_over, spent, kept, kept_quota, lowest, dealt}
use Rattle.assignment.proofs.Servers.{one, one_le, place_at, has_place}

abbrev pub total : List ℕ → ℕ
total [] = 0
total (x ∷ xs) = x + total xs

pub total_map : (f : ℕ → ℕ) (ss : List ℕ) → total (map f ss) ≡ sum_over f ss
total_map f [] = refl
total_map f (s ∷ ss) = ap (λ n. f s + n) (total_map f ss)

total_at : (q : List ℕ) (i : ℕ) → get_or q i 0 ≤ total q
total_at [] i = omega arith
total_at (x ∷ q) zero = omega arith
total_at (x ∷ q) (suc i) = omega (arith, total_at q i)

-- sums by place
pub sum_places : (f : ℕ → ℕ) (ss r q : List ℕ) → length r ≡ length ss → length q ≡ length ss
    → ((i : ℕ) → i < length ss → f (get_or ss i 0) + get_or r i 0 ≡ get_or q i 0) → sum_over f ss + total r ≡ total q
sum_places f [] [] [] l m e = refl
sum_places f [] [] (y ∷ q) l m e = absurd (omega arith)
sum_places f [] (x ∷ r) q l m e = absurd (omega arith)
sum_places f (s ∷ ss) [] q l m e = absurd (omega arith)
sum_places f (s ∷ ss) (x ∷ r) [] l m e = absurd (omega arith)
sum_places f (s ∷ ss) (x ∷ r) (y ∷ q) l m e = omega (arith, e 0 (omega arith), sum_places f ss r q (omega arith) (omega arith) (λ i h. e (suc i) (omega arith)))

-- who has quota left has a place
pub has_listed : (q : List ℕ) (i : ℕ) → 0 < get_or q i 0 → i < length q
has_listed q i h = elim (cases_lt i (length q)) [ inl y ↦ y | inr n ↦ absurd (omega (arith, get_or_past q i 0 n)) ]

spent_length : (q : List ℕ) (x : ℕ) → length (spent q x) ≡ length q
spent_length q x = length-set q x (get_or q x 0 - 1)

spent_at : (q : List ℕ) (x i : ℕ) → 0 < get_or q x 0 → one (eqb i x) + get_or (spent q x) i 0 ≡ get_or q i 0
spent_at q x i h = elim (cases_eq i x) [
  | inl e ↦ rw (e, eq-eqb x x refl, get_or-set_same q x (get_or q x 0 - 1) 0 (has_listed q x h)) (omega arith)
  | inr n ↦ rw (ne_eqb i x n, get_or-set_other q x i (get_or q x 0 - 1) 0 n) (omega arith)
]

spent_total : (q : List ℕ) (x : ℕ) → 0 < get_or q x 0 → total (spent q x) + 1 ≡ total q
spent_total [] x h = absurd (omega arith)
spent_total (y ∷ q) zero h = omega arith
spent_total (y ∷ q) (suc x) h = omega (arith, spent_total q x h)

lowest_has : (q : List ℕ) → lowest q < length q → 0 < get_or q (lowest q) 0
lowest_has [] h = absurd (omega arith)
lowest_has (y ∷ q) h = elim (cases_lt 0 y) [
  | inl p ↦ (let t = lt-ltb 0 y p in rw t p)
  | inr n ↦ (let t = le-ltb 0 y n in rw t (lowest_has q (let k : suc (lowest q) < suc (length q) = rw t at h in omega arith)))
]

lowest_total : (q : List ℕ) → length q ≤ lowest q → total q ≡ 0
lowest_total [] h = refl
lowest_total (y ∷ q) h = elim (cases_lt 0 y) [
  | inl p ↦ (let t = lt-ltb 0 y p in let k : suc (length q) ≤ 0 = rw t at h in absurd (omega arith))
  | inr n ↦ (let t = le-ltb 0 y n in let k : suc (length q) ≤ suc (lowest q) = rw t at h in omega (arith, lowest_total q (omega arith)))
]

-- the list of servers as it is used here: rising, and 65535 is none of them
pub record Fit (ss : List ℕ) : Type 0 where
  pub rise : rises ss ≡ true
  pub real : (i : ℕ) → get_or ss i 0 < 256

real_listed : (ss : List ℕ) (x : ℕ) → Fit ss → Listed ss x → x < 256
real_listed ss x f l = let P : ℕ → Type 0 = λ y. y < 256 in subst P (has_place ss x l) (f.real (place ss x))

-- the server at place i has the bucket just when i is the place of the bucket's server
same_test : (ss : List ℕ) (i x : ℕ) → Fit ss → i < length ss → Listed ss x → eqb (get_or ss i 0) x ≡ eqb i (place ss x)
same_test ss i x f h l = elim (cases_eq i (place ss x)) [
  | inl e ↦ rw (eq-eqb i (place ss x) e, eq-eqb (get_or ss i 0) x (ap (λ k. get_or ss k 0) e ∙ has_place ss x l))
  | inr n ↦ rw (ne_eqb i (place ss x) n, ne_eqb (get_or ss i 0) x (λ e. n (sym (place_at 0 ss i f.rise h) ∙ ap (place ss) e)))
]

at_place : (ss : List ℕ) (i : ℕ) → Fit ss → i < length ss → Listed ss (get_or ss i 0)
at_place ss i f h = let e = place_at 0 ss i f.rise h in omega arith

not_none : (ss : List ℕ) (x : ℕ) → Fit ss → Listed ss x → x ≡ 65535 → ⊥
not_none ss x f l e = omega (arith, real_listed ss x f l)

-- a server keeps its buckets, and uses its quota for them
pub keep_count : (ss : List ℕ) (i : ℕ) (xs q : List ℕ) → Fit ss → i < length ss → length q ≡ length ss
    → count (get_or ss i 0) (kept ss xs q) + get_or (kept_quota ss xs q) i 0 ≡ get_or q i 0
keep_count ss i [] q f h l = omega arith
keep_count ss i (x ∷ xs) q f h l =
    let p = place ss x in
    elim (cases_lt 0 (get_or q p 0)) [
      | inl y ↦
          let in' : p < length ss = omega (arith, has_listed q p y) in
          rw (lt-ltb 0 (get_or q p 0) y, same_test ss i x f h in')
          (omega (arith, keep_count ss i xs (spent q p) f h (spent_length q p ∙ l), spent_at q p i y))
      | inr n ↦
          rw (le-ltb 0 (get_or q p 0) n, ne_eqb (get_or ss i 0) 65535 (λ e. omega (arith, f.real i))) (omega (arith, keep_count ss i xs q f h l))
    ]

-- all of them, or as many as its quota
pub keep_most : (ss : List ℕ) (i : ℕ) (xs q : List ℕ) → Fit ss → i < length ss → length q ≡ length ss
    → min (count (get_or ss i 0) xs) (get_or q i 0) ≤ count (get_or ss i 0) (kept ss xs q)
keep_most ss i [] q f h l = omega arith
keep_most ss i (x ∷ xs) q f h l =
    let p = place ss x in
    elim (cases_lt 0 (get_or q p 0)) [
      | inl y ↦
          let in' : p < length ss = omega (arith, has_listed q p y) in
          rw (lt-ltb 0 (get_or q p 0) y, same_test ss i x f h in')
          (omega (arith, one_le (eqb i p), keep_most ss i xs (spent q p) f h (spent_length q p ∙ l), spent_at q p i y))
      | inr n ↦ elim (cases_eq (get_or ss i 0) x) [
        | inl e ↦
            let z : get_or q i 0 ≡ 0 = omega (arith, ap (λ k. get_or q k 0) (sym (place_at 0 ss i f.rise h) ∙ ap (place ss) e)) in
            rw (le-ltb 0 (get_or q p 0) n) (omega arith)
        | inr d ↦
            rw (le-ltb 0 (get_or q p 0) n, ne_eqb (get_or ss i 0) x d, ne_eqb (get_or ss i 0) 65535 (λ e. omega (arith, f.real i)))
            (omega (arith, keep_most ss i xs q f h l))
      ]
    ]

pub keep_total : (ss xs q : List ℕ) → Fit ss → length q ≡ length ss → total (kept_quota ss xs q) + length xs ≡ total q + count 65535 (kept ss xs q)
keep_total ss [] q f l = omega arith
keep_total ss (x ∷ xs) q f l =
    let p = place ss x in
    elim (cases_lt 0 (get_or q p 0)) [
      | inl y ↦
          let in' : p < length ss = omega (arith, has_listed q p y) in
          rw (lt-ltb 0 (get_or q p 0) y, ne_eqb 65535 x (λ e. not_none ss x f in' (sym e)))
          (omega (arith, keep_total ss xs (spent q p) f (spent_length q p ∙ l), spent_total q p y))
      | inr n ↦ rw (le-ltb 0 (get_or q p 0) n) (omega (arith, keep_total ss xs q f l))
    ]

pub kept_length : (ss xs q : List ℕ) → length (kept ss xs q) ≡ length xs
kept_length ss [] q = refl
kept_length ss (x ∷ xs) q = elim (cases_lt 0 (get_or q (place ss x) 0)) [
  | inl p ↦ rw (lt-ltb 0 (get_or q (place ss x) 0) p) (ap suc (kept_length ss xs (spent q (place ss x))))
  | inr p ↦ rw (le-ltb 0 (get_or q (place ss x) 0) p) (ap suc (kept_length ss xs q))
]

pub left_length : (ss xs q : List ℕ) → length (kept_quota ss xs q) ≡ length q
left_length ss [] q = refl
left_length ss (x ∷ xs) q = elim (cases_lt 0 (get_or q (place ss x) 0)) [
  | inl p ↦ rw (lt-ltb 0 (get_or q (place ss x) 0) p) (left_length ss xs (spent q (place ss x)) ∙ spent_length q (place ss x))
  | inr p ↦ rw (le-ltb 0 (get_or q (place ss x) 0) p) (left_length ss xs q)
]

-- a listed server, or none
abbrev Served : List ℕ → ℕ → Type 0
Served ss x = (x ≡ 65535) ⊎ Listed ss x

pub kept_served : (ss xs q : List ℕ) → length q ≡ length ss → All (Served ss) (kept ss xs q)
kept_served ss [] q l = tt
kept_served ss (x ∷ xs) q l =
    let p = place ss x in
    elim (cases_lt 0 (get_or q p 0)) [
      | inl y ↦ rw (lt-ltb 0 (get_or q p 0) y) (inr (omega (arith, has_listed q p y)), kept_served ss xs (spent q p) (spent_length q p ∙ l))
      | inr n ↦ rw (le-ltb 0 (get_or q p 0) n) (inl refl, kept_served ss xs q l)
    ]

-- where the quotas that are left are as many as the buckets without a server, each server is filled up
some_left : (xs q : List ℕ) → total q ≡ 1 + count 65535 xs → lowest q < length q
some_left xs q e = elim (cases_lt (lowest q) (length q)) [ inl y ↦ y | inr n ↦ absurd (omega (arith, lowest_total q n)) ]

pub deal_count : (ss : List ℕ) (i : ℕ) (xs q : List ℕ) → Fit ss → i < length ss → length q ≡ length ss → total q ≡ count 65535 xs
    → count (get_or ss i 0) (dealt ss xs q) ≡ count (get_or ss i 0) xs + get_or q i 0
deal_count ss i [] q f h l e = omega (arith, total_at q i)
deal_count ss i (x ∷ xs) q f h l e = elim (cases_eq x 65535) [
  | inl n ↦
      let e' : total q ≡ 1 + count 65535 xs = rw n at e in
      let low = lowest q in
      let y = some_left xs q e' in
      let in' : Listed ss (get_or ss low 0) = at_place ss low f (omega arith) in
      let has = lowest_has q y in
      rw (eq-eqb x 65535 n, lt-ltb low (length q) y, n, ne_eqb (get_or ss i 0) 65535 (λ z. omega (arith, f.real i)), same_test ss i (get_or ss low 0) f h in', place_at 0 ss low f.rise (omega arith))
      (omega (arith, deal_count ss i xs (spent q low) f h (spent_length q low ∙ l) (omega (arith, spent_total q low has)), spent_at q low i has))
  | inr d ↦
      let e' : total q ≡ 0 + count 65535 xs = rw (ne_eqb 65535 x (λ z. d (sym z))) at e in
      rw (ne_eqb x 65535 d) (omega (arith, deal_count ss i xs q f h l (omega arith)))
]

pub deal_served : (ss xs q : List ℕ) → Fit ss → length q ≡ length ss → total q ≡ count 65535 xs → All (Served ss) xs → All (Listed ss) (dealt ss xs q)
deal_served ss [] q f l e a = tt
deal_served ss (x ∷ xs) q f l e a = elim (cases_eq x 65535) [
  | inl n ↦
      let e' : total q ≡ 1 + count 65535 xs = rw n at e in
      let y = some_left xs q e' in
      rw (eq-eqb x 65535 n, lt-ltb (lowest q) (length q) y)
      (at_place ss (lowest q) f (omega arith), deal_served ss xs (spent q (lowest q)) f (spent_length q (lowest q) ∙ l) (omega (arith, spent_total q (lowest q) (lowest_has q y))) a.1)
  | inr d ↦
      let e' : total q ≡ 0 + count 65535 xs = rw (ne_eqb 65535 x (λ z. d (sym z))) at e in
      rw (ne_eqb x 65535 d) (elim a.0 [ inl z ↦ absurd (d z) | inr y ↦ y ], deal_served ss xs q f l (omega arith) a.1)
]

pub unlike_le : (b : Bool) → cond b 0 1 ≤ 1
unlike_le true = omega arith
unlike_le false = omega arith

-- only buckets that were not kept change hands
moved_kept : (ss xs q : List ℕ) → Fit ss → length q ≡ length ss → moved xs (kept ss xs q) ≤ count 65535 (kept ss xs q)
moved_kept ss [] q f l = omega arith
moved_kept ss (x ∷ xs) q f l =
    let p = place ss x in
    elim (cases_lt 0 (get_or q p 0)) [
      | inl y ↦
          let in' : p < length ss = omega (arith, has_listed q p y) in
          rw (lt-ltb 0 (get_or q p 0) y, eq-eqb x x refl, ne_eqb 65535 x (λ e. not_none ss x f in' (sym e))) (omega (arith, moved_kept ss xs (spent q p) f (spent_length q p ∙ l)))
      | inr n ↦ rw (le-ltb 0 (get_or q p 0) n) (omega (arith, unlike_le (eqb x 65535), moved_kept ss xs q f l))
    ]

pub moved_dealt : (ss xs q r : List ℕ) → Fit ss → length q ≡ length ss → moved xs (dealt ss (kept ss xs q) r) ≤ count 65535 (kept ss xs q)
moved_dealt ss [] q r f l = omega arith
moved_dealt ss (x ∷ xs) q r f l =
    let p = place ss x in
    elim (cases_lt 0 (get_or q p 0)) [
      | inl y ↦
          let in' : p < length ss = omega (arith, has_listed q p y) in
          let real = not_none ss x f in' in
          rw (lt-ltb 0 (get_or q p 0) y, ne_eqb x 65535 real, eq-eqb x x refl, ne_eqb 65535 x (λ e. real (sym e))) (omega (arith, moved_dealt ss xs (spent q p) r f (spent_length q p ∙ l)))
      | inr n ↦ elim (cases_lt (lowest r) (length r)) [
        | inl y ↦ rw (le-ltb 0 (get_or q p 0) n, lt-ltb (lowest r) (length r) y) (omega (arith, unlike_le (eqb x (get_or ss (lowest r) 0)), moved_dealt ss xs q (spent r (lowest r)) f l))
        | inr z ↦ rw (le-ltb 0 (get_or q p 0) n, le-ltb (lowest r) (length r) z) (omega (arith, unlike_le (eqb x 65535), moved_kept ss xs q f l))
      ]
    ]
