-- The list of servers, and sums over it. Assumes nothing.
use Rattle.std.proofs.Common.{◌≡◌, ℕ, zero, suc, ◌+◌, ◌<◌, ◌≤◌, Bool, true, false, cond, eqb, ltb, leb, List, [], ◌∷◌, length, get_or, drop, set, Some, None, sym, refl, ap, ◌∙◌, subst, inl, inr, add-one, arith}
use Rattle.std.specs.List.{AllByRecursion as All, IsAllAdjacentAnswer}
use Rattle.std.proofs.lemmas.List.{at_drop_more, get_or-set_same, get_or-set_other}
use Rattle.std.proofs.lemmas.Bool.{and_parts, leb-true, le-leb, ltb-true, lt-ltb, eq-eqb, ne_eqb, cases_eq, cases_Bool, both_ways}
use Rattle.std.proofs.lemmas.Bool.Decides.{nat_tests}
use Rattle.assignment.specs.Even.{count, place, Listed}
use Rattle.assignment.specs.Moves.{server_of}
use Rattle.assignment.specs.Rule.{rises, rises_from, sum_over}

-- 1 where the test holds
abbrev pub one : Bool → ℕ
one b = cond b 1 0

pub one_le : (b : Bool) → one b ≤ 1
one_le true = omega arith
one_le false = omega arith

pub rise_above : (n : ℕ) (ss : List ℕ) (i : ℕ) → rises_from n ss ≡ true → i < length ss → n ≤ get_or ss i 0
rise_above n [] i r h = absurd (omega arith)
rise_above n (s ∷ ss) zero r h = leb-true n s (and_parts (leb n s) (rises_from (suc s) ss) r).0
rise_above n (s ∷ ss) (suc i) r h =
    let p = and_parts (leb n s) (rises_from (suc s) ss) r in
    omega (arith, leb-true n s p.0, rise_above (suc s) ss i p.1 (omega arith))

-- each server stands where it stands
pub place_at : (n : ℕ) (ss : List ℕ) (i : ℕ) → rises_from n ss ≡ true → i < length ss → place ss (get_or ss i 0) ≡ i
place_at n [] i r h = absurd (omega arith)
place_at n (s ∷ ss) zero r h = rw (eq-eqb s s refl)
place_at n (s ∷ ss) (suc i) r h =
    let p = and_parts (leb n s) (rises_from (suc s) ss) r in
    let a = rise_above (suc s) ss i p.1 (omega arith) in
    rw (ne_eqb s (get_or ss i 0) (λ e. omega arith)) (ap suc (place_at (suc s) ss i p.1 (omega arith)))

pub has_place : (ss : List ℕ) (s : ℕ) → Listed ss s → get_or ss (place ss s) 0 ≡ s
has_place [] s h = absurd (omega arith)
has_place (t ∷ ss) s h = elim (cases_eq t s) [
  | inl e ↦ rw (eq-eqb t s e) e
  | inr n ↦
      let f = ne_eqb t s n in
      let k : suc (place ss s) < suc (length ss) = rw f at h in
      rw f (has_place ss s (omega arith))
]

-- listed servers are bytes where all are
pub listed_low : (ss ys : List ℕ) → ((i : ℕ) → get_or ss i 0 < 256) → All (Listed ss) ys → (b : ℕ) → get_or ys b 0 < 256
listed_low ss [] low a b = omega arith
listed_low ss (y ∷ ys) low a zero = subst (λ s. s < 256) (has_place ss y a.0) (low (place ss y))
listed_low ss (y ∷ ys) low a (suc b) = listed_low ss ys low a.1 b

pub sum_le_length : (f : ℕ → Bool) (ss : List ℕ) → sum_over (λ s. one (f s)) ss ≤ length ss
sum_le_length f [] = omega arith
sum_le_length f (s ∷ ss) = omega (arith, one_le (f s), sum_le_length f ss)

pub count_le : (s : ℕ) (xs : List ℕ) → count s xs ≤ length xs
count_le s [] = omega arith
count_le s (x ∷ xs) = omega (arith, one_le (eqb s x), count_le s xs)

-- below 256 there are at most 256
pub rises_length : (n : ℕ) (ss : List ℕ) → rises_from n ss ≡ true → ((i : ℕ) → get_or ss i 0 < 256) → n ≤ 256 → n + length ss ≤ 256
rises_length n [] r low l = omega arith
rises_length n (s ∷ ss) r low l =
    let p = and_parts (leb n s) (rises_from (suc s) ss) r in
    let a = leb-true n s p.0 in
    let b : s < 256 = low 0 in
    omega (arith, rises_length (suc s) ss p.1 (λ i. low (suc i)) (omega arith))

-- where a server can stand: at most at its number, and at least there less the numbers that are left out
pub place_most : (n : ℕ) (ss : List ℕ) (i : ℕ) → rises_from n ss ≡ true → i < length ss → n + i ≤ get_or ss i 0
place_most n [] i r h = absurd (omega arith)
place_most n (s ∷ ss) zero r h = omega (arith, leb-true n s (and_parts (leb n s) (rises_from (suc s) ss) r).0)
place_most n (s ∷ ss) (suc i) r h =
    let p = and_parts (leb n s) (rises_from (suc s) ss) r in
    omega (arith, leb-true n s p.0, place_most (suc s) ss i p.1 (omega arith))

pub place_least : (n : ℕ) (ss : List ℕ) (i : ℕ) → rises_from n ss ≡ true → ((k : ℕ) → get_or ss k 0 < 256) → i < length ss → get_or ss i 0 + length ss ≤ i + 256
place_least n [] i r low h = absurd (omega arith)
place_least n (s ∷ ss) zero r low h =
    let p = and_parts (leb n s) (rises_from (suc s) ss) r in
    let b : s < 256 = low 0 in
    omega (arith, rises_length (suc s) ss p.1 (λ k. low (suc k)) (omega arith))
place_least n (s ∷ ss) (suc i) r low h =
    let p = and_parts (leb n s) (rises_from (suc s) ss) r in
    omega (arith, place_least (suc s) ss i p.1 (λ k. low (suc k)) (omega arith))

-- a list rises where each number is below the next, and only there
rises_next : (n : ℕ) (ss : List ℕ) (i : ℕ) → rises_from n ss ≡ true → suc i < length ss → get_or ss i 0 < get_or ss (suc i) 0
rises_next n [] i r h = absurd (omega arith)
rises_next n (s ∷ ss) zero r h = rise_above (suc s) ss 0 (and_parts (leb n s) (rises_from (suc s) ss) r).1 (omega arith)
rises_next n (s ∷ ss) (suc i) r h = rises_next (suc s) ss i (and_parts (leb n s) (rises_from (suc s) ss) r).1 (omega arith)

rises_up : (n : ℕ) (ss : List ℕ) → (0 < length ss → n ≤ get_or ss 0 0) → ((k : ℕ) → suc k < length ss → true ≡ ltb (get_or ss k 0) (get_or ss (suc k) 0)) → rises_from n ss ≡ true
rises_up n [] h a = refl
rises_up n (s ∷ ss) h a =
    let t = le-leb n s (h (omega arith)) in
    rw t (rises_up (suc s) ss (λ l. ltb-true s (get_or ss 0 0) (sym (a 0 (omega arith)))) (λ k l. a (suc k) (omega arith)))

pub rises_is : (ss : List ℕ) (r : Bool) → IsAllAdjacentAnswer (λ x y b. b ≡ ltb x y) ss r → r ≡ rises ss
rises_is ss true a = sym (rises_up 0 ss (λ h. omega arith) (λ k l. a k 0 (omega arith) ∙ ap (λ n. ltb (get_or ss k 0) (get_or ss n 0)) (add-one k)))
rises_is ss false a = elim (cases_Bool (rises ss)) [
  | inl y ↦
      let up = rises_next 0 ss a.0 y (omega (arith, a.1)) in
      let down : ltb (get_or ss a.0 0) (get_or ss (suc a.0) 0) ≡ false = ap (λ n. ltb (get_or ss a.0 0) (get_or ss n 0)) (sym (add-one a.0)) ∙ sym (a.2 0) in
      absurd (both_ways (ltb (get_or ss a.0 0) (get_or ss (suc a.0) 0)) down (lt-ltb (get_or ss a.0 0) (get_or ss (suc a.0) 0) up))
  | inr n ↦ sym n
]

-- an entry that is a server is below 256, and any other is not
pub server_is : (x s : ℕ) → server_of x ≡ Some s → (s ≡ x) × (x < 256)
server_is x s e = grind (arith, nat_tests)

pub server_not : (x : ℕ) → server_of x ≡ None → 256 ≤ x
server_not x e = grind (arith, nat_tests)

-- the count of the buckets so far, with one more
pub counted : (s x : ℕ) (xs cs : List ℕ) (b : ℕ) → b < length xs → x ≡ get_or xs b 0 → x < length cs
    → get_or cs s 0 + count s (drop b xs) ≡ count s xs → get_or (set cs x (get_or cs x 0 + 1)) s 0 + count s (drop (b + 1) xs) ≡ count s xs
counted s x xs cs b h e l inv =
    let d : count s (drop b xs) ≡ one (eqb s (get_or xs b 0)) + count s (drop (b + 1) xs) = at_drop_more (count s) xs b 0 h in
    elim (cases_eq s x) [
      | inl same ↦
          let t = eq-eqb s (get_or xs b 0) (same ∙ e) in
          let d' : count s (drop b xs) ≡ 1 + count s (drop (b + 1) xs) = rw t at d in
          let g : get_or (set cs x (get_or cs x 0 + 1)) s 0 ≡ get_or cs s 0 + 1 = rw same (get_or-set_same cs x (get_or cs x 0 + 1) 0 l) in
          omega arith
      | inr other ↦
          let t = ne_eqb s (get_or xs b 0) (λ f. other (f ∙ sym e)) in
          let d' : count s (drop b xs) ≡ 0 + count s (drop (b + 1) xs) = rw t at d in
          let g = get_or-set_other cs x s (get_or cs x 0 + 1) 0 other in
          omega arith
    ]

pub passed_over : (s : ℕ) (xs : List ℕ) (b : ℕ) → b < length xs → s < get_or xs b 0 → count s (drop (b + 1) xs) ≡ count s (drop b xs)
passed_over s xs b h l =
    let d : count s (drop b xs) ≡ one (eqb s (get_or xs b 0)) + count s (drop (b + 1) xs) = at_drop_more (count s) xs b 0 h in
    let t = ne_eqb s (get_or xs b 0) (λ f. omega arith) in
    let d' : count s (drop b xs) ≡ 0 + count s (drop (b + 1) xs) = rw t at d in
    omega arith

pub count_drop_le : (s : ℕ) (xs : List ℕ) (b : ℕ) → b < length xs → get_or xs b 0 ≡ s → 0 < count s (drop b xs)
count_drop_le s xs b h e =
    let d : count s (drop b xs) ≡ one (eqb s (get_or xs b 0)) + count s (drop (b + 1) xs) = at_drop_more (count s) xs b 0 h in
    let t = eq-eqb s (get_or xs b 0) (sym e) in
    let d' : count s (drop b xs) ≡ 1 + count s (drop (b + 1) xs) = rw t at d in
    omega arith
