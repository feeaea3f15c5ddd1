-- Quotas by the number of their server: they are set one by one, and the rule's lists read from them. Assumes nothing.
use Rattle.std.proofs.Common.{◌≡◌, ℕ, zero, suc, ◌+◌, ◌-◌, ◌<◌, ◌≤◌, true, leb, List, [], ◌∷◌, length, get_or, set, sym, refl, ap, ◌∙◌, inl, inr, arith}
use Rattle.std.proofs.lemmas.List.{get_or-set_same, get_or-set_other, get_or-map, get_or_past, set-get_or, length-set, length-map}
use Rattle.std.proofs.lemmas.Bool.{and_parts, ne_eqb, eq-eqb, lt-ltb, le-ltb, cases_eq, cases_lt}
use Rattle.assignment.specs.Even.{place, Listed}
use Rattle.assignment.specs.Rule.{rises, rises_from, spent, kept, kept_quota}
use Rattle.assignment.specs.Numbers.{kept_by, left_by}
use Rattle.assignment.proofs.Servers.{has_place}
use Rattle.assignment.proofs.Changes.{has_listed}
use Rattle.assignment.proofs.Steps.{of_each, spent_above}

-- the quotas of the first i servers are set, and a server that is not listed has none
abbrev pub Filled : (ℕ → ℕ) → List ℕ → List ℕ → ℕ → Type 0
Filled f ss q i = (length q ≡ 256) × ((k : ℕ) → k < i → get_or q (get_or ss k 0) 0 ≡ f (get_or ss k 0)) × ((s : ℕ) → length ss ≤ place ss s → get_or q s 0 ≡ 0)

listed_at : (ss : List ℕ) (i : ℕ) → i < length ss → Listed ss (get_or ss i 0)
listed_at [] i h = absurd (omega arith)
listed_at (s ∷ ss) zero h = rw (eq-eqb s s refl) (omega arith)
listed_at (s ∷ ss) (suc i) h = elim (cases_eq s (get_or ss i 0)) [
  | inl e ↦ rw (eq-eqb s (get_or ss i 0) e) (omega arith)
  | inr d ↦ rw (ne_eqb s (get_or ss i 0) d) (omega (arith, listed_at ss i (omega arith)))
]

pub filled_more : (f : ℕ → ℕ) (ss q : List ℕ) (i x v : ℕ) → i < length ss → x ≡ get_or ss i 0 → x < 256 → v ≡ f (get_or ss i 0) → Filled f ss q i → Filled f ss (set q x v) (i + 1)
filled_more f ss q i x v h e l w a = (
  length-set q x v ∙ a.0,
  (λ k b. elim (cases_eq (get_or ss k 0) x) [
    | inl same ↦ rw same (get_or-set_same q x v 0 (omega (arith, a.0)) ∙ (w ∙ ap f (sym e)))
    | inr other ↦ get_or-set_other q x (get_or ss k 0) v 0 other ∙ elim (cases_eq k i) [
      | inl at ↦ absurd (other (ap (λ j. get_or ss j 0) at ∙ sym e))
      | inr before ↦ a.1 k (omega arith)
    ]
  ]),
  λ s b. get_or-set_other q x s v 0 (λ z. omega (arith, listed_at ss i h, ap (place ss) (z ∙ e))) ∙ a.2 s b,
)

-- a server that is not listed has no quota
abbrev pub Unlisted : List ℕ → List ℕ → Type 0
Unlisted ss q = (s : ℕ) → length ss ≤ place ss s → get_or q s 0 ≡ 0

-- the quota of a server, wherever it is read
quota_at : (ss q : List ℕ) (x : ℕ) → Unlisted ss q → get_or (of_each q ss) (place ss x) 0 ≡ get_or q x 0
quota_at ss q x u = elim (cases_lt (place ss x) (length ss)) [
  | inl h ↦ get_or-map (λ s. get_or q s 0) ss (place ss x) 0 0 h ∙ ap (λ s. get_or q s 0) (has_place ss x h)
  | inr n ↦ get_or_past (of_each q ss) (place ss x) 0 (omega (arith, length-map ss (λ s. get_or q s 0))) ∙ sym (u x n)
]

spent_each : (n : ℕ) (ss q : List ℕ) (x : ℕ) → rises_from n ss ≡ true → Listed ss x → 0 < get_or q x 0 → set (of_each q ss) (place ss x) (get_or q x 0 - 1) ≡ of_each (spent q x) ss
spent_each n [] q x r l p = absurd (omega arith)
spent_each n (s ∷ ss) q x r l p =
    let w = and_parts (leb n s) (rises_from (suc s) ss) r in
    elim (cases_eq s x) [
      | inl e ↦ rw (e, eq-eqb x x refl, get_or-set_same q x (get_or q x 0 - 1) 0 (has_listed q x p), spent_above (suc s) ss q x w.1 (omega arith))
      | inr d ↦
          let f = ne_eqb s x d in
          let k : suc (place ss x) < suc (length ss) = rw f at l in
          rw (f, get_or-set_other q x s (get_or q x 0 - 1) 0 d) (ap (λ r. get_or q s 0 ∷ r) (spent_each (suc s) ss q x w.1 (omega arith) p))
    ]

spent_unlisted : (ss q : List ℕ) (x : ℕ) → Unlisted ss q → Unlisted ss (spent q x)
spent_unlisted ss q x u s h = elim (cases_eq s x) [
  | inl e ↦ (let z = u s h in let w : get_or q x 0 - 1 ≡ get_or q x 0 = omega (arith, ap (λ k. get_or q k 0) e) in rw (w, set-get_or q x 0) z)
  | inr d ↦ get_or-set_other q x s (get_or q x 0 - 1) 0 d ∙ u s h
]

-- keeping by the number of the server is keeping by its place
pub kept_is : (ss xs q : List ℕ) → rises ss ≡ true → Unlisted ss q → (kept ss xs (of_each q ss) ≡ kept_by xs q) × (kept_quota ss xs (of_each q ss) ≡ of_each (left_by xs q) ss)
kept_is ss [] q r u = (refl, refl)
kept_is ss (x ∷ xs) q r u =
    let e = quota_at ss q x u in
    elim (cases_lt 0 (get_or q x 0)) [
      | inl p ↦
          let t = lt-ltb 0 (get_or q x 0) p in
          let l : place ss x < length ss = elim (cases_lt (place ss x) (length ss)) [ inl y ↦ y | inr n ↦ absurd (omega (arith, u x n)) ] in
          let again = kept_is ss xs (spent q x) r (spent_unlisted ss q x u) in
          rw (e, t, spent_each 0 ss q x r l p) (ap (λ r. x ∷ r) again.0, again.1)
      | inr n ↦
          let t = le-ltb 0 (get_or q x 0) n in
          let again = kept_is ss xs q r u in
          rw (e, t) (ap (λ r. 65535 ∷ r) again.0, again.1)
    ]
