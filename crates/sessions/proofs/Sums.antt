-- Tallies after a change of one of them. Assumes nothing.
use Rattle.std.proofs.Common.{◌≡◌, ℕ, suc, ◌+◌, ◌-◌, ◌<◌, ◌≤◌, Bool, cond, ◌&&◌, eqb, ltb, List, [], ◌∷◌, get_or, take, drop, set, Some, None, sym, refl, ap, ◌∙◌, inl, inr, arith, drop-cons}
use Rattle.std.proofs.lemmas.List.Sums.{sum_by-cons, sum_by-set, sum_by-append, sum_by-take-drop, get_or-le-sum_by}
use Rattle.std.proofs.lemmas.Bool.{cases_Bool, cases_eq, eqb-true, ltb-true, and_parts, ne_eqb}
use Rattle.std.proofs.lemmas.Bool.Decides.{nat_tests}
use Rattle.std.specs.List.{remove, position}
use Rattle.sessions.specs.declared.tally.Tally.{Tally}
use Rattle.sessions.specs.Found.{Misses}
use Rattle.sessions.specs.Tallies.{tally_of, tallied_in}
use Rattle.sessions.proofs.Lists.{misses, hit, misses_rest}

abbrev counts : ℕ → Tally → Bool
counts p t = eqb t.place p && ltb 0 t.count

none_tallied : (p : ℕ) (ts : List Tally) → Misses (counts p) ts → tallied_in p ts ≡ 0
none_tallied p [] m = refl
none_tallied p (t ∷ ts) m = let h = m 0 t (omega arith) in let ih = none_tallied p ts (misses_rest (counts p) t ts m) in let c = sum_by-cons (tally_of p) t ts in grind (arith, nat_tests)

-- the tally at i is of the place p, and above 0
pub hit_tally : (p : ℕ) (ts : List Tally) (i : ℕ) (d : Tally) → position (counts p) ts ≡ Some i → ((get_or ts i d).place ≡ p) × (0 < (get_or ts i d).count) × ((get_or ts i d).count ≤ tallied_in p ts)
hit_tally p ts i d found =
    let m = hit (counts p) ts i found in
    let x = and_parts _ _ (m.1 d) in
    let e : (get_or ts i d).place ≡ p = eqb-true (get_or ts i d).place p x.0 in
    let le = get_or-le-sum_by (tally_of p) ts i d m.0 in
    let t : tally_of p (get_or ts i d) ≡ (get_or ts i d).count = rw x.0 in
    (e, ltb-true 0 (get_or ts i d).count x.1, omega arith)

pub raised_set : (p : ℕ) (ts : List Tally) (i : ℕ) (x : Tally) → position (counts p) ts ≡ Some i → x ≡ get_or ts i x
    → (q : ℕ) → tallied_in q (set ts i (record { place = x.place; count = x.count + 1 })) ≡ tallied_in q ts + cond (eqb p q) 1 0
raised_set p ts i x found g q =
    let m = hit (counts p) ts i found in
    let h = hit_tally p ts i x found in
    let n : (get_or ts i x).count ≡ x.count = ap (λ t. t.count) (sym g) in
    let o : tally_of q (get_or ts i x) ≡ cond (eqb p q) x.count 0 = rw (h.0, n) in
    let le = get_or-le-sum_by (tally_of q) ts i x m.0 in
    let e : x.place ≡ p = ap (λ t. t.place) g ∙ h.0 in
    let s = sum_by-set (tally_of q) ts i (record { place = p; count = x.count + 1 }) x m.0 in
    rw e (elim (cases_Bool (eqb p q)) [ inl y ↦ rw y (omega (arith, rw y at o, rw y at s)) | inr n ↦ rw n (omega (arith, rw n at o, rw n at s)) ])

pub lowered_set : (p : ℕ) (ts : List Tally) (i : ℕ) (x : Tally) → position (counts p) ts ≡ Some i → x ≡ get_or ts i x
    → (q : ℕ) → tallied_in q (set ts i (record { place = x.place; count = x.count - 1 })) ≡ tallied_in q ts - cond (eqb p q) 1 0
lowered_set p ts i x found g q =
    let m = hit (counts p) ts i found in
    let h = hit_tally p ts i x found in
    let n : (get_or ts i x).count ≡ x.count = ap (λ t. t.count) (sym g) in
    let o : tally_of q (get_or ts i x) ≡ cond (eqb p q) x.count 0 = rw (h.0, n) in
    let le = get_or-le-sum_by (tally_of q) ts i x m.0 in
    let e : x.place ≡ p = ap (λ t. t.place) g ∙ h.0 in
    let s = sum_by-set (tally_of q) ts i (record { place = p; count = x.count - 1 }) x m.0 in
    rw e (elim (cases_Bool (eqb p q)) [ inl y ↦ rw y (omega (arith, rw y at o, rw y at s)) | inr n ↦ rw n (omega (arith, rw n at o, rw n at s)) ])

pub lowered_removed : (p : ℕ) (ts : List Tally) (i : ℕ) (x : Tally) → position (counts p) ts ≡ Some i → x ≡ get_or ts i x → x.count ≤ 1
    → (q : ℕ) → tallied_in q (remove ts i) ≡ tallied_in q ts - cond (eqb p q) 1 0
lowered_removed p ts i x found g one q =
    let m = hit (counts p) ts i found in
    let h = hit_tally p ts i x found in
    let n : (get_or ts i x).count ≡ x.count = ap (λ t. t.count) (sym g) in
    let o : tally_of q (get_or ts i x) ≡ cond (eqb p q) x.count 0 = rw (h.0, n) in
    let le = get_or-le-sum_by (tally_of q) ts i x m.0 in
    let a = sum_by-append (tally_of q) (take i ts) (drop (suc i) ts) in
    let b = sum_by-take-drop (tally_of q) ts i in
    let c : tallied_in q (drop i ts) ≡ tally_of q (get_or ts i x) + tallied_in q (drop (suc i) ts) = ap (tallied_in q) (drop-cons ts i x m.0) ∙ sum_by-cons (tally_of q) (get_or ts i x) (drop (suc i) ts) in
    elim (cases_Bool (eqb p q)) [ inl y ↦ rw y (omega (arith, rw y at o)) | inr n ↦ rw n (omega (arith, rw n at o)) ]

pub lowered_none : (p : ℕ) (ts : List Tally) → position (counts p) ts ≡ None → (q : ℕ) → tallied_in q ts ≡ tallied_in q ts - cond (eqb p q) 1 0
lowered_none p ts none q =
    let m = misses (counts p) ts none in
    elim (cases_eq p q) [
      | inl e ↦ (let z : tallied_in q ts ≡ 0 = rw (sym e) (none_tallied p ts m) in rw (z) (omega arith))
      | inr n ↦ rw (ne_eqb p q n) (omega arith)
    ]
