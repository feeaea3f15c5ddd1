-- One entry more, one changed, one less: what is found, how many there are, and that each key stands once. Assumes nothing.
use Rattle.std.proofs.Common.{◌≡◌, ℕ, zero, suc, ◌+◌, Bool, true, cond, List, [], ◌∷◌, ◌++◌, length, get_or, set, Some, None, sym, refl, ap, ◌∙◌, inl, inr, arith}
use Rattle.std.proofs.lemmas.Bool.{cases_Bool}
use Rattle.std.proofs.lemmas.List.Sums.{sum_by-cons}
use Rattle.std.specs.List.{remove, find, position, AllByRecursion as All}
use Rattle.std.specs.Option.{option_map}
use Rattle.sessions.specs.declared.key.Key.{Key}
use Rattle.sessions.specs.declared.entry.Entry.{Entry}
use Rattle.sessions.specs.Keys.{same_key, in_place}
use Rattle.sessions.specs.Found.{Misses, HitAt}
use Rattle.sessions.specs.Entries.{seen_in, Once, without, noted, count_in}
use Rattle.sessions.proofs.Same.{same_eq, same_flip}
use Rattle.sessions.proofs.Lists.{misses, hit, misses_rest, hit_rest}

abbrev has : Key → Entry → Bool
has k e = same_key e.key k

seen_missed : (k : Key) (es : List Entry) → Misses (has k) es → seen_in k es ≡ None
seen_missed k [] m = refl
seen_missed k (e ∷ es) m = rw (m 0 e (omega arith)) (seen_missed k es (misses_rest (has k) e es m))

seen_at : (k : Key) (es : List Entry) (i : ℕ) (d : Entry) → HitAt (has k) es i → seen_in k es ≡ Some (get_or es i d).seen
seen_at k [] i d m = absurd (omega (arith, m.0))
seen_at k (e ∷ es) zero d m = rw (m.1 d)
seen_at k (e ∷ es) (suc i) d m = rw (m.2 0 e (omega arith)) (seen_at k es i d (hit_rest (has k) e es i m))

noted_at : (k : Key) (t : ℕ) (es : List Entry) (i : ℕ) → HitAt (has k) es i → set es i (record { key = k; seen = t }) ≡ noted k t es
noted_at k t [] i m = absurd (omega (arith, m.0))
noted_at k t (e ∷ es) zero m = rw (m.1 e)
noted_at k t (e ∷ es) (suc i) m = rw (m.2 0 e (omega arith)) (ap (λ r. e ∷ r) (noted_at k t es i (hit_rest (has k) e es i m)))

without_at : (k : Key) (es : List Entry) (i : ℕ) → HitAt (has k) es i → remove es i ≡ without k es
without_at k [] i m = absurd (omega (arith, m.0))
without_at k (e ∷ es) zero m = rw (m.1 e)
without_at k (e ∷ es) (suc i) m = rw (m.2 0 e (omega arith)) (ap (λ r. e ∷ r) (without_at k es i (hit_rest (has k) e es i m)))

-- what the place of a key says
pub seen_miss : (k : Key) (es : List Entry) → position (has k) es ≡ None → seen_in k es ≡ None
seen_miss k es n = seen_missed k es (misses (has k) es n)

pub seen_hit : (k : Key) (es : List Entry) (i : ℕ) → position (has k) es ≡ Some i → (d : Entry) → seen_in k es ≡ Some (get_or es i d).seen
seen_hit k es i h d = seen_at k es i d (hit (has k) es i h)

pub noted_hit : (k : Key) (t : ℕ) (es : List Entry) (i : ℕ) (d : Entry) → position (has k) es ≡ Some i → d ≡ get_or es i d → set es i (record { key = d.key; seen = t }) ≡ noted k t es
noted_hit k t es i d h g = let m = hit (has k) es i h in rw (same_eq d.key k (ap (has k) g ∙ m.1 d)) (noted_at k t es i m)

pub without_hit : (k : Key) (es : List Entry) (i : ℕ) → position (has k) es ≡ Some i → remove es i ≡ without k es
without_hit k es i h = without_at k es i (hit (has k) es i h)

pub without_miss : (k : Key) (es : List Entry) → seen_in k es ≡ None → without k es ≡ es
without_miss k [] m = refl
without_miss k (e ∷ es) m = let ih = without_miss k es in grind arith

pub noted_miss : (k : Key) (t : ℕ) (es : List Entry) → seen_in k es ≡ None → noted k t es ≡ es
noted_miss k t [] m = refl
noted_miss k t (e ∷ es) m = let ih = noted_miss k t es in grind arith

pub seen_find : (k : Key) (es : List Entry) → seen_in k es ≡ option_map (λ e. e.seen) (find (has k) es)
seen_find k [] = refl
seen_find k (e ∷ es) = elim (cases_Bool (same_key e.key k)) [ inl y ↦ rw y | inr n ↦ rw n (seen_find k es) ]

-- what is found afterwards
same_at : (a b q : Key) → same_key a b ≡ true → same_key a q ≡ same_key b q
same_at a b q t = ap (λ x. same_key x q) (same_eq a b t)

pub seen_push : (q k : Key) (t : ℕ) (es : List Entry) → seen_in k es ≡ None
    → seen_in q (es ++ record { key = k; seen = t } ∷ []) ≡ cond (same_key q k) (Some t) (seen_in q es)
seen_push q k t [] n = rw (same_flip k q)
seen_push q k t (e ∷ es) n = let ih = seen_push q k t es in let s = same_at e.key q k in let f = same_flip e.key q in grind arith

pub seen_noted : (q k : Key) (s t : ℕ) (es : List Entry) → seen_in k es ≡ Some s
    → seen_in q (noted k t es) ≡ cond (same_key q k) (Some t) (seen_in q es)
seen_noted q k s t [] n = grind arith
seen_noted q k s t (e ∷ es) n = let ih = seen_noted q k s t es in let a = same_at e.key q k in let b = same_at e.key k q in let f = same_flip k q in grind arith

pub seen_without : (q k : Key) (es : List Entry) → Once es → seen_in q (without k es) ≡ cond (same_key q k) None (seen_in q es)
seen_without q k [] o = elim (cases_Bool (same_key q k)) [ inl y ↦ rw y | inr n ↦ rw n ]
seen_without q k (e ∷ es) o = let ih = seen_without q k es in let a = same_at e.key q k in let b = same_eq e.key k in let f = same_flip k q in let g = same_eq q k in grind arith

-- each key still stands once
pub once_push : (k : Key) (t : ℕ) (es : List Entry) → Once es → seen_in k es ≡ None → Once (es ++ record { key = k; seen = t } ∷ [])
once_push k t [] o n = (refl, tt)
once_push k t (e ∷ es) o n = let ih = once_push k t es o.1 in let s = seen_push e.key k t es in grind arith

none_noted : (q k : Key) (t : ℕ) (es : List Entry) → seen_in q es ≡ None → seen_in q (noted k t es) ≡ None
none_noted q k t [] n = refl
none_noted q k t (e ∷ es) n = let ih = none_noted q k t es in let a = same_eq e.key k in grind arith

none_without : (q k : Key) (es : List Entry) → seen_in q es ≡ None → seen_in q (without k es) ≡ None
none_without q k [] n = refl
none_without q k (e ∷ es) n = let ih = none_without q k es in grind arith

pub once_noted : (k : Key) (t : ℕ) (es : List Entry) → Once es → Once (noted k t es)
once_noted k t [] o = tt
once_noted k t (e ∷ es) o = let ih = once_noted k t es o.1 in let s = none_noted e.key k t es in let a = same_eq e.key k in grind arith

pub once_without : (k : Key) (es : List Entry) → Once es → Once (without k es)
once_without k [] o = tt
once_without k (e ∷ es) o = let ih = once_without k es o.1 in let s = none_without e.key k es in grind arith

-- what holds of each entry
pub all_noted : (P : Entry → Type 0) (k : Key) (t : ℕ) (es : List Entry) → P (record { key = k; seen = t }) → All P es → All P (noted k t es)
all_noted P k t [] p a = tt
all_noted P k t (e ∷ es) p a = let ih = all_noted P k t es p a.1 in grind arith

pub all_without : (P : Entry → Type 0) (k : Key) (es : List Entry) → All P es → All P (without k es)
all_without P k [] a = tt
all_without P k (e ∷ es) a = let ih = all_without P k es a.1 in grind arith

-- how many there are
pub count_cons : (b p : ℕ) (e : Entry) (es : List Entry) → count_in b p (e ∷ es) ≡ cond (in_place b p e.key) 1 0 + count_in b p es
count_cons b p e es = sum_by-cons (λ x. cond (in_place b p x.key) 1 0) e es

pub count_noted : (b p : ℕ) (k : Key) (t : ℕ) (es : List Entry) → count_in b p (noted k t es) ≡ count_in b p es
count_noted b p k t [] = refl
count_noted b p k t (e ∷ es) =
    elim (cases_Bool (same_key e.key k)) [
      | inl y ↦ rw y (count_cons b p (record { key = k; seen = t }) es ∙ (rw (sym (same_eq e.key k y)) (sym (count_cons b p e es))))
      | inr n ↦ rw n (count_cons b p e (noted k t es) ∙ (rw (count_noted b p k t es) (sym (count_cons b p e es))))
    ]

pub count_without : (b p : ℕ) (k : Key) (s : ℕ) (es : List Entry) → seen_in k es ≡ Some s → count_in b p (without k es) + cond (in_place b p k) 1 0 ≡ count_in b p es
count_without b p k s [] n = grind arith
count_without b p k s (e ∷ es) n =
    elim (cases_Bool (same_key e.key k)) [
      | inl y ↦ (let c = count_cons b p e es in rw (y, sym (same_eq e.key k y)) (omega arith))
      | inr m ↦ (let c = count_cons b p e es in let d = count_cons b p e (without k es) in let ih = count_without b p k s es (rw m at n) in rw m (omega arith))
    ]

pub length_noted : (k : Key) (t : ℕ) (es : List Entry) → length (noted k t es) ≡ length es
length_noted k t [] = refl
length_noted k t (e ∷ es) = let ih = length_noted k t es in grind arith

pub length_without : (k : Key) (s : ℕ) (es : List Entry) → seen_in k es ≡ Some s → length (without k es) + 1 ≡ length es
length_without k s [] n = grind arith
length_without k s (e ∷ es) n = let ih = length_without k s es in grind arith
