-- Entries filed in slots: a look-up in one slot is one in all, and a change of one slot is a change of all. Assumes nothing.
use Rattle.std.proofs.Common.{◌≡◌, ℕ, zero, suc, ◌+◌, ◌<◌, ◌≤◌, true, false, cond, not, List, [], ◌∷◌, ◌++◌, length, get_or, set, is_some, Some, None, Option, sym, refl, ap, ◌∙◌, inl, inr, arith}
use Rattle.std.proofs.lemmas.List.{get_or-set_same, get_or-set_other, length-append}
use Rattle.std.proofs.lemmas.Bool.{cases_Bool, cases_eq, false≢true, and_parts, and_from, eqb-true, eq-eqb, leb-true, le-leb}
use Rattle.std.proofs.lemmas.List.Sums.{sum_by-append}
use Rattle.std.proofs.ByRecursion.{All-append, All-weaker}
use Rattle.std.specs.List.{AllByRecursion as All}
use Rattle.sessions.specs.declared.key.Key.{Key}
use Rattle.sessions.specs.declared.entry.Entry.{Entry}
use Rattle.sessions.specs.Keys.{same_key, slot_of, in_place}
use Rattle.sessions.specs.Entries.{seen_in, Once, without, count_in}
use Rattle.sessions.specs.Slots.{flat, filed, tidy, fresh, Ascending}
use Rattle.sessions.proofs.Same.{same_eq}

-- the tests of the invariant as facts
abbrev pub Filed : ℕ → List Entry → Type 0
Filed n es = All (λ e. slot_of e.key ≡ n) es × Once es

abbrev pub Tidy : ℕ → List (List Entry) → Type 0
Tidy n [] = Unit {0}
Tidy n (s ∷ ss) = Filed n s × Tidy (suc n) ss

abbrev pub Fresh : ℕ → List Entry → Type 0
Fresh t es = All (λ e. t ≤ e.seen) es

none_found : (o : Option ℕ) → not (is_some o) ≡ true → o ≡ None
none_found None h = refl
none_found (Some t) h = absurd (false≢true h)

filed_in : (n : ℕ) (es : List Entry) → filed n es ≡ true → Filed n es
filed_in n [] h = (tt, tt)
filed_in n (e ∷ es) h =
    let a = and_parts _ _ h in
    let b = and_parts _ _ a.1 in
    let r = filed_in n es b.1 in
    ((eqb-true (slot_of e.key) n a.0, r.0), (none_found (seen_in e.key es) b.0, r.1))

filed_out : (n : ℕ) (es : List Entry) → Filed n es → filed n es ≡ true
filed_out n [] h = refl
filed_out n (e ∷ es) h =
    and_from _ _ (eq-eqb (slot_of e.key) n h.0.0) (and_from _ _ (ap (λ o. not (is_some o)) h.1.0) (filed_out n es (h.0.1, h.1.1)))

pub tidy_in : (n : ℕ) (ss : List (List Entry)) → tidy n ss ≡ true → Tidy n ss
tidy_in n [] h = tt
tidy_in n (s ∷ ss) h = let a = and_parts _ _ h in (filed_in n s a.0, tidy_in (suc n) ss a.1)

pub tidy_out : (n : ℕ) (ss : List (List Entry)) → Tidy n ss → tidy n ss ≡ true
tidy_out n [] h = refl
tidy_out n (s ∷ ss) h = and_from _ _ (filed_out n s h.0) (tidy_out (suc n) ss h.1)

pub fresh_in : (t : ℕ) (es : List Entry) → fresh t es ≡ true → Fresh t es
fresh_in t [] h = tt
fresh_in t (e ∷ es) h = let a = and_parts _ _ h in (leb-true t e.seen a.0, fresh_in t es a.1)

pub fresh_out : (t : ℕ) (es : List Entry) → Fresh t es → fresh t es ≡ true
fresh_out t [] h = refl
fresh_out t (e ∷ es) h = and_from _ _ (le-leb t e.seen h.0) (fresh_out t es h.1)

-- one after the other
seen_append_none : (q : Key) (xs ys : List Entry) → seen_in q xs ≡ None → seen_in q (xs ++ ys) ≡ seen_in q ys
seen_append_none q [] ys n = refl
seen_append_none q (x ∷ xs) ys n = let ih = seen_append_none q xs ys in grind arith

seen_append_left : (q : Key) (xs ys : List Entry) → seen_in q ys ≡ None → seen_in q (xs ++ ys) ≡ seen_in q xs
seen_append_left q [] ys n = n
seen_append_left q (x ∷ xs) ys n = let ih = seen_append_left q xs ys n in grind arith

once_append : (xs ys : List Entry) → Once xs → Once ys → All (λ e. seen_in e.key ys ≡ None) xs → Once (xs ++ ys)
once_append [] ys o p a = p
once_append (x ∷ xs) ys o p a = (seen_append_left x.key xs ys a.0 ∙ o.0, once_append xs ys o.1 p a.1)

-- a key is found in its slot and in no other
seen_elsewhere : (q : Key) (n : ℕ) (es : List Entry) → All (λ e. slot_of e.key ≡ n) es → (slot_of q ≡ n → ⊥) → seen_in q es ≡ None
seen_elsewhere q n [] a d = refl
seen_elsewhere q n (e ∷ es) a d =
    elim (cases_Bool (same_key e.key q)) [
      | inl y ↦ absurd (d (ap slot_of (sym (same_eq e.key q y)) ∙ a.0))
      | inr m ↦ rw m (seen_elsewhere q n es a.1 d)
    ]

seen_late : (q : Key) (n : ℕ) (ss : List (List Entry)) → Tidy n ss → slot_of q < n → seen_in q (flat ss) ≡ None
seen_late q n [] t h = refl
seen_late q n (s ∷ ss) t h = seen_append_none q s (flat ss) (seen_elsewhere q n s t.0.0 (λ e. omega arith)) ∙ seen_late q (suc n) ss t.1 (omega arith)

seen_from : (q : Key) (n i : ℕ) (ss : List (List Entry)) → Tidy n ss → slot_of q ≡ n + i → seen_in q (flat ss) ≡ seen_in q (get_or ss i [])
seen_from q n i [] t h = refl
seen_from q n zero (s ∷ ss) t h = seen_append_left q s (flat ss) (seen_late q (suc n) ss t.1 (omega arith))
seen_from q n (suc i) (s ∷ ss) t h = seen_append_none q s (flat ss) (seen_elsewhere q n s t.0.0 (λ e. omega arith)) ∙ seen_from q (suc n) i ss t.1 (omega arith)

pub seen_flat : (q : Key) (ss : List (List Entry)) → Tidy 0 ss → seen_in q (flat ss) ≡ seen_in q (get_or ss (slot_of q) [])
seen_flat q ss t = seen_from q 0 (slot_of q) ss t (omega arith)

all_slots_late : (n m : ℕ) (es : List Entry) (ss : List (List Entry)) → Tidy m ss → n < m → All (λ e. slot_of e.key ≡ n) es → All (λ e. seen_in e.key (flat ss) ≡ None) es
all_slots_late n m [] ss t h a = tt
all_slots_late n m (e ∷ es) ss t h a = (seen_late e.key m ss t (omega (arith, a.0)), all_slots_late n m es ss t h a.1)

pub once_flat : (n : ℕ) (ss : List (List Entry)) → Tidy n ss → Once (flat ss)
once_flat n [] t = tt
once_flat n (s ∷ ss) t = once_append s (flat ss) t.0.1 (once_flat (suc n) ss t.1) (all_slots_late n (suc n) s ss t.1 (omega arith) t.0.0)

-- in the order of the slots
late : (n : ℕ) (ss : List (List Entry)) → Tidy n ss → All (λ e. n ≤ slot_of e.key) (flat ss)
late n [] t = tt
late n (s ∷ ss) t =
    All-append (λ e. n ≤ slot_of e.key) s (flat ss) (All-weaker (λ e. slot_of e.key ≡ n) (λ e. n ≤ slot_of e.key) (λ e x. omega arith) s t.0.0)
    (All-weaker (λ e. suc n ≤ slot_of e.key) (λ e. n ≤ slot_of e.key) (λ e x. omega arith) (flat ss) (late (suc n) ss t.1))

ascends_append : (n : ℕ) (xs ys : List Entry) → All (λ e. slot_of e.key ≡ n) xs → All (λ e. suc n ≤ slot_of e.key) ys → Ascending ys → Ascending (xs ++ ys)
ascends_append n [] ys a b c = c
ascends_append n (x ∷ xs) ys a b c =
    let P : Entry → Type 0 = λ e. slot_of x.key ≤ slot_of e.key in (
      All-append P xs ys (All-weaker (λ e. slot_of e.key ≡ n) P (λ e y. omega (arith, a.0)) xs a.1) (All-weaker (λ e. suc n ≤ slot_of e.key) P (λ e y. omega (arith, a.0)) ys b),
      ascends_append n xs ys a.1 b c,
    )

pub ascends_flat : (n : ℕ) (ss : List (List Entry)) → Tidy n ss → Ascending (flat ss)
ascends_flat n [] t = tt
ascends_flat n (s ∷ ss) t = ascends_append n s (flat ss) t.0.0 (late (suc n) ss t.1) (ascends_flat (suc n) ss t.1)

-- one slot
pub tidy_slot : (n i : ℕ) (ss : List (List Entry)) → Tidy n ss → Filed (n + i) (get_or ss i [])
tidy_slot n i [] t = (tt, tt)
tidy_slot n zero (s ∷ ss) t = let z : n + 0 ≡ n = omega arith in rw z t.0
tidy_slot n (suc i) (s ∷ ss) t = let z : n + suc i ≡ suc n + i = omega arith in rw z (tidy_slot (suc n) i ss t.1)

pub tidy_set : (n i : ℕ) (s : List Entry) (ss : List (List Entry)) → Tidy n ss → Filed (n + i) s → Tidy n (set ss i s)
tidy_set n i s [] t f = tt
tidy_set n zero s (x ∷ ss) t f = let z : n + 0 ≡ n = omega arith in (rw z at f, t.1)
tidy_set n (suc i) s (x ∷ ss) t f = let z : n + suc i ≡ suc n + i = omega arith in (t.0, tidy_set (suc n) i s ss t.1 (rw z at f))

-- all slots after a change of one: what is found, what holds of each entry, sums
pub seen_set : (ss : List (List Entry)) (s : List Entry) (k : Key) (w : Option ℕ) → Tidy 0 ss → Tidy 0 (set ss (slot_of k) s) → slot_of k < length ss
    → ((q : Key) → seen_in q s ≡ cond (same_key k q) w (seen_in q (get_or ss (slot_of k) [])))
    → (q : Key) → seen_in q (flat (set ss (slot_of k) s)) ≡ cond (same_key k q) w (seen_in q (flat ss))
seen_set ss s k w t t' h f q =
    rw (seen_flat q (set ss (slot_of k) s) t', seen_flat q ss t)
    (elim (cases_eq (slot_of q) (slot_of k)) [
      | inl e ↦ rw (e, get_or-set_same ss (slot_of k) s [] h) (f q)
      | inr n ↦
          let other : same_key k q ≡ false = elim (cases_Bool (same_key k q)) [
            | inl y ↦ absurd (n (sym (ap slot_of (same_eq k q y))))
            | inr z ↦ z
          ] in
          rw (get_or-set_other ss (slot_of k) (slot_of q) s [] n, other)
    ])

all_left : (P : Entry → Type 0) (xs ys : List Entry) → All P (xs ++ ys) → All P xs
all_left P [] ys a = tt
all_left P (x ∷ xs) ys a = (a.0, all_left P xs ys a.1)

all_right : (P : Entry → Type 0) (xs ys : List Entry) → All P (xs ++ ys) → All P ys
all_right P [] ys a = a
all_right P (x ∷ xs) ys a = all_right P xs ys a.1

pub all_slot : (P : Entry → Type 0) (ss : List (List Entry)) (i : ℕ) → All P (flat ss) → All P (get_or ss i [])
all_slot P [] i a = tt
all_slot P (s ∷ ss) zero a = all_left P s (flat ss) a
all_slot P (s ∷ ss) (suc i) a = all_slot P ss i (all_right P s (flat ss) a)

pub all_flat_set : (P : Entry → Type 0) (ss : List (List Entry)) (i : ℕ) (s : List Entry) → All P s → All P (flat ss) → All P (flat (set ss i s))
all_flat_set P [] i s p a = tt
all_flat_set P (x ∷ ss) zero s p a = All-append P s (flat ss) p (all_right P x (flat ss) a)
all_flat_set P (x ∷ ss) (suc i) s p a = All-append P x (flat (set ss i s)) (all_left P x (flat ss) a) (all_flat_set P ss i s p (all_right P x (flat ss) a))

-- a sum over entries, such as their number
abbrev Sums : (List Entry → ℕ) → Type 0
Sums m = (xs ys : List Entry) → m (xs ++ ys) ≡ m xs + m ys

sum_flat_set : (m : List Entry → ℕ) → Sums m → (ss : List (List Entry)) (i : ℕ) (s : List Entry) → i < length ss
    → m (flat (set ss i s)) + m (get_or ss i []) ≡ m (flat ss) + m s
sum_flat_set m a [] i s h = absurd (omega arith)
sum_flat_set m a (x ∷ ss) zero s h = let p = a s (flat ss) in let q = a x (flat ss) in omega arith
sum_flat_set m a (x ∷ ss) (suc i) s h = let p = a x (flat (set ss i s)) in let q = a x (flat ss) in let ih = sum_flat_set m a ss i s (omega arith) in omega arith

pub length_set_slot : (ss : List (List Entry)) (i : ℕ) (s : List Entry) → i < length ss → length (flat (set ss i s)) + length (get_or ss i []) ≡ length (flat ss) + length s
length_set_slot ss i s h = sum_flat_set length (λ xs ys. length-append xs ys) ss i s h

pub count_set_slot : (b p : ℕ) (ss : List (List Entry)) (i : ℕ) (s : List Entry) → i < length ss → count_in b p (flat (set ss i s)) + count_in b p (get_or ss i []) ≡ count_in b p (flat ss) + count_in b p s
count_set_slot b p ss i s h = sum_flat_set (count_in b p) (λ xs ys. sum_by-append (λ e. cond (in_place b p e.key) 1 0) xs ys) ss i s h

-- one entry less, in the list of all
without_append_left : (k : Key) (s : ℕ) (xs ys : List Entry) → seen_in k xs ≡ Some s → without k (xs ++ ys) ≡ without k xs ++ ys
without_append_left k s [] ys n = grind arith
without_append_left k s (x ∷ xs) ys n = let ih = without_append_left k s xs ys in grind arith

without_append_right : (k : Key) (xs ys : List Entry) → seen_in k xs ≡ None → without k (xs ++ ys) ≡ xs ++ without k ys
without_append_right k [] ys n = refl
without_append_right k (x ∷ xs) ys n = let ih = without_append_right k xs ys in grind arith

without_from : (k : Key) (t n i : ℕ) (ss : List (List Entry)) → Tidy n ss → slot_of k ≡ n + i → seen_in k (get_or ss i []) ≡ Some t
    → flat (set ss i (without k (get_or ss i []))) ≡ without k (flat ss)
without_from k t n i [] y h f = refl
without_from k t n zero (s ∷ ss) y h f = sym (without_append_left k t s (flat ss) f)
without_from k t n (suc i) (s ∷ ss) y h f =
    ap (λ r. s ++ r) (without_from k t (suc n) i ss y.1 (omega arith) f) ∙ sym (without_append_right k s (flat ss) (seen_elsewhere k n s y.0.0 (λ e. omega arith)))

pub without_flat : (k : Key) (t : ℕ) (ss : List (List Entry)) → Tidy 0 ss → seen_in k (get_or ss (slot_of k) []) ≡ Some t
    → flat (set ss (slot_of k) (without k (get_or ss (slot_of k) []))) ≡ without k (flat ss)
without_flat k t ss y f = without_from k t 0 (slot_of k) ss y (omega arith) f
