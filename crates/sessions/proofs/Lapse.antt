-- What is idle goes, and what is not stays: lists, a walk through them, and one name after the other. Assumes nothing.
use Rattle.std.proofs.Common.{◌≡◌, ℕ, ◌+◌, ◌<◌, ◌≤◌, min, true, false, List, [], ◌∷◌, ◌++◌, map, length, get_or, drop, None, vec_items, fold, Vec, sym, refl, ap, ◌∙◌, inl, inr, append_assoc, arith}
use Rattle.std.proofs.lemmas.Bool.{cases_Bool, lt-leb, leb-false}
use Rattle.std.specs.List.{AllByRecursion as All}
use Rattle.std.specs.declared.alloc.Global.{Global}
use Rattle.sessions.specs.Slots.{flat}
use Rattle.std.proofs.lemmas.List.{drop_more}
use Rattle.sessions.specs.declared.key.Key.{Key}
use Rattle.sessions.specs.declared.entry.Entry.{Entry}
use Rattle.sessions.specs.Keys.{same_key}
use Rattle.sessions.specs.Entries.{seen_in, Once, without, is_idle, idle_keys, staying, lapsed}
use Rattle.sessions.proofs.Same.{same_eq, same_refl, same_flip}
use Rattle.sessions.proofs.Files.{Fresh}

-- what is younger than the oldest is not idle, if the oldest is not
younger : (now o t : ℕ) → is_idle now o ≡ false → o ≤ t → is_idle now t ≡ false
younger now o t n h = lt-leb (t + 921600) now (omega (arith, leb-false (o + 921600) now n))

-- a walk, entry by entry and list by list
pub keys_append : (now : ℕ) (xs ys : List Entry) → idle_keys now (xs ++ ys) ≡ idle_keys now xs ++ idle_keys now ys
keys_append now [] ys = refl
keys_append now (x ∷ xs) ys = let ih = keys_append now xs ys in elim (cases_Bool (is_idle now x.seen)) [ inl y ↦ rw y (ap (λ r. x.key ∷ r) ih) | inr n ↦ rw n ih ]

-- the least tick is a lower bound
least_le : (o : ℕ) (es : List Entry) → fold (λ m e. min m e.seen) o es ≤ o
least_le o [] = omega arith
least_le o (e ∷ es) = omega (arith, least_le (min o e.seen) es)

pub least_fresh : (o : ℕ) (es : List Entry) → Fresh (fold (λ m e. min m e.seen) o es) es
least_fresh o [] = tt
least_fresh o (e ∷ es) = (omega (arith, least_le (min o e.seen) es), least_fresh (min o e.seen) es)

-- nothing is idle as long as the oldest is not
pub fresh_keys : (now o : ℕ) (es : List Entry) → is_idle now o ≡ false → Fresh o es → idle_keys now es ≡ []
fresh_keys now o [] h f = refl
fresh_keys now o (e ∷ es) h f = rw (younger now o e.seen h f.0) (fresh_keys now o es h f.1)

pub fresh_stay : (now o : ℕ) (es : List Entry) → is_idle now o ≡ false → Fresh o es → staying now es ≡ es
fresh_stay now o [] h f = refl
fresh_stay now o (e ∷ es) h f = rw (younger now o e.seen h f.0) (ap (λ r. e ∷ r) (fresh_stay now o es h f.1))

-- what is found afterwards
none_stays : (now : ℕ) (q : Key) (es : List Entry) → seen_in q es ≡ None → seen_in q (staying now es) ≡ None
none_stays now q [] n = refl
none_stays now q (e ∷ es) n = let ih = none_stays now q es in grind arith

pub seen_stays : (now : ℕ) (q : Key) (es : List Entry) → Once es → seen_in q (staying now es) ≡ lapsed now (seen_in q es)
seen_stays now q [] o = refl
seen_stays now q (e ∷ es) o = let ih = seen_stays now q es o.1 in let z = none_stays now q es in let w : same_key e.key q ≡ true → seen_in q es ≡ None = λ y. rw (sym (same_eq e.key q y)) o.0 in grind arith

-- one name after the other is taken out
abbrev taken : List Entry → List Key → List Entry
taken es ks = fold (λ xs k. without k xs) es ks

other_keys : (now : ℕ) (q : Key) (es : List Entry) → seen_in q es ≡ None → All (λ k. same_key q k ≡ false) (idle_keys now es)
other_keys now q [] n = tt
other_keys now q (e ∷ es) n =
    let a : same_key e.key q ≡ false = grind arith in
    let b : same_key q e.key ≡ false = same_flip q e.key ∙ a in
    let ih = other_keys now q es (rw a at n) in
    elim (cases_Bool (is_idle now e.seen)) [ inl y ↦ rw y (b, ih) | inr m ↦ rw m ih ]

taken_other : (e : Entry) (es : List Entry) (ks : List Key) → All (λ k. same_key e.key k ≡ false) ks → taken (e ∷ es) ks ≡ e ∷ taken es ks
taken_other e es [] a = refl
taken_other e es (k ∷ ks) a = rw a.0 (taken_other e (without k es) ks a.1)

pub taken_idle : (now : ℕ) (es : List Entry) → Once es → taken es (idle_keys now es) ≡ staying now es
taken_idle now [] o = refl
taken_idle now (e ∷ es) o =
    elim (cases_Bool (is_idle now e.seen)) [
      | inl y ↦ (let z : without e.key (e ∷ es) ≡ es = rw (same_refl e.key) in rw y (ap (λ xs. taken xs (idle_keys now es)) z ∙ taken_idle now es o.1))
      | inr n ↦ rw n (taken_other e es (idle_keys now es) (other_keys now e.key es o.0) ∙ ap (λ r. e ∷ r) (taken_idle now es o.1))
    ]

-- one entry looked at
pub names_yes : (now : ℕ) (out : List Key) (es : List Entry) (i : ℕ) (d : Entry) → i < length es → is_idle now (get_or es i d).seen ≡ true
    → (out ++ (get_or es i d).key ∷ []) ++ idle_keys now (drop (i + 1) es) ≡ out ++ idle_keys now (drop i es)
names_yes now out es i d h t = rw (append_assoc out ((get_or es i d).key ∷ []) (idle_keys now (drop (i + 1) es)), drop_more es i d h, t)

pub names_no : (now : ℕ) (out : List Key) (es : List Entry) (i : ℕ) (d : Entry) → i < length es → is_idle now (get_or es i d).seen ≡ false
    → out ++ idle_keys now (drop (i + 1) es) ≡ out ++ idle_keys now (drop i es)
names_no now out es i d h t = rw (drop_more es i d h, t)

-- one slot looked through
flat_more : (vs : List (Vec Entry Global)) (i : ℕ) (v : Vec Entry Global) → i < length vs → v ≡ get_or vs i v
    → flat (map vec_items (drop i vs)) ≡ vec_items v ++ flat (map vec_items (drop (i + 1) vs))
flat_more vs i v h g = ap (λ ws. flat (map vec_items ws)) (drop_more vs i v h) ∙ ap (λ x. vec_items x ++ flat (map vec_items (drop (i + 1) vs))) (sym g)

pub names_slot : (now : ℕ) (out : List Key) (vs : List (Vec Entry Global)) (i : ℕ) (v : Vec Entry Global) → i < length vs → v ≡ get_or vs i v
    → (out ++ idle_keys now (vec_items v)) ++ idle_keys now (flat (map vec_items (drop (i + 1) vs))) ≡ out ++ idle_keys now (flat (map vec_items (drop i vs)))
names_slot now out vs i v h g =
    append_assoc out (idle_keys now (vec_items v)) (idle_keys now (flat (map vec_items (drop (i + 1) vs))))
    ∙ ap (λ ks. out ++ ks) (sym (keys_append now (vec_items v) (flat (map vec_items (drop (i + 1) vs)))) ∙ ap (idle_keys now) (sym (flat_more vs i v h g)))
