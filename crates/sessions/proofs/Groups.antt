-- Groups of sixteen slots and their bounds. Assumes nothing.
use Rattle.std.proofs.Common.{◌≡◌, ℕ, zero, suc, ◌+◌, ◌-◌, ◌*◌, ◌/◌, ◌<◌, ◌≤◌, false, List, [], ◌∷◌, ◌++◌, map, length, get_or, take, drop, set, vec_items, Vec, sym, refl, ap, ◌∙◌, inl, inr, append_assoc, arith}
use Rattle.std.proofs.lemmas.List.{take-append-drop, take_all, drop_all, append-nil, drop-drop, map-append, take-map, drop-map, get_or-take, get_or-drop, get_or_past, get_or-set_same, get_or-set_other, length-take}
use Rattle.std.proofs.ByRecursion.{All-append, All-weaker}
use Rattle.std.proofs.lemmas.Bool.{cases_eq, cases_lt}
use Rattle.std.specs.declared.alloc.Global.{Global}
use Rattle.std.specs.List.{flat_map}
use Rattle.std.specs.Simd.{first_chunks}
use Rattle.sessions.specs.declared.key.Key.{Key}
use Rattle.sessions.specs.declared.entry.Entry.{Entry}
use Rattle.sessions.specs.Entries.{is_idle, idle_keys}
use Rattle.sessions.specs.Kept.{Bounded}
use Rattle.sessions.specs.Slots.{flat}
use Rattle.sessions.proofs.Files.{Fresh, fresh_in, fresh_out, all_slot}
use Rattle.sessions.proofs.Lapse.{keys_append, fresh_keys}

flat_append : (xs ys : List (List Entry)) → flat (xs ++ ys) ≡ flat xs ++ flat ys
flat_append [] ys = refl
flat_append (x ∷ xs) ys = ap (λ r. x ++ r) (flat_append xs ys) ∙ sym (append_assoc x (flat xs) (flat ys))

pub flat_items : (vs : List (Vec Entry Global)) → flat_map vec_items vs ≡ flat (map vec_items vs)
flat_items [] = refl
flat_items (v ∷ vs) = ap (λ r. vec_items v ++ r) (flat_items vs)

-- the next group, and what is behind it
behind : (vs : List (Vec Entry Global)) (a : ℕ) → flat (map vec_items (drop a vs)) ≡ flat (map vec_items (take 16 (drop a vs))) ++ flat (map vec_items (drop (a + 16) vs))
behind vs a =
    ap (λ ws. flat (map vec_items ws)) (sym (take-append-drop 16 (drop a vs)))
    ∙ (ap flat (map-append vec_items (take 16 (drop a vs)) (drop 16 (drop a vs)))
    ∙ (flat_append (map vec_items (take 16 (drop a vs))) (map vec_items (drop 16 (drop a vs)))
    ∙ ap (λ ws. flat (map vec_items (take 16 (drop a vs))) ++ flat (map vec_items ws)) (drop-drop 16 a vs)))

abbrev pub group_of : List (Vec Entry Global) → ℕ → List Entry
group_of vs g = flat (map vec_items (take 16 (drop (g * 16) vs)))

next_names : (now : ℕ) (vs : List (Vec Entry Global)) (g : ℕ)
    → idle_keys now (flat (map vec_items (drop (g * 16) vs))) ≡ idle_keys now (group_of vs g) ++ idle_keys now (flat (map vec_items (drop ((g + 1) * 16) vs)))
next_names now vs g =
    let e : (g + 1) * 16 ≡ g * 16 + 16 = omega arith in
    rw e (ap (idle_keys now) (behind vs (g * 16)) ∙ keys_append now (group_of vs g) (flat (map vec_items (drop (g * 16 + 16) vs))))

pub group_yes : (now : ℕ) (out out' : List Key) (vs : List (Vec Entry Global)) (g : ℕ) → out' ≡ out ++ idle_keys now (group_of vs g)
    → out' ++ idle_keys now (flat (map vec_items (drop ((g + 1) * 16) vs))) ≡ out ++ idle_keys now (flat (map vec_items (drop (g * 16) vs)))
group_yes now out out' vs g e =
    ap (λ o. o ++ idle_keys now (flat (map vec_items (drop ((g + 1) * 16) vs)))) e
    ∙ (append_assoc out (idle_keys now (group_of vs g)) (idle_keys now (flat (map vec_items (drop ((g + 1) * 16) vs)))) ∙ ap (λ o. out ++ o) (sym (next_names now vs g)))

pub chunk_at : (n g : ℕ) (vs d : List (Vec Entry Global)) → g < n → get_or (first_chunks 16 n vs) g d ≡ take 16 (drop (g * 16) vs)
chunk_at zero g vs d h = absurd (omega arith)
chunk_at (suc n) zero vs d h = refl
chunk_at (suc n) (suc g) vs d h =
    let e : suc g * 16 ≡ 16 + g * 16 = omega arith in
    chunk_at n g (drop 16 vs) d (omega (arith, h)) ∙ (ap (take 16) (drop-drop (g * 16) 16 vs) ∙ rw e refl)

-- a group whose bound is not an hour old has no idle session
none_in : (now b : ℕ) (ss : List (List Entry)) → is_idle now b ≡ false → ((j : ℕ) → Fresh b (get_or ss j [])) → idle_keys now (flat ss) ≡ []
none_in now b [] h f = refl
none_in now b (s ∷ ss) h f = keys_append now s (flat ss) ∙ (rw (fresh_keys now b s h (f 0)) (none_in now b ss h (λ j. f (suc j))))

in_group : (g j : ℕ) → j < 16 → (g * 16 + j) / 16 ≡ g
in_group g j h = omega arith

part_at : (ss : List (List Entry)) (a j : ℕ) → j < 16 → get_or (take 16 (drop a ss)) j [] ≡ get_or ss (a + j) []
part_at ss a j h = get_or-take 16 (drop a ss) j [] h ∙ get_or-drop a ss j []

group_fresh : (ss : List (List Entry)) (bs : List ℕ) (g : ℕ) → Bounded ss bs → (j : ℕ) → Fresh (get_or bs g 0) (get_or (take 16 (drop (g * 16) ss)) j [])
group_fresh ss bs g b j =
    elim (cases_lt j 16) [
      | inl h ↦ rw (part_at ss (g * 16) j h) (let f = fresh_in (get_or bs ((g * 16 + j) / 16) 0) (get_or ss (g * 16 + j) []) (b (g * 16 + j)) in rw (in_group g j h) at f)
      | inr n ↦ (let e : get_or (take 16 (drop (g * 16) ss)) j [] ≡ [] = get_or_past (take 16 (drop (g * 16) ss)) j [] (omega (arith, length-take 16 (drop (g * 16) ss))) in rw e tt)
    ]

parts : (vs : List (Vec Entry Global)) (a : ℕ) → map vec_items (take 16 (drop a vs)) ≡ take 16 (drop a (map vec_items vs))
parts vs a = sym (take-map vec_items 16 (drop a vs)) ∙ ap (take 16) (sym (drop-map vec_items a vs))

pub group_no : (now : ℕ) (vs : List (Vec Entry Global)) (bs : List ℕ) (g : ℕ) → Bounded (map vec_items vs) bs → is_idle now (get_or bs g 0) ≡ false → idle_keys now (group_of vs g) ≡ []
group_no now vs bs g b h =
    rw (parts vs (g * 16)) (none_in now (get_or bs g 0) (take 16 (drop (g * 16) (map vec_items vs))) h (group_fresh (map vec_items vs) bs g b))

-- a bound made anew
pub renewed : (vs : List (Vec Entry Global)) (bs : List ℕ) (g r : ℕ) → length bs ≡ 4096 → g < 4096 → Bounded (map vec_items vs) bs → Fresh r (group_of vs g) → Bounded (map vec_items vs) (set bs g r)
renewed vs bs g r l h b f i =
    elim (cases_eq (i / 16) g) [
      | inl e ↦
          let j : ℕ = i - g * 16 in
          let small : j < 16 = omega arith in
          let is : g * 16 + j ≡ i = omega arith in
          let all = all_slot (λ x. r ≤ x.seen) (take 16 (drop (g * 16) (map vec_items vs))) j (rw (parts vs (g * 16)) at f) in
          let here : Fresh r (get_or (map vec_items vs) i []) = rw (part_at (map vec_items vs) (g * 16) j small, is) at all in
          rw (e, get_or-set_same bs g r 0 (omega arith)) (fresh_out r (get_or (map vec_items vs) i []) here)
      | inr n ↦ rw (get_or-set_other bs g (i / 16) r 0 n) (b i)
    ]

-- what is no later than any bound is no later than any session
pub fresh_flat : (o : ℕ) (ss : List (List Entry)) → ((i : ℕ) → Fresh o (get_or ss i [])) → Fresh o (flat ss)
fresh_flat o [] f = tt
fresh_flat o (s ∷ ss) f = All-append (λ e. o ≤ e.seen) s (flat ss) (f 0) (fresh_flat o ss (λ i. f (suc i)))

pub under_all : (o : ℕ) (ss : List (List Entry)) (bs : List ℕ) → length ss ≡ 65536 → Bounded ss bs → ((g : ℕ) → g < 4096 → o ≤ get_or bs g 0) → (i : ℕ) → Fresh o (get_or ss i [])
under_all o ss bs l b le i =
    elim (cases_lt i 65536) [
      | inl h ↦
          All-weaker (λ e. get_or bs (i / 16) 0 ≤ e.seen) (λ e. o ≤ e.seen) (λ e x. omega (arith, le (i / 16) (omega arith))) (get_or ss i []) (fresh_in (get_or bs (i / 16) 0) (get_or ss i []) (b i))
      | inr n ↦ (let e : get_or ss i [] ≡ [] = get_or_past ss i [] (omega arith) in rw e tt)
    ]

-- all items of a list that was written over
pub written : (n : ℕ) (xs ys : List ℕ) → length xs ≡ n → length ys ≡ n → take n (xs ++ drop (length xs) ys) ≡ xs
written n xs ys e f = rw (drop_all (length xs) ys (omega (arith, e, f)), append-nil xs) (take_all n xs (omega (arith, e)))
