-- Laws of the lists in which a server keeps its places. Assumes nothing.
use Rattle.std.proofs.Common.{◌≡◌, ℕ, zero, suc, ◌-◌, ◌<◌, ◌≤◌, ◌⊎◌, List, [], ◌∷◌, length, take, Some, None, Option, refl, inl, arith}
use native.Mathlib.Numerals.{unary_clauses}
use Rattle.chain.specs.declared.place.Standing.{Standing}
use Rattle.chain.specs.declared.place.Standing.TheVariants.{Never, Stands, Forgotten}
use Rattle.chain.specs.declared.place.Place.{Place}
use Rattle.places.specs.Rules.{Known, find_in, find, or_else, replace_in, replaced, stood_with, oldest_in, remembered, left}

abbrev pub IsGone : Standing → Type 0
IsGone Never = ⊥
IsGone (Stands b a) = ⊥
IsGone (Forgotten a) = Unit {0}

-- from the newest down, all under n
abbrev pub Falls : ℕ → List Place → Type 0
Falls n [] = Unit {0}
Falls n (x ∷ xs) = (x.link.place < n) × Falls x.link.place xs

abbrev pub Past : List Place → Type 0
Past [] = Unit {0}
Past (x ∷ xs) = IsGone x.standing × Past xs

abbrev pub Tidy : Known → Type 0
Tidy k = Falls (suc k.highest) k.standing × Past k.past

-- y is x, or x is a forgotten place and y nothing
abbrev pub Less : Option Place → Option Place → Type 0
Less None y = y ≡ None
Less (Some x) y = (y ≡ Some x) ⊎ ((y ≡ None) × IsGone x.standing)

less_same : (x : Option Place) → Less x x
less_same None = refl
less_same (Some x) = inl refl

falls_more : (n m : ℕ) (xs : List Place) → n ≤ m → Falls n xs → Falls m xs
falls_more n m [] le f = tt
falls_more n m (x ∷ xs) le f = (omega (arith, f.0), f.1)

falls_none : (n : ℕ) (xs : List Place) → Falls n xs → find_in n xs ≡ None
unfolding find_in
falls_none n [] f = refl
falls_none n (x ∷ xs) f = let ih = falls_none n xs (falls_more x.link.place n xs (omega (arith, f.0)) f.1) in let lt = f.0 in grind arith

past_less : (q : ℕ) (xs : List Place) → Past xs → Less (find_in q xs) None
unfolding find_in
past_less q [] p = refl
past_less q (x ∷ xs) p = let ih = past_less q xs p.1 in let g = p.0 in grind arith

past_take : (n q : ℕ) (xs : List Place) → Past xs → Less (find_in q xs) (find_in q (take n xs))
unfolding find_in
past_take zero q [] p = refl
past_take (suc n) q [] p = refl
past_take zero q (x ∷ xs) p = past_less q (x ∷ xs) p
past_take (suc n) q (x ∷ xs) p = let ih = past_take n q xs p.1 in grind arith

past_kept : (n : ℕ) (xs : List Place) → Past xs → Past (take n xs)
past_kept zero [] p = tt
past_kept (suc n) [] p = tt
past_kept zero (x ∷ xs) p = tt
past_kept (suc n) (x ∷ xs) p = (p.0, past_kept n xs p.1)

-- a place that is found in the past is forgotten
past_gone : (q : ℕ) (xs : List Place) (x : Place) → Past xs → find_in q xs ≡ Some x → IsGone x.standing
unfolding find_in
past_gone q [] x p e = absurd (grind arith)
past_gone q (y ∷ ys) x p e = let ih = past_gone q ys x p.1 in let g = p.0 in grind arith

-- REPLACING

replace_other : (n : ℕ) (x : Place) (q : ℕ) (xs : List Place) → x.link.place ≡ n → (q ≡ n → ⊥) → find_in q (replace_in n x xs) ≡ find_in q xs
unfolding find_in replace_in
replace_other n x q [] e ne = refl
replace_other n x q (y ∷ ys) e ne = let ih = replace_other n x q ys e ne in grind arith

replace_here : (n : ℕ) (x y : Place) (xs : List Place) → x.link.place ≡ n → find_in n xs ≡ Some y → find_in n (replace_in n x xs) ≡ Some x
unfolding find_in replace_in
replace_here n x y [] e f = absurd (grind arith)
replace_here n x y (z ∷ zs) e f = let ih = replace_here n x y zs e in grind arith

replace_not : (n : ℕ) (x : Place) (xs : List Place) → find_in n xs ≡ None → find_in n (replace_in n x xs) ≡ None
unfolding find_in replace_in
replace_not n x [] f = refl
replace_not n x (z ∷ zs) f = let ih = replace_not n x zs in grind arith

replace_falls : (m n : ℕ) (x : Place) (xs : List Place) → x.link.place ≡ n → Falls m xs → Falls m (replace_in n x xs)
unfolding replace_in
replace_falls m n x [] e f = tt
replace_falls m n x (y ∷ ys) e f = let ih = replace_falls y.link.place n x ys e f.1 in let a = f.0 in let b = f.1 in grind arith

pub replaced_tidy : (n : ℕ) (x : Place) (k : Known) → x.link.place ≡ n → Tidy k → Tidy (replaced n x k)
replaced_tidy n x k e t = (replace_falls (suc k.highest) n x k.standing e t.0, t.1)

pub replaced_other : (n : ℕ) (x : Place) (q : ℕ) (k : Known) → x.link.place ≡ n → (q ≡ n → ⊥) → find q (replaced n x k) ≡ find q k
replaced_other n x q k e ne = rw (replace_other n x q k.standing e ne)

replaced_by : (n : ℕ) (x y : Place) (k : Known) (o : Option Place) → x.link.place ≡ n → find_in n k.standing ≡ o → or_else o (find_in n k.past) ≡ Some y → Past k.past → (IsGone y.standing → x ≡ y) →
    find n (replaced n x k) ≡ Some x
replaced_by n x y k (Some z) e f g p same = rw (replace_here n x z k.standing e f)
replaced_by n x y k None e f g p same = let h = same (past_gone n k.past y p g) in rw (replace_not n x k.standing f, h) g

pub replaced_here : (n : ℕ) (x y : Place) (k : Known) → x.link.place ≡ n → Tidy k → find n k ≡ Some y → (IsGone y.standing → x ≡ y) → find n (replaced n x k) ≡ Some x
replaced_here n x y k e t f same = replaced_by n x y k (find_in n k.standing) e refl f t.1 same

-- STANDING IN A NEW PLACE

pub stood_here : (x : Place) (k : Known) → find x.link.place (stood_with x k) ≡ Some x
unfolding find_in
stood_here x k = grind arith

pub stood_other : (x : Place) (q : ℕ) (k : Known) → (q ≡ x.link.place → ⊥) → find q (stood_with x k) ≡ find q k
unfolding find_in
stood_other x q k ne = grind arith

pub stood_tidy : (x : Place) (k : Known) → k.highest < x.link.place → Tidy k → Tidy (stood_with x k)
stood_tidy x k lt t = ((omega arith, falls_more (suc k.highest) x.link.place k.standing (omega arith) t.0), t.1)

-- FORGETTING THE OLDEST

pub find_standing : (q : ℕ) (x : Place) (k : Known) → find_in q k.standing ≡ Some x → find q k ≡ Some x
find_standing q x k e = rw e

oldest_under : (m : ℕ) (x : Place) (xs : List Place) → Falls m xs → oldest_in xs ≡ Some x → x.link.place < m
unfolding oldest_in
oldest_under m x [] f o = absurd (grind arith)
oldest_under m x (y ∷ []) f o = let a = f.0 in grind arith
oldest_under m x (y ∷ (z ∷ zs)) f o = let ih = oldest_under y.link.place x (z ∷ zs) f.1 o in omega (arith, f.0)

find_past : (q : ℕ) (y : Place) (ys : List Place) → (q ≡ y.link.place → ⊥) → find_in q (y ∷ ys) ≡ find_in q ys
unfolding find_in
find_past q y ys ne = grind arith

find_both : (q : ℕ) (y : Place) (xs ys : List Place) → find_in q xs ≡ find_in q ys → find_in q (y ∷ xs) ≡ find_in q (y ∷ ys)
unfolding find_in
find_both q y xs ys e = rw e

oldest_is_found : (m : ℕ) (x : Place) (xs : List Place) → Falls m xs → oldest_in xs ≡ Some x → find_in x.link.place xs ≡ Some x
unfolding oldest_in find_in
oldest_is_found m x [] f o = absurd (grind arith)
oldest_is_found m x (y ∷ []) f o = grind arith
oldest_is_found m x (y ∷ (z ∷ zs)) f o =
    let lt = oldest_under y.link.place x (z ∷ zs) f.1 o in
    rw (find_past x.link.place y (z ∷ zs) (λ e. omega arith)) (oldest_is_found y.link.place x (z ∷ zs) f.1 o)

pub oldest_found : (x : Place) (k : Known) → Tidy k → oldest_in k.standing ≡ Some x → find x.link.place k ≡ Some x
oldest_found x k t o = find_standing x.link.place x k (oldest_is_found (suc k.highest) x k.standing t.0 o)

shorter : (y z : Place) (zs : List Place) → take (length (y ∷ (z ∷ zs)) - 1) (y ∷ (z ∷ zs)) ≡ y ∷ take (length (z ∷ zs) - 1) (z ∷ zs)
shorter y z zs = simp unary_clauses refl

left_here : (m : ℕ) (x : Place) (xs : List Place) → Falls m xs → oldest_in xs ≡ Some x → find_in x.link.place (take (length xs - 1) xs) ≡ None
unfolding oldest_in find_in
left_here m x [] f o = absurd (grind arith)
left_here m x (y ∷ []) f o = refl
left_here m x (y ∷ (z ∷ zs)) f o =
    let lt = oldest_under y.link.place x (z ∷ zs) f.1 o in
    rw (shorter y z zs, find_past x.link.place y (take (length (z ∷ zs) - 1) (z ∷ zs)) (λ e. omega arith)) (left_here y.link.place x (z ∷ zs) f.1 o)

left_other : (q : ℕ) (x : Place) (xs : List Place) → oldest_in xs ≡ Some x → (q ≡ x.link.place → ⊥) → find_in q (take (length xs - 1) xs) ≡ find_in q xs
unfolding oldest_in find_in
left_other q x [] o ne = absurd (grind arith)
left_other q x (y ∷ []) o ne = grind arith
left_other q x (y ∷ (z ∷ zs)) o ne = rw (shorter y z zs) (find_both q y (take (length (z ∷ zs) - 1) (z ∷ zs)) (z ∷ zs) (left_other q x (z ∷ zs) o ne))

left_falls : (m : ℕ) (n : ℕ) (xs : List Place) → Falls m xs → Falls m (take n xs)
left_falls m zero [] f = tt
left_falls m (suc n) [] f = tt
left_falls m zero (x ∷ xs) f = tt
left_falls m (suc n) (x ∷ xs) f = (f.0, left_falls x.link.place n xs f.1)

pub forgot_tidy : (x : Place) (k : Known) → IsGone x.standing → Tidy k → Tidy (remembered x (left k))
forgot_tidy x k g t = (left_falls (suc k.highest) (length k.standing - 1) k.standing t.0, (g, past_kept 15 k.past t.1))

pub forgot_here : (x y : Place) (k : Known) → Tidy k → oldest_in k.standing ≡ Some y → x.link.place ≡ y.link.place → find y.link.place (remembered x (left k)) ≡ Some x
unfolding find_in
forgot_here x y k t o e = rw (left_here (suc k.highest) y k.standing t.0 o) (grind arith)

or_else_less : (o a b : Option Place) → Less a b → Less (or_else o a) (or_else o b)
or_else_less (Some x) a b l = inl refl
or_else_less None a b l = l

past_other : (x : Place) (q : ℕ) (xs : List Place) → (q ≡ x.link.place → ⊥) → find_in q (x ∷ xs) ≡ find_in q xs
unfolding find_in
past_other x q xs ne = grind arith

pub forgot_other : (x y : Place) (q : ℕ) (k : Known) → Tidy k → oldest_in k.standing ≡ Some y → x.link.place ≡ y.link.place → (q ≡ y.link.place → ⊥) → Less (find q k) (find q (remembered x (left k)))
forgot_other x y q k t o e ne =
    rw (left_other q y k.standing o ne, past_other x q (take 15 k.past) (λ z. ne (grind arith)))
    (or_else_less (find_in q k.standing) (find_in q k.past) (find_in q (take 15 k.past)) (past_take 15 q k.past t.1))
