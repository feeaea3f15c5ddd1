-- Laws of the lists of open sessions, and of a map changed at one number. Assumes nothing.
use Rattle.std.proofs.Common.{◌≡◌, ℕ, ◌<◌, ◌≤◌, T, ◌⊎◌, List, [], ◌∷◌, refl, inl, arith}
use Rattle.flow.specs.declared.key.FlowKey.{FlowKey}
use Rattle.flow.proofs.Same.{same_refl, same_eq}
use Rattle.bucket.specs.Sessions.{is_in, count, without, is_empty, put, bump}

-- what holds of the new value at h, and of the old ones elsewhere, holds of the changed map
pub put_all : {A : Type 0} (P : ℕ → A → Type 0) (h : ℕ) (a : A) (f : ℕ → A) → P h a → ((g : ℕ) → (g ≡ h → ⊥) → P g (f g)) → (g : ℕ) → P g (put h a f g)
put_all P h a f here there g = grind arith

-- what the changed map has at h
pub put_here : {A : Type 0} (P : A → Type 0) (h : ℕ) (a : A) (f : ℕ → A) → P a → P (put h a f h)
put_here P h a f p = grind arith

-- what the changed map has at g is the new value, or what was there
pub put_cases : {A : Type 0} (P : A → Type 0) (h : ℕ) (a : A) (f : ℕ → A) (g : ℕ) → P (put h a f g) → ((g ≡ h) × P a) ⊎ ((g ≡ h → ⊥) × P (f g))
put_cases P h a f g p = grind arith

pub in_none : (c : FlowKey) → T (is_in c []) → ⊥
unfolding is_in
in_none c t = t

pub in_cons : (c x : FlowKey) (xs : List FlowKey) → T (is_in c (x ∷ xs)) → (c ≡ x) ⊎ T (is_in c xs)
unfolding is_in
in_cons c x xs t = grind (arith, same_eq)

pub in_here : (c : FlowKey) (xs : List FlowKey) → T (is_in c (c ∷ xs))
unfolding is_in
in_here c xs = let e = same_refl c in grind arith

pub in_there : (c x : FlowKey) (xs : List FlowKey) → T (is_in c xs) → T (is_in c (x ∷ xs))
unfolding is_in
in_there c x xs t = grind arith

-- what is in the list without c was in it
pub in_without : (c d : FlowKey) (xs : List FlowKey) → T (is_in d (without c xs)) → T (is_in d xs)
unfolding is_in without
in_without c d [] t = t
in_without c d (x ∷ xs) t = let ih = in_without c d xs in grind arith

-- what was in the list is in it without c, unless it is c
pub in_still : (c d : FlowKey) (xs : List FlowKey) → T (is_in d xs) → T (is_in d (without c xs)) ⊎ (c ≡ d)
unfolding is_in without
in_still c d [] t = inl t
in_still c d (x ∷ xs) t = let ih = in_still c d xs in let e = same_eq c x in let f = same_eq d x in grind arith

pub in_empty : (c : FlowKey) (xs : List FlowKey) → T (is_empty xs) → T (is_in c xs) → ⊥
unfolding is_in
in_empty c [] e t = t
in_empty c (x ∷ xs) e t = e

pub count_without : (c d : FlowKey) (xs : List FlowKey) → count d (without c xs) ≤ count d xs
unfolding count without
count_without c d [] = omega arith
count_without c d (x ∷ xs) = let ih = count_without c d xs in grind arith

pub count_none : (c : FlowKey) (xs : List FlowKey) → (T (is_in c xs) → ⊥) → count c xs ≡ 0
unfolding is_in count
count_none c [] h = refl
count_none c (x ∷ xs) h = let ih = count_none c xs in grind arith

pub count_empty : (c : FlowKey) → count c [] ≤ 1
unfolding count
count_empty c = omega arith

-- a session put in front of a list that hasn't it
pub count_cons : (c d : FlowKey) (xs : List FlowKey) → (T (is_in c xs) → ⊥) → ((k : FlowKey) → count k xs ≤ 1) → count d (c ∷ xs) ≤ 1
unfolding count
count_cons c d xs h ones = let e = same_eq d c in let n = count_none c xs h in let o = ones d in grind arith

pub bump_up : (c d : FlowKey) (f : FlowKey → ℕ) → f d ≤ bump c f d
unfolding bump
bump_up c d f = grind arith

pub bump_here : (c : FlowKey) (f : FlowKey → ℕ) → f c < bump c f c
unfolding bump
bump_here c f = let e = same_refl c in grind arith
