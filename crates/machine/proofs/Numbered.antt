-- A walk over numbers, from one on, and things beside them. Assumes nothing.
use Rattle.std.proofs.Common.{◌≡◌, ℕ, suc, ◌+◌, ◌-◌, ◌≤◌, Bool, true, false, List, [], ◌∷◌, ◌++◌, map, length, Some, None, Iter, sym, refl, ap, ◌∙◌, arith, ◌⊎◌, inl, inr, Option}
use Rattle.std.proofs.lemmas.List.{nil_from_length}
use Rattle.std.specs.Range.{range_inclusive_len, range_inclusive_left, range_inclusive_steps}
use Rattle.std.specs.Slice.Iter.{iter_rest, iter_steps}
use Rattle.std.specs.declared.iter.Zip.{Zip}
use Rattle.std.specs.declared.ops.RangeInclusive.{RangeInclusive}

-- there is a number for each thing that is left
abbrev pub Suffices : {X : Type 0} → Zip (RangeInclusive ℕ) (Iter X) → Type 0
Suffices s = length (iter_rest s.b) ≤ range_inclusive_left (λ a b. b - a) s.a

abbrev numbers : RangeInclusive ℕ → Option ℕ → RangeInclusive ℕ → Type 0
numbers = range_inclusive_steps (λ a b. b - a) (λ a b. b ≡ a + 1)

-- where nothing is left, the number does not matter
after : {X C Y : Type 0} (v : X → C) (F : ℕ → List C → Y) → ((m n : ℕ) → F m [] ≡ F n []) → (spent : Bool) (k e n : ℕ) (xs : List X) → (spent ≡ false → k ≡ n + 1) → length xs ≤ range_inclusive_len (λ a b. b - a) k e spent → F k (map v xs) ≡ F (suc n) (map v xs)
after v F z true k e n [] f h = z k (suc n)
after v F z true k e n (x ∷ xs) f h = absurd (omega (arith, h))
after v F z false k e n xs f h = ap (λ m. F m (map v xs)) (omega (arith, f refl))

module _ {X : Type 0} (s : Zip (RangeInclusive ℕ) (Iter X)) where
  pub left_none : Suffices s → ((u : RangeInclusive ℕ) × numbers s.a None u) ⊎ ((u : Iter X) × iter_steps s.b None u) → iter_rest s.b ≡ []
  left_none h (inl p) = nil_from_length _ (omega (arith, p.1.1, h))
  left_none h (inr p) = nil_from_length _ p.1.0

  module _ (t : Zip (RangeInclusive ℕ) (Iter X)) (h : Suffices s) (n : ℕ) (x : X) (p : numbers s.a (Some n) t.a × (iter_rest s.b ≡ x ∷ iter_rest t.b)) where
    pub left_more : Suffices t
    left_more = omega (arith, ap length p.1, p.0.1.1, h)

    -- what the rest adds, before and after one thing
    pub walk_on : {C Y : Type 0} (v : X → C) (F : ℕ → List C → List Y) → ((m k : ℕ) → F m [] ≡ F k []) → (was here : List Y) → here ++ F (suc n) (map v (iter_rest t.b)) ≡ was ++ F n (v x ∷ map v (iter_rest t.b))
        → here ++ F t.a.start (map v (iter_rest t.b)) ≡ was ++ F s.a.start (map v (iter_rest s.b))
    walk_on v F z was here e =
        ap (λ ys. here ++ ys) (after v F z t.a.exhausted t.a.start t.a.end n (iter_rest t.b) (λ q. p.0.1.2 q ∙ ap (λ m. m + 1) (sym p.0.1.0)) left_more)
        ∙ (e ∙ ap (λ ys. was ++ ys) (ap (λ m. F m (v x ∷ map v (iter_rest t.b))) p.0.1.0 ∙ sym (ap (λ xs. F s.a.start (map v xs)) p.1)))
