-- A list moves up by one, item by item. Assumes nothing.
use Rattle.std.proofs.Common.{◌≡◌, ℕ, zero, suc, ◌+◌, ◌<◌, ◌≤◌, List, [], ◌∷◌, ◌++◌, length, get_or, take, drop, set, refl, ap, add-one, arith}
use Rattle.std.proofs.lemmas.List.{take_all, drop_all}

at_next : {A : Type 0} (xs : List A) (i : ℕ) (x d : A) → i < length xs → take (suc i) (set xs i x) ++ get_or xs i d ∷ drop (suc i) (set xs i x) ≡ take i xs ++ x ∷ drop i xs
at_next [] i x d h = absurd (omega arith)
at_next (y ∷ ys) zero x d h = refl
at_next (y ∷ ys) (suc i) x d h = ap (λ r. y ∷ r) (at_next ys i x d (omega arith))

-- the item at i gives its place to the one that is carried, and is carried on
pub carried : {A : Type 0} (xs : List A) (i : ℕ) (x d : A) → i < length xs → take (i + 1) (set xs i x) ++ get_or xs i d ∷ drop (i + 1) (set xs i x) ≡ take i xs ++ x ∷ drop i xs
carried xs i x d h = rw add-one (at_next xs i x d h)

-- past the end all moved up, and the last is carried
pub at_end : {A : Type 0} (xs : List A) (i : ℕ) (x : A) → length xs ≤ i → xs ++ x ∷ [] ≡ take i xs ++ x ∷ drop i xs
at_end xs i x h = rw (take_all i xs h, drop_all i xs h)
