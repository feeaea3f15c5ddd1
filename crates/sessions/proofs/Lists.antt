-- The first element that passes a test, found by its place. Assumes nothing.
use Rattle.std.proofs.Common.{◌≡◌, ℕ, suc, ◌<◌, Bool, List, ◌∷◌, length, Some, None, arith}
use Rattle.std.proofs.lemmas.Bool.Decides.{nat_tests}
use Rattle.std.proofs.lemmas.List.Quantifiers.{position-Some}
use Rattle.std.proofs.lemmas.List.Sums.{fails_before_first}
use Rattle.std.specs.List.{position, position_or_len}
use Rattle.sessions.specs.Found.{Misses, HitAt}

position_below : {X : Type 0} (f : X → Bool) (xs : List X) (i : ℕ) → position f xs ≡ Some i → i < length xs
position_below f xs i e = grind (arith, nat_tests)

position_past : {X : Type 0} (f : X → Bool) (xs : List X) (j : ℕ) → position f xs ≡ None → j < length xs → j < position_or_len f xs
position_past f xs j e h = grind (arith, nat_tests)

pub hit : {X : Type 0} (f : X → Bool) (xs : List X) (i : ℕ) → position f xs ≡ Some i → HitAt f xs i
hit f xs i e = (position_below f xs i e, (λ d. (position-Some f xs i d e).1), λ j d b. (position-Some f xs i d e).2 j b)

pub misses : {X : Type 0} (f : X → Bool) (xs : List X) → position f xs ≡ None → Misses f xs
misses f xs e j d h = fails_before_first f xs j d (position_past f xs j e h)

-- the rest of a list in which the head does not pass
pub misses_rest : {X : Type 0} (f : X → Bool) (x : X) (xs : List X) → Misses f (x ∷ xs) → Misses f xs
misses_rest f x xs m = λ j d h. m (suc j) d (omega arith)

pub hit_rest : {X : Type 0} (f : X → Bool) (x : X) (xs : List X) (i : ℕ) → HitAt f (x ∷ xs) (suc i) → HitAt f xs i
hit_rest f x xs i m = (omega (arith, m.0), m.1, λ j d h. m.2 (suc j) d (omega arith))
