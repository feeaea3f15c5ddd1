-- The servers below a number and those above it, as a filter picks them. Assumes nothing.
use Rattle.std.proofs.Common.{◌≡◌, ℕ, suc, ◌+◌, ◌<◌, ◌&&◌, ltb, leb, List, [], ◌∷◌, get_or, filter, sym, refl, arith}
use Rattle.std.proofs.lemmas.Bool.Decides.{nat_tests}
use Rattle.roster.specs.Listing.{among}

below_test : (s x : ℕ) → ltb x s ≡ (leb 0 x && ltb x s)
below_test s x = grind (arith, nat_tests)

above_test : (s x : ℕ) → x < 256 → ltb s x ≡ (leb (s + 1) x && ltb x 256)
above_test s x h = grind (arith, nat_tests)

pub below_is : (s : ℕ) (ss : List ℕ) → filter (λ x. ltb x s) ss ≡ among 0 s ss
below_is s [] = refl
below_is s (x ∷ ss) = rw (below_is s ss, sym (below_test s x))

pub above_is : (s : ℕ) (ss : List ℕ) → ((i : ℕ) → get_or ss i 0 < 256) → filter (λ x. ltb s x) ss ≡ among (s + 1) 256 ss
above_is s [] low = refl
above_is s (x ∷ ss) low = rw (above_is s ss (λ i. low (suc i)), sym (above_test s x (low 0)))
