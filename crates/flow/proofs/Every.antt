-- A test that antt computes at each number below n. Assumes nothing.
use Rattle.std.proofs.Common.{ℕ, zero, suc, ◌<◌, Bool, true, ◌&&◌, Decides, refl}
use Rattle.std.proofs.lemmas.Bool.Decides.{Decides-below_and}

-- the test p at each number below n
unfoldable pub every : (ℕ → Bool) → ℕ → Bool
every p zero = true
every p (suc n) = p n && every p n

pub below : (p : ℕ → Bool) (P : ℕ → Type 0) → ((k : ℕ) → Decides (p k) (P k)) → (n : ℕ) → Decides (every p n) ((k : ℕ) → k < n → P k)
unfolding every
below p P each n = Decides-below_and p P (every p) each refl (λ _. refl) n
