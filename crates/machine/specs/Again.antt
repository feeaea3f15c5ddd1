-- When something that is not answered is said again. Assumes nothing.
use Rattle.std.specs.Prelude.{◌≡◌, ℕ, ◌+◌, ◌%◌, ◌<◌, Bool, ◌||◌, nat_le}

-- sixteen ticks have passed since it was last said
abbrev pub is_due : ℕ → ℕ → Bool
is_due ticks age = nat_le 16 (age + ticks)

-- the ticks since it was last said, or would have been
abbrev pub aged : ℕ → ℕ → ℕ
aged ticks age = (age + ticks) % 16

-- m ticks and then n ticks are m + n ticks
abbrev pub StepsAdd : Type 0
StepsAdd = (m n age : ℕ) → (age < 16) → (aged (m + n) age ≡ aged n (aged m age)) × (is_due (m + n) age ≡ (is_due m age || is_due n (aged m age)))
