-- A clock: ticks since it began, which are added and never wrap. Assumes nothing.
use Rattle.std.specs.Prelude.{◌≡◌, ℕ, ◌+◌, ◌^◌, ◌<◌, ◌≤◌, true, List, ◌∷◌, length, is_some, Some, None, sum, Option}
use Rattle.std.specs.List.{AllByRecursion}
use Rattle.sessions.specs.declared.clock.Clock.{Clock}

abbrev pub ticks_of : Clock → ℕ
ticks_of c = c.ticks

-- count ticks later; none only where 64 bits do not hold the sum
abbrev pub Advanced : ℕ → ℕ → Option Clock → Type 0
Advanced was count None = 2 ^ 64 ≤ was + count
Advanced was count (Some c) = ticks_of c ≡ was + count

-- the first 2^32 counts of ticks are all added, each having 32 bits
abbrev pub Lasting : Type 0
Lasting = (counts : List ℕ) (n : ℕ) (r : Option Clock) → AllByRecursion (λ m. m < 2 ^ 32) (n ∷ counts) → length (n ∷ counts) ≤ 2 ^ 32 → Advanced (sum counts) n r → is_some r ≡ true
