-- Bounds for the oldest ticks of sessions. Assumes nothing.
use Rattle.std.specs.Prelude.{◌≡◌, ℕ, ◌/◌, ◌≤◌, List, length, slice_index, slice_index_or}

-- no bound is later than before, and that of the slot's group is no later than the tick
pub record Lowered (slot tick : ℕ) (was after : List ℕ) : Type 0 where
  pub long : length after ≡ length was
  pub none : (g : ℕ) → slice_index after g ≤ slice_index was g
  pub here : slice_index_or after (slot / 16) 0 ≤ tick
