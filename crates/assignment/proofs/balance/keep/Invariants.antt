-- The invariant of the loop that keeps.
use Rattle.std.proofs.Common.{◌≡◌, ◌++◌, take, drop}
use Rattle.assignment.specs.Numbers.{kept_by, left_by}
use Rattle.assignment.proofs.balance.keep.Given as goal

-- what is done, and what is left, give the whole
abbrev pub invariant-loop-entry : goal.invariant-loop-entry
invariant-loop-entry l =
    (take l.entry-index l.assignment ++ kept_by (drop l.entry-index l.assignment) l.quota ≡ kept_by l.initial.assignment l.initial.quota)
    × (left_by (drop l.entry-index l.assignment) l.quota ≡ left_by l.initial.assignment l.initial.quota)
