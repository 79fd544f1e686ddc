use Rattle.std.proofs.Common.{ℕ, ◌-◌, ◌≤◌}
use Rattle.table_widths.specs.Widths.{filled}
use Rattle.table_widths.proofs.levels.level_of.Given as goal

abbrev pub invariant-loop-low : goal.invariant-loop-low
invariant-loop-low l =
    (l.low ≤ l.high) × (l.room ≤ filled l.high l.columns)
    × ((lower : ℕ) → l.room ≤ filled lower l.columns → l.low ≤ lower)

abbrev pub decreases-loop-low : goal.decreases-loop-low
decreases-loop-low l = l.high - l.low
