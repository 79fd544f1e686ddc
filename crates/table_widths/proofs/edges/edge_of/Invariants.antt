use Rattle.std.proofs.Common.{ℕ, ◌-◌, ◌≤◌}
use Rattle.table_widths.specs.Widths.{wider}
use Rattle.table_widths.proofs.edges.edge_of.Given as goal

abbrev pub invariant-loop-low : goal.invariant-loop-low
invariant-loop-low l =
    (l.low ≤ l.high) × (wider l.level l.high l.columns ≤ l.less)
    × ((lower : ℕ) → wider l.level lower l.columns ≤ l.less → l.low ≤ lower)

abbrev pub decreases-loop-low : goal.decreases-loop-low
decreases-loop-low l = l.high - l.low
