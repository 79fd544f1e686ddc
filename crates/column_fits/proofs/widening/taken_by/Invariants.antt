use Rattle.std.proofs.Common.{◌≡◌, ◌+◌, ◌-◌, ◌*◌, ◌^◌, ◌≤◌, take, sum_by, length}
use Rattle.column_fits.specs.Fits.{high_of, low_of}
use Rattle.column_fits.proofs.widening.taken_by.Given as goal

abbrev pub invariant-loop-column : goal.invariant-loop-column
invariant-loop-column l = record {
  low : l.low ≡ sum_by low_of (take l.column-index l.columns) + (length l.columns - 1);
  high : l.high ≡ sum_by high_of (take l.column-index l.columns) + (length l.columns - 1);
  low_small : l.low ≤ l.column-index * (2 ^ 64 - 1) + (length l.columns - 1);
  high_small : l.high ≤ l.column-index * (2 ^ 64 - 1) + (length l.columns - 1);
}
