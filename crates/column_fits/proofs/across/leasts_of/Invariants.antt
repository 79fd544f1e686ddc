use Rattle.std.proofs.Common.{◌≡◌, map, take}
use Rattle.table_widths.specs.Shares.{least_of}
use Rattle.column_fits.proofs.across.leasts_of.Given as goal

abbrev pub invariant-loop-column : goal.invariant-loop-column
invariant-loop-column l = l.leasts.items ≡ map least_of (take l.column-index l.columns)
