use Rattle.std.proofs.Common.{◌≡◌, map, take}
use Rattle.table_widths.specs.Widths.{share_of}
use Rattle.table_widths.proofs.sharing.shares_of.Given as goal

abbrev pub invariant-loop-column : goal.invariant-loop-column
invariant-loop-column l = l.widths.items ≡ map share_of (take l.column-index l.columns)
