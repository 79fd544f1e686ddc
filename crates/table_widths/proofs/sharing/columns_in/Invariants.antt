use Rattle.std.proofs.Common.{◌≡◌, take}
use Rattle.table_widths.specs.Widths.{columns_of}
use Rattle.table_widths.proofs.sharing.columns_in.Given as goal

abbrev pub invariant-loop-i : goal.invariant-loop-i
invariant-loop-i l = l.columns.items ≡ columns_of (take l.i l.least) (take l.i l.shares)
