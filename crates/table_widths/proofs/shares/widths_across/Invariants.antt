use Rattle.std.proofs.Common.{◌≡◌, take, map}
use Rattle.table_widths.specs.Shares.{least_of, share_of}
use Rattle.table_widths.proofs.shares.widths_across.Given as goal

abbrev pub invariant-loop-column : goal.invariant-loop-column
invariant-loop-column l = record {
  leasts : l.leasts.items ≡ map least_of (take l.column-index l.columns);
  shares : l.shares.items ≡ map (share_of l.width l.total) (take l.column-index l.columns);
}
