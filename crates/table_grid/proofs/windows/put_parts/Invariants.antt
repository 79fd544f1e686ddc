use Rattle.std.proofs.Common.{◌≡◌, length}
use Rattle.table_grid.specs.Windows.{IsSpread}
use Rattle.table_grid.proofs.windows.put_parts.Given as goal

abbrev pub invariant-loop-part : goal.invariant-loop-part
invariant-loop-part l = record {
  spread : IsSpread l.parts l.small l.width l.part-index l.windows.items;
  same : length l.windows.items ≡ length l.fn.windows.items;
}
