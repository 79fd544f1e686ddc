use Rattle.std.proofs.Common.{◌≡◌, ◌+◌, ◌≤◌, length}
use Rattle.render_values.specs.Arena.{IsFlat, values_of}
use Rattle.render_sizes.specs.Extents.{Measure, extents}
use Rattle.render_sizes.proofs.RowLemmas.{IsEmitted}
use Rattle.render_sizes.proofs.tables.row_cells.Given as goal

-- what was emitted, and what the rest still emits
abbrev pub invariant-nodes : goal.invariant-nodes
invariant-nodes l = record {
  flat : IsFlat l.rest;
  size : length l.left ≡ length l.rest;
  room : l.rows + length l.rest ≤ length l.nodes;
  emitted : (m : Measure) → l.sizes ≡ extents m (values_of l.nodes)
      → IsEmitted m l.nodes l.rest l.left l.cells.items l.rows;
}

abbrev pub decreases-nodes : goal.decreases-nodes
decreases-nodes l = length l.rest
