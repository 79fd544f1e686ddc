use Rattle.std.proofs.Common.{◌≡◌, ◌≤◌, drop, length}
use Rattle.render_values.specs.Arena.{values_of}
use Rattle.render_sizes.specs.Extents.{extents, measure_of}
use Rattle.render_sizes.proofs.sizes.all_extents.Given as goal

-- from a place on each is measured
abbrev pub invariant-nodes : goal.invariant-nodes
invariant-nodes g l = record {
  same : drop l.at l.all.items
      ≡ extents (measure_of l.min_wrap (g.P.Prefixes.columns l.prefixes)) (values_of (drop l.at l.nodes));
  size : length l.all.items ≡ length l.nodes;
  within : l.at ≤ length l.nodes;
}

abbrev pub decreases-nodes : goal.decreases-nodes
decreases-nodes g l = l.at
