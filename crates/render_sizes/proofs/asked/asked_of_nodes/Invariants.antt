use Rattle.std.proofs.Common.{◌≡◌, ◌++◌, length}
use Rattle.render_values.specs.Arena.{IsFlat, values_of}
use Rattle.render_sizes.specs.Asked.{asked_extents}
use Rattle.render_sizes.specs.Extents.{measure_of}
use Rattle.render_sizes.proofs.asked.asked_of_nodes.Given as goal

-- what was asked, and what is still to be asked
abbrev pub invariant-nodes : goal.invariant-nodes
invariant-nodes g l = record {
  flat : IsFlat l.rest;
  asked : l.all.items
      ++ asked_extents (measure_of l.fn.min_wrap (g.P.Prefixes.columns l.fn.prefixes)) (values_of l.rest)
      ≡ asked_extents (measure_of l.fn.min_wrap (g.P.Prefixes.columns l.fn.prefixes)) (values_of l.nodes);
}

abbrev pub decreases-nodes : goal.decreases-nodes
decreases-nodes g l = length l.rest
