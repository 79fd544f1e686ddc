use Rattle.std.proofs.Common.{◌≡◌, ◌≤◌, ◌-◌, ◌^◌, length}
use Rattle.render_values.specs.Arena.{IsFlat, values_of}
use Rattle.render_sizes.specs.Extents.{beside, extent, extents, measure_of}
use Rattle.render_sizes.proofs.sizes.together.Given as goal

-- what was passed beside what is left is all
abbrev pub invariant-values : goal.invariant-values
invariant-values g l = record {
  flat : IsFlat l.rest;
  same : l.left ≡ extents (measure_of l.fn.min_wrap (g.P.Prefixes.columns l.fn.prefixes)) (values_of l.rest);
  sum : beside l.sum (extent (measure_of l.fn.min_wrap (g.P.Prefixes.columns l.fn.prefixes)) (values_of l.rest))
      ≡ extent (measure_of l.fn.min_wrap (g.P.Prefixes.columns l.fn.prefixes)) (values_of l.nodes);
  fits : l.sum.size ≤ 2 ^ 64 - 1;
}

abbrev pub decreases-values : goal.decreases-values
decreases-values g l = length l.rest
