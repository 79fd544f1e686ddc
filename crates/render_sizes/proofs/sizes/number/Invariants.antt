use Rattle.std.proofs.Common.{◌≡◌, ◌+◌, length}
use Rattle.render_values.specs.Arena.{IsFlat, values_of}
use Rattle.render_sizes.specs.Extents.{number}
use Rattle.render_sizes.proofs.sizes.number.Given as goal

-- those that were counted, and those that are left
abbrev pub invariant-values : goal.invariant-values
invariant-values l =
    record { flat : IsFlat l.rest; all : l.count + number (values_of l.rest) ≡ number (values_of l.nodes) }

abbrev pub decreases-values : goal.decreases-values
decreases-values l = length l.rest
