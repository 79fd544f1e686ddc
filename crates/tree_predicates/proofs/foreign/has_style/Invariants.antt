use Rattle.std.proofs.Common.{◌≡◌, drop}
use Rattle.tree_predicates.specs.Attributes.{has_attribute}
use Rattle.tree_predicates.specs.Foreign.{styles}
use Rattle.tree_predicates.proofs.foreign.has_style.Given as goal

abbrev pub invariant-loop-attribute : goal.invariant-loop-attribute
invariant-loop-attribute l =
    has_attribute styles l.attrs ≡ has_attribute styles (drop l.attribute-index l.attribute-items)
