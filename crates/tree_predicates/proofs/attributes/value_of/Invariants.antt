use Rattle.std.proofs.Common.{◌≡◌, drop}
use Rattle.tree_predicates.specs.Attributes.{value_of}
use Rattle.tree_predicates.proofs.attributes.value_of.Given as goal

abbrev pub invariant-loop-attribute : goal.invariant-loop-attribute
invariant-loop-attribute l = value_of l.word l.attrs ≡ value_of l.word (drop l.attribute-index l.attribute-items)
