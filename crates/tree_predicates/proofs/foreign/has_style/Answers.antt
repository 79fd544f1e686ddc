use Rattle.std.proofs.Common.{ap, sym, ◌∙◌}
use Rattle.tree_predicates.specs.Attributes.{has_attribute}
use Rattle.tree_predicates.specs.Foreign.{styles}
use Rattle.tree_predicates.proofs.AttributeLemmas.{found_attribute, no_attribute, other_attribute}
use Rattle.tree_predicates.proofs.foreign.has_style.Goals as goal

pub loop-attribute-init : goal.loop-attribute-init
loop-attribute-init c = ap (has_attribute styles) (sym c.as_slice-attribute-items.ensures)

pub loop-attribute-preserved : goal.loop-attribute-preserved
loop-attribute-preserved c = c.loop-attribute.invariant ∙ other_attribute c.as_slice-attribute-items.result.now
    c.loop-attribute.attribute-index _ _ c.attribute-item.is c.loop-attribute-test.true _ c.as_str.ensures
    styles c.if-is_style.ensures

pub returns-then-is_style : goal.returns-then-is_style
returns-then-is_style c = found_attribute c.as_slice-attribute-items.result.now
    c.loop-attribute.attribute-index _ _ c.attribute-item.is c.loop-attribute-test.true _ c.as_str.ensures
    styles c.if-is_style.ensures ∙ sym c.loop-attribute.invariant

pub returns : goal.returns
returns c = no_attribute styles c.as_slice-attribute-items.result.now c.loop-attribute.attribute-index
    c.loop-attribute-test.false ∙ sym c.loop-attribute.invariant
