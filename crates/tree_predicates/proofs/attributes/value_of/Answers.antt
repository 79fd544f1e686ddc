use Rattle.std.proofs.Common.{ap, sym, ◌∙◌}
use Rattle.tree_predicates.specs.Attributes.{value_of}
use Rattle.tree_predicates.proofs.AttributeLemmas.{found_value, no_value, other_value}
use Rattle.tree_predicates.proofs.attributes.value_of.Goals as goal

pub loop-attribute-init : goal.loop-attribute-init
loop-attribute-init c = ap (value_of c.args.word.now) (sym c.as_slice-attribute-items.ensures)

pub loop-attribute-preserved : goal.loop-attribute-preserved
loop-attribute-preserved c = c.loop-attribute.invariant ∙ other_value c.as_slice-attribute-items.result.now
    c.loop-attribute.attribute-index _ _ c.attribute-item.is c.loop-attribute-test.true _ c.as_str.ensures
    c.args.word.now c.if-is_word.ensures

pub returns-then-is_word : goal.returns-then-is_word
returns-then-is_word c = found_value c.as_slice-attribute-items.result.now
    c.loop-attribute.attribute-index _ _ c.attribute-item.is c.loop-attribute-test.true _ c.as_str.ensures
    c.args.word.now c.if-is_word.ensures ∙ sym c.loop-attribute.invariant

pub returns : goal.returns
returns c = no_value c.args.word.now c.as_slice-attribute-items.result.now c.loop-attribute.attribute-index
    c.loop-attribute-test.false ∙ sym c.loop-attribute.invariant
