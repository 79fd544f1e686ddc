use Rattle.std.proofs.Common.{drop, [], ◌+◌}
use Rattle.std.proofs.lemmas.List.{at_drop_all}
use Rattle.tree_serializer.specs.Escapes.{attribute_text, attributes_text}
use Rattle.tree_serializer.proofs.GrowthLemmas.{all_grown, grows_none, more_grown, nothing_grown, on_err, part_grown}
use Rattle.tree_serializer.proofs.TagLemmas.{attributes-step}
use Rattle.tree_serializer.proofs.tags.write_attributes.Goals as goal

pub attributes-init : goal.attributes-init
attributes-init g c = nothing_grown _ _ _

pub attributes-preserved : goal.attributes-preserved
attributes-preserved g c =
    more_grown (attribute_text c.attribute-item.result)
    (attributes_text (drop (c.attributes.attribute-index + 1) c.args.attributes.now)) c.attributes.invariant
    c.in_ok-write_attribute.ensures.ok
    (attributes-step c.args.attributes.now c.attributes.attribute-index c.attribute-item.result
    c.attributes-test.true c.attribute-item.is)
    c.in_ok-write_attribute.ensures.stays

pub returns-in_err-write_attribute-clause-part : goal.returns-in_err-write_attribute-clause-part
returns-in_err-write_attribute-clause-part g c = on_err _ c.from_residual.ensures.0
    (part_grown (attribute_text c.attribute-item.result)
    (attributes_text (drop (c.attributes.attribute-index + 1) c.args.attributes.now)) c.attributes.invariant
    c.in_err-write_attribute.ensures.part
    (attributes-step c.args.attributes.now c.attributes.attribute-index c.attribute-item.result
    c.attributes-test.true c.attribute-item.is))

pub returns-clause-ok : goal.returns-clause-ok
returns-clause-ok g c =
    all_grown [] c.attributes.invariant
    (at_drop_all attributes_text c.args.attributes.now c.attributes.attribute-index c.attributes-test.false)
    (grows_none _)
