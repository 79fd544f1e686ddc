use Rattle.html_render_dom.proofs.NamesLemmas.{front_named, no_names}
use Rattle.html_render_dom.proofs.names.names_of.Goals as goal

pub loop-attribute-init : goal.loop-attribute-init
loop-attribute-init c = no_names c.new-names.result c.new-names.ensures.empty

pub loop-attribute-preserved : goal.loop-attribute-preserved
loop-attribute-preserved c =
    front_named c.equal_names_are_the_same.ensures.qualified_name c.loop-attribute.names c.insert.new.self
    c.args.attributes.now c.loop-attribute.attribute-index c.attribute-item.result c.loop-attribute-test.true
    c.attribute-item.is c.loop-attribute.invariant
    (rw c.in_ok-try_clone.ensures at c.in_ok-insert.ensures.updates)
