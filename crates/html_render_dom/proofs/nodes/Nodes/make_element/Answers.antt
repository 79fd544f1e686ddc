use Rattle.std.proofs.Common.{option_map}
use Rattle.tree_forest.specs.Changes.{made_element}
use Rattle.html_render_dom.specs.Nodes.{forest_of}
use Rattle.html_render_dom.specs.Numbers.{number_of}
use Rattle.html_render_dom.proofs.HeldForests.{element_held, template_held}
use Rattle.html_render_dom.proofs.LinkedNodes.{element_kind, plain_made, template_made}
use Rattle.html_render_dom.proofs.nodes.Nodes.make_element.Goals as goal

pub returns-in_ok-push_template-clause-forest : goal.returns-in_ok-push_template-clause-forest
returns-in_ok-push_template-clause-forest c =
    let name = c.args.name in
    let attrs = c.args.attrs in
    let template = c.args.flags.template in
    let point = c.args.flags.mathml_annotation_xml_integration_point in
    let f = forest_of c.args.self.now in
    let linked = c.requires.linked in
    let contents = option_map number_of c.in_ok-contents.contents in
    (template_held c.args.self.now c.push_template.new.self (element_kind name attrs point contents)
    (made_element name attrs template point f) linked
    (template_made name attrs template point contents f c.in_ok-contents.ensures c.if-flags.true)
    (c.making_keeps_a_forest.ensures.element name attrs template point f linked.forest)
    c.how_many_nodes_there_are.ensures.made c.where_children_stand.ensures.made
    c.in_ok-push_template.ensures.kinds c.in_ok-push_template.ensures.links).0

pub returns-in_ok-push-clause-forest : goal.returns-in_ok-push-clause-forest
returns-in_ok-push-clause-forest c =
    let name = c.args.name in
    let attrs = c.args.attrs in
    let template = c.args.flags.template in
    let point = c.args.flags.mathml_annotation_xml_integration_point in
    let f = forest_of c.args.self.now in
    let linked = c.requires.linked in
    let contents = option_map number_of c.in_ok-contents.contents in
    (element_held c.args.self.now c.push.new.self (element_kind name attrs point contents)
    (made_element name attrs template point f) linked
    (plain_made name attrs template point contents f c.in_ok-contents.ensures c.if-flags.false)
    (c.making_keeps_a_forest.ensures.element name attrs template point f linked.forest)
    (c.how_many_nodes_there_are.ensures.made (element_kind name attrs point contents) f)
    (λ q. c.where_children_stand.ensures.made (element_kind name attrs point contents) q f)
    c.in_ok-push.ensures.kinds c.in_ok-push.ensures.links).0

pub returns-in_ok-push_template-clause-linked : goal.returns-in_ok-push_template-clause-linked
returns-in_ok-push_template-clause-linked c =
    let name = c.args.name in
    let attrs = c.args.attrs in
    let template = c.args.flags.template in
    let point = c.args.flags.mathml_annotation_xml_integration_point in
    let f = forest_of c.args.self.now in
    let linked = c.requires.linked in
    let contents = option_map number_of c.in_ok-contents.contents in
    (template_held c.args.self.now c.push_template.new.self (element_kind name attrs point contents)
    (made_element name attrs template point f) linked
    (template_made name attrs template point contents f c.in_ok-contents.ensures c.if-flags.true)
    (c.making_keeps_a_forest.ensures.element name attrs template point f linked.forest)
    c.how_many_nodes_there_are.ensures.made c.where_children_stand.ensures.made
    c.in_ok-push_template.ensures.kinds c.in_ok-push_template.ensures.links).1

pub returns-in_ok-push-clause-linked : goal.returns-in_ok-push-clause-linked
returns-in_ok-push-clause-linked c =
    let name = c.args.name in
    let attrs = c.args.attrs in
    let template = c.args.flags.template in
    let point = c.args.flags.mathml_annotation_xml_integration_point in
    let f = forest_of c.args.self.now in
    let linked = c.requires.linked in
    let contents = option_map number_of c.in_ok-contents.contents in
    (element_held c.args.self.now c.push.new.self (element_kind name attrs point contents)
    (made_element name attrs template point f) linked
    (plain_made name attrs template point contents f c.in_ok-contents.ensures c.if-flags.false)
    (c.making_keeps_a_forest.ensures.element name attrs template point f linked.forest)
    (c.how_many_nodes_there_are.ensures.made (element_kind name attrs point contents) f)
    (λ q. c.where_children_stand.ensures.made (element_kind name attrs point contents) q f)
    c.in_ok-push.ensures.kinds c.in_ok-push.ensures.links).1
