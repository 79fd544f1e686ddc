use Rattle.std.proofs.Common.{◌≡◌, inl, sym, ap, ◌∙◌, subst, Some, length, ◌<◌}
use Rattle.tree_forest.specs.Changes.{reparented}
use Rattle.tree_forest.specs.Orders.{IsIn}
use Rattle.html_render_dom.specs.Siblings.{given, holder, spot_of}
use Rattle.html_render_dom.specs.Nodes.{forest_of, links_of}
use Rattle.html_render_dom.proofs.HeldForests.{children_chain, children_followed, children_held, first_held}
use Rattle.html_render_dom.proofs.HeldForests.{given_facts, given_held, last_held, no_first, none_given, starts_with}
use Rattle.std.specs.Prelude.{option_map}
use Rattle.html_render_dom.specs.Numbers.{number_of}
use Rattle.html_render_dom.proofs.nodes.Nodes.reparent.Goals as goal

pub link_children-requires-clause-followed : goal.link_children-requires-clause-followed
link_children-requires-clause-followed c = children_followed c.args.self.now (number_of c.args.from)
    (Some (number_of c.in-Some.first))
    c.requires.linked c.in-Some.ensures

pub link_children-requires-clause-within : goal.link_children-requires-clause-within
link_children-requires-clause-within c = λ n i. children_held c.args.self.now (number_of c.args.from) n
    (Some (number_of c.in-Some.first))
    c.requires.linked c.in-Some.ensures i

pub give-requires-clause-before : goal.give-requires-clause-before
give-requires-clause-before c =
    subst (λ ks. holder (spot_of (number_of c.args.to) (option_map number_of c.child_before-before.result)) < length
    ks) (sym c.link_children.ensures.kinds)
    (last_held c.args.self.now (number_of c.args.to) (option_map number_of c.child_before-before.result)
    c.requires.linked c.requires.can.holds
    c.child_before-before.ensures)

pub give-requires-clause-first : goal.give-requires-clause-first
give-requires-clause-first c = subst (λ ks. (number_of c.in-Some.first) < length ks) (sym c.link_children.ensures.kinds)
    (first_held c.args.self.now (number_of c.args.from) (number_of c.in-Some.first) c.requires.linked c.in-Some.ensures)

pub returns-in_default-clause-forest : goal.returns-in_default-clause-forest
returns-in_default-clause-forest c =
    let f = forest_of c.args.self.now in
    let from = (number_of c.args.from) in
    let to = (number_of c.args.to) in
    let apart : ¬ (from ≡ to) = λ e. c.requires.can.apart (inl e) in
    none_given f from to (no_first c.args.self.now from c.requires.linked c.in_default.ensures) apart
    (c.where_children_stand.ensures.given from to f c.requires.can.holds apart)
    (c.where_children_stand.ensures.none_left from to f apart)
    (λ q off other. c.what_was_not_named_stays.ensures.reparented_children from to q f off other)
    (c.how_many_nodes_there_are.ensures.reparented from to f)
    (λ m. c.what_was_not_named_stays.ensures.reparented_kinds from to m f)

pub returns-in-Some-clause-forest : goal.returns-in-Some-clause-forest
returns-in-Some-clause-forest c =
    let held = c.args.self.now in
    let f = forest_of held in
    let from = (number_of c.args.from) in
    let to = (number_of c.args.to) in
    let linked = c.requires.linked in
    let apart : ¬ (from ≡ to) = λ e. c.requires.can.apart (inl e) in
    let starts = starts_with held from (number_of c.in-Some.first) linked c.in-Some.ensures in
    let whole = children_chain held from (Some (number_of c.in-Some.first)) linked c.in-Some.ensures ∙ starts.whole in
    (given_held held c.give.new.self from to (number_of c.in-Some.first) starts.rest
    (option_map number_of c.child_before-before.result) (option_map number_of c.child_before-last.result)
    (links_of c.link_children.new.self).parent (reparented from to f) linked c.requires.can.given c.requires.can.holds
    (given_facts f from to (number_of c.in-Some.first) starts.rest starts.whole apart
    (c.where_children_stand.ensures.given from to f c.requires.can.holds apart)
    (c.where_children_stand.ensures.none_left from to f apart)
    (λ q off other. c.what_was_not_named_stays.ensures.reparented_children from to q f off other)
    (c.how_many_nodes_there_are.ensures.reparented from to f))
    (c.reparenting_keeps_a_forest.ensures from to f linked.forest c.requires.can)
    (λ m. c.what_was_not_named_stays.ensures.reparented_kinds from to m f)
    (c.give.ensures.kinds ∙ c.link_children.ensures.kinds) c.child_before-before.ensures c.child_before-last.ensures
    c.link_children.ensures.counted
    (λ n i. c.link_children.ensures.children n (subst (IsIn n) (sym whole) i))
    (λ n off. c.link_children.ensures.others n (λ i. off (subst (IsIn n) whole i)))
    (c.give.ensures.links ∙ ap (given from to (spot_of to (option_map number_of c.child_before-before.result))
    (number_of c.in-Some.first) (option_map number_of c.child_before-last.result))
    c.link_children.ensures.links)).0

pub returns-in-Some-clause-linked : goal.returns-in-Some-clause-linked
returns-in-Some-clause-linked c =
    let held = c.args.self.now in
    let f = forest_of held in
    let from = (number_of c.args.from) in
    let to = (number_of c.args.to) in
    let linked = c.requires.linked in
    let apart : ¬ (from ≡ to) = λ e. c.requires.can.apart (inl e) in
    let starts = starts_with held from (number_of c.in-Some.first) linked c.in-Some.ensures in
    let whole = children_chain held from (Some (number_of c.in-Some.first)) linked c.in-Some.ensures ∙ starts.whole in
    (given_held held c.give.new.self from to (number_of c.in-Some.first) starts.rest
    (option_map number_of c.child_before-before.result) (option_map number_of c.child_before-last.result)
    (links_of c.link_children.new.self).parent (reparented from to f) linked c.requires.can.given c.requires.can.holds
    (given_facts f from to (number_of c.in-Some.first) starts.rest starts.whole apart
    (c.where_children_stand.ensures.given from to f c.requires.can.holds apart)
    (c.where_children_stand.ensures.none_left from to f apart)
    (λ q off other. c.what_was_not_named_stays.ensures.reparented_children from to q f off other)
    (c.how_many_nodes_there_are.ensures.reparented from to f))
    (c.reparenting_keeps_a_forest.ensures from to f linked.forest c.requires.can)
    (λ m. c.what_was_not_named_stays.ensures.reparented_kinds from to m f)
    (c.give.ensures.kinds ∙ c.link_children.ensures.kinds) c.child_before-before.ensures c.child_before-last.ensures
    c.link_children.ensures.counted
    (λ n i. c.link_children.ensures.children n (subst (IsIn n) (sym whole) i))
    (λ n off. c.link_children.ensures.others n (λ i. off (subst (IsIn n) whole i)))
    (c.give.ensures.links ∙ ap (given from to (spot_of to (option_map number_of c.child_before-before.result))
    (number_of c.in-Some.first) (option_map number_of c.child_before-last.result))
    c.link_children.ensures.links)).1
