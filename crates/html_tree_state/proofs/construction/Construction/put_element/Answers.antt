use Rattle.std.proofs.Common.{◌≡◌, codes, sym, ap, subst, ◌∙◌}
use Rattle.tree_forest.specs.Orders.{IsForest}
use Rattle.tree_model.specs.Building.{Building, seen}
use Rattle.tree_model.specs.Points.{place_of}
use Rattle.tree_model.specs.Insertions.{with_element}
use Rattle.tree_model.proofs.CountsKept.{element_kept}
use Rattle.tree_model.proofs.SeenLemmas.{seen_changed}
use Rattle.tree_names.specs.Sets.{is_html}
use Rattle.tree_predicates.specs.Attributes.{is_html_annotation}
use Rattle.tree_model.proofs.InsertedLemmas.{can_put_new, put_new, with_element_sound}
use Rattle.html_tree_state.proofs.construction.Construction.put_element.Goals as goal

pub insert_at-requires : goal.insert_at-requires
insert_at-requires g c =
    can_put_new c.laws_of_forests.ensures g.S.TreeSink.view.number c.args.point
    (g.S.TreeSink.view.number c.in_ok-element.element) _ _ _ _ _ _ c.in_ok-element.ensures.forest
    c.in_ok-element.ensures.number c.requires.sound.forest c.requires.place

pub returns-clause-seen : goal.returns-clause-seen
returns-clause-seen g c =
    let tree = g.S.TreeSink in
    let b = seen tree.view c.args.self.now.held c.args.self.now.sink in
    let forest = put_new g.S.TreeSink.view.number c.args.point (g.S.TreeSink.view.number c.in_ok-element.element) _ _ _
    _ _ _ _
    c.in_ok-insert_at.ensures.forest c.in_ok-element.ensures.forest c.in_ok-element.ensures.number in
    let place = place_of tree.view.number (tree.view.forest c.args.self.now.sink) c.args.point in
    let with_flags : tree.view.forest c.insert_at.new.self.sink ≡ (with_element place c.args.name c.args.attrs
    b).forest =
    cc (forest, c.element_flags-flags.ensures.template, c.element_flags-flags.ensures.point) in
    seen_changed tree.view c.args.self.now.held c.insert_at.new.self.held
    c.args.self.now.sink c.insert_at.new.self.sink _ c.insert_at.ensures.held with_flags
    (c.insert_at.ensures.quirks ∙ c.create_element.ensures.quirks)
    (element_kept c.laws_of_forests.ensures c.args.self.now.held.counts b c.requires.sound place c.args.name
    c.args.attrs (is_html (codes "template") c.args.name) (is_html_annotation c.args.name c.args.attrs))

pub returns-clause-forest : goal.returns-clause-forest
returns-clause-forest g c =
    let sound = with_element_sound c.laws_of_forests.ensures _ c.args.name c.args.attrs _ c.requires.sound
    c.requires.place in
    subst IsForest (sym (ap (λ (b : Building). b.forest) (returns-clause-seen g c))) sound.forest
