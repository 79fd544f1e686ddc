use Rattle.std.proofs.Common.{rules, inl, refl, sym, ap, ap₂, subst, ◌∙◌, ◌∷◌}
use Rattle.tree_formatting.specs.Entries.{entries_of}
use Rattle.tree_forest.specs.Forest.{IsElement, nodes}
use Rattle.tree_model.specs.Building.{Building, seen}
use Rattle.tree_model.specs.Insertions.{inserted_at, inserted_by}
use Rattle.tree_model.specs.Points.{place_of}
use Rattle.tree_model.specs.Sound.{Sound}
use Rattle.tree_model.proofs.InsertedLemmas.{inserted_by_sound, inserted_sound}
use Rattle.tree_model.proofs.SeenLemmas.{seen_is}
use Rattle.html_tree_state.proofs.construction.Construction.insert_element_at.Goals as goal

pub push-requires-clause-element : goal.push-requires-clause-element
push-requires-clause-element g c =
    let tree = g.S.TreeSink in
    let b = seen tree.view c.args.self.now.held c.args.self.now.sink in
    let place = place_of tree.view.number (tree.view.forest c.args.self.now.sink) c.args.point in
    let sound = inserted_sound c.laws_of_forests.ensures place c.args.name c.args.attrs b c.requires.sound
    c.requires.place in
    subst (λ n. IsElement n (tree.view.forest c.put_element.new.self.sink)) (sym c.in_ok-element.ensures.number)
    (subst (λ (x : Building). IsElement (nodes b.forest) x.forest) (sym c.in_ok-element.ensures.seen)
    (sound.elements (nodes b.forest) (inl refl)))

pub push-requires-clause-counted : goal.push-requires-clause-counted
push-requires-clause-counted g c =
    ap (λ (x : Building). x.counted) c.in_ok-element.ensures.seen ∙ c.requires.sound.counted

pub returns-in_ok-push-in-Push-clause-seen : goal.returns-in_ok-push-in-Push-clause-seen
returns-in_ok-push-in-Push-clause-seen g c =
    let tree = g.S.TreeSink in
    let b = seen tree.view c.args.self.now.held c.args.self.now.sink in
    let place = place_of tree.view.number (tree.view.forest c.args.self.now.sink) c.args.point in
    let made = c.in_ok-element.ensures.seen in
    seen_is tree.view c.push.new.self c.put_element.new.self.sink
    (inserted_at place c.args.name c.args.attrs b)
    (c.in_ok-push-in-Push.ensures.open
    ∙ ap₂ (λ n ns. n ∷ ns) c.in_ok-element.ensures.number (ap (λ (x : Building). x.stack) made))
    (ap (entries_of tree.view.number) c.push.ensures.entries ∙ ap (λ (x : Building). x.formatting) made)
    (c.push.ensures.fostering ∙ ap (λ (x : Building). x.fostering) made)
    (ap (λ (x : Building). x.forest) made) (ap (λ (x : Building). x.quirks) made)
    (c.in_ok-push-in-Push.ensures.counted ∙ sym c.requires.sound.counted)
    ∙ ap (λ push. inserted_by push place c.args.name c.args.attrs b) (sym c.in-Push.is)

pub returns-in_ok-push-in-Push-clause-sound : goal.returns-in_ok-push-in-Push-clause-sound
returns-in_ok-push-in-Push-clause-sound g c = subst Sound (sym (returns-in_ok-push-in-Push-clause-seen g c))
    (inserted_by_sound c.laws_of_forests.ensures c.args.push _ c.args.name c.args.attrs _
    c.requires.sound c.requires.place)

pub returns-in-NoPush-clause-seen : goal.returns-in-NoPush-clause-seen
returns-in-NoPush-clause-seen g c = search rules

pub returns-in-NoPush-clause-sound : goal.returns-in-NoPush-clause-sound
returns-in-NoPush-clause-sound g c = subst Sound (sym (returns-in-NoPush-clause-seen g c))
    (inserted_by_sound c.laws_of_forests.ensures c.args.push _ c.args.name c.args.attrs _
    c.requires.sound c.requires.place)
