use Rattle.std.proofs.Common.{ap, chars, refl, sym, subst, ◌∙◌}
use Rattle.std.proofs.lemmas.Str.{chars-nil}
use Rattle.tree_model.specs.Building.{seen}
use Rattle.tree_model.specs.Insertions.{text_or_none}
use Rattle.tree_model.specs.Sound.{Sound}
use Rattle.tree_model.proofs.CountsKept.{doctype_kept}
use Rattle.tree_model.proofs.SeenLemmas.{seen_changed}
use Rattle.tree_model.proofs.InsertedLemmas.{doctype_is, doctyped_sound}
use Rattle.html_tree_state.proofs.construction.Construction.append_doctype_to_document.Goals as goal

pub returns-clause-seen : goal.returns-clause-seen
returns-clause-seen g c =
    let tree = g.S.TreeSink in
    let d = c.args.doctype in
    let b = seen tree.view c.args.self.now.held c.args.self.now.sink in
    let name = c.unwrap_or-name.result in
    let public_id = c.unwrap_or-public_id.result in
    let system_id = c.unwrap_or-system_id.result in
    seen_changed tree.view c.args.self.now.held c.args.self.now.held c.args.self.now.sink
    c.append_doctype_to_document.new.self _ refl
    (c.in_ok-append_doctype_to_document.ensures.forest
    ∙ doctype_is d name public_id system_id c.from.result c.from-2.result c.from-3.result b.forest
    c.unwrap_or-name.ensures c.unwrap_or-public_id.ensures c.unwrap_or-system_id.ensures
    (c.from.ensures ∙ ap chars c.new.ensures.bytes ∙ chars-nil)
    (c.from-2.ensures ∙ ap chars c.new-2.ensures.bytes ∙ chars-nil)
    (c.from-3.ensures ∙ ap chars c.new-3.ensures.bytes ∙ chars-nil))
    c.append_doctype_to_document.ensures.quirks
    (doctype_kept c.laws_of_forests.ensures c.args.self.now.held.counts b c.requires
    (text_or_none d.name) (text_or_none d.public_id) (text_or_none d.system_id))

pub returns-clause-sound : goal.returns-clause-sound
returns-clause-sound g c = subst Sound (sym (returns-clause-seen g c))
    (doctyped_sound c.laws_of_forests.ensures c.args.doctype _ c.requires)

pub returns-clause-forest : goal.returns-clause-forest
returns-clause-forest g c = (returns-clause-sound g c).forest
