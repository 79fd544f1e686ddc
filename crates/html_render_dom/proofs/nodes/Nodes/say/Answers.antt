use Rattle.std.proofs.Common.{is_some, chars, refl, sym, ap, ◌∙◌}
use Rattle.std.proofs.lemmas.Result.{IfOk-weaker}
use Rattle.tree_forest.specs.Changes.{saying}
use Rattle.tree_forest.specs.Forest.{text_of}
use Rattle.html_render_dom.proofs.NodeLemmas.{forest_changed, node_read, node_with}
use Rattle.html_render_dom.proofs.HeldNodes.{same_links}
use Rattle.html_render_dom.specs.Nodes.{links_of, node_in}
use Rattle.html_render_dom.proofs.nodes.Nodes.say.Goals as goal

pub returns-clause-said : goal.returns-clause-said
returns-clause-said c = IfOk-weaker c.say.result _ _
    (λ is said yes. forest_changed (saying (chars c.args.words.now)) _ _ c.index_mut.result.now _
    c.index_mut.ensures.value c.requires
    (ap (λ k. node_with k (node_in (links_of c.args.self.now).next c.index_mut.result.now).children) (said yes))
    (same_links _ _ c.index_mut.result.now _ c.index_mut.ensures.value refl refl refl refl refl))
    c.say.ensures.said

pub returns-clause-is_text : goal.returns-clause-is_text
returns-clause-is_text c = IfOk-weaker c.say.result _ _
    (λ is so. so ∙ sym (ap (λ x. is_some (text_of x.kind))
    (node_read _ _ _ c.index_mut.result.now c.index_mut.ensures.value c.requires)))
    c.say.ensures.is_text

pub returns-clause-links : goal.returns-clause-links
returns-clause-links c = same_links _ _ c.index_mut.result.now _ c.index_mut.ensures.value refl refl refl refl refl
