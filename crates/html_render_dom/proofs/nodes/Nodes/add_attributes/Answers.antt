use Rattle.std.proofs.Common.{refl, ap}
use Rattle.std.proofs.lemmas.Result.{on_ok_weaker}
use Rattle.html_render_dom.proofs.NodeLemmas.{adding, forest_changed, node_with}
use Rattle.html_render_dom.proofs.HeldNodes.{same_links}
use Rattle.html_render_dom.specs.Nodes.{links_of, node_in}
use Rattle.html_render_dom.proofs.nodes.Nodes.add_attributes.Goals as goal

pub returns-clause-forest : goal.returns-clause-forest
returns-clause-forest c = on_ok_weaker c.add_attributes.result
    (λ added. forest_changed (adding c.args.more) _ _ c.index_mut.result.now _ c.index_mut.ensures.value c.requires
    (ap (λ k. node_with k (node_in (links_of c.args.self.now).next c.index_mut.result.now).children) added)
    (same_links _ _ c.index_mut.result.now _ c.index_mut.ensures.value refl refl refl refl refl))
    c.add_attributes.ensures.added

pub returns-clause-links : goal.returns-clause-links
returns-clause-links c = same_links _ _ c.index_mut.result.now _ c.index_mut.ensures.value refl refl refl refl refl
