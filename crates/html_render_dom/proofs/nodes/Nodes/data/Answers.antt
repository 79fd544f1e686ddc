use Rattle.std.proofs.Common.{sym, ap, ◌∙◌}
use Rattle.html_render_dom.proofs.NodeLemmas.{node_read}
use Rattle.html_render_dom.specs.Nodes.{kind_of}
use Rattle.html_render_dom.proofs.nodes.Nodes.data.Goals as goal

pub returns : goal.returns
returns c = ap kind_of c.data.ensures
    ∙ sym (ap (λ x. x.kind) (node_read _ _ _ c.index.result.now c.index.ensures c.requires))
