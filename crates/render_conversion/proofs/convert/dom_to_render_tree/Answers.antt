use Rattle.std.proofs.Common.{vec_len, sym, ◌∙◌}
use Rattle.render_conversion.proofs.DocumentLemmas.{document_read, none_read}
use Rattle.render_conversion.proofs.convert.dom_to_render_tree.Goals as goal

pub returns-clause-tree : goal.returns-clause-tree
returns-clause-tree c =
    document_read c.args.options c.args.rules.now c.args.dom.now.forest c.in_ok-nodes.nodes.items c.new.result
    c.in_ok-nodes.ensures.values c.new.ensures

pub returns-then-is_empty-clause-fail : goal.returns-then-is_empty-clause-fail
returns-then-is_empty-clause-fail c = λ _.
    none_read c.args.options c.args.rules.now c.args.dom.now.forest c.in_ok-nodes.nodes.items
    (vec_len c.in_ok-nodes.nodes)
    c.in_ok-nodes.ensures.values c.in_ok-nodes.nodes.ok.0 (sym c.is_empty.ensures ∙ c.if-is_empty.true)
