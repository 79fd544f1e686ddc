use Rattle.render_conversion.proofs.DocumentLemmas.{document_is}
use Rattle.render_conversion.proofs.convert.nodes_of.Goals as goal

pub returns-clause-values : goal.returns-clause-values
returns-clause-values c =
    document_is c.args.options c.args.rules.now c.args.dom.now.forest c.document.result c.push.new.self
    c.new-turns.result
    c.read_all.new.nodes.items c.new-nodes.result.items c.document.ensures.number c.in_ok-push.ensures
    c.new-turns.ensures c.new-nodes.ensures.items c.in_ok-read_all.ensures.all
