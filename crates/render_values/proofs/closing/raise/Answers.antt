use Rattle.render_values.proofs.RaisingLemmas.{raised_by}
use Rattle.render_values.proofs.closing.raise.Goals as goal

pub returns : goal.returns
returns c =
    raised_by c.args.at c.args.nodes.now.items c.as_slice.result.now c.nodes_after.result.now
    c.truncate.new.self.items c.index_mut.result.now c.to_raised.new.node c.in_ok-raised.raised c.as_slice.ensures.value
    c.nodes_after.ensures c.in_ok-raised.ensures c.truncate.ensures.items c.requires c.index_mut.ensures.value
    c.to_raised.ensures
