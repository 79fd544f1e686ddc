use Rattle.std.proofs.Common.{◌∙◌}
use Rattle.render_values.proofs.ClosingLemmas.{closed_stays}
use Rattle.render_values.proofs.RaisingLemmas.{closed_raised}
use Rattle.render_values.proofs.closing.close.Goals as goal

pub returns-in-Stays : goal.returns-in-Stays
returns-in-Stays c =
    c.hold_rest.ensures
    ∙ closed_stays c.args.opened.at c.args.opened.condition c.args.opened.guarded c.as_slice.result.now
    c.args.nodes.now.items c.as_slice.ensures.value c.requires.flat c.in-Stays.ensures

pub returns-in-Raised : goal.returns-in-Raised
returns-in-Raised c =
    closed_raised c.raise.result c.args.opened.at c.args.opened.condition c.args.opened.guarded c.as_slice.result.now
    c.args.nodes.now.items c.raise.new.nodes.items c.as_slice.ensures.value c.in-Raised.ensures c.raise.ensures
