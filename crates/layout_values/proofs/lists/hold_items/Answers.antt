use Rattle.std.proofs.Common.{ap}
use Rattle.layout_state.specs.LayoutState.{in_around}
use Rattle.layout_state.specs.declared.around.Around.TheVariants.{Items}
use Rattle.layout_values.proofs.OpenLemmas.{items_open}
use Rattle.layout_values.proofs.lists.hold_items.Goals as goal

pub returns-clause-opened : goal.returns-clause-opened
returns-clause-opened g c = λ tag p nodes w inside.
    items_open _ w c.args.first c.last.result c.args.items c.args.least c.in_ok-columns.columns inside _ _
    c.last.ensures (c.in_ok-columns.ensures.columns tag)
    (ap (in_around (Items c.args.first c.in_ok-columns.columns c.args.least)) c.in_ok-columns.ensures.stays)
