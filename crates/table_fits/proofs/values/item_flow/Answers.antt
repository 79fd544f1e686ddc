use Rattle.std.proofs.Common.{◌∙◌, [], sym}
use Rattle.std.specs.Prelude.{Some}
use Rattle.table_fits.proofs.values.item_flow.Goals as goal

pub returns : goal.returns
returns g c = λ w within p h. c.in_ok-stand.ensures c.args.options.now w (Some []) within p
    (sym c.is_along.ensures
    ∙ c.if-is_along.false) (c.widths.ensures c.args.options.now.wrap_width within h) c.new.ensures
