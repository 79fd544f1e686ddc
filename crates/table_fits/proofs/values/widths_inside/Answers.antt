use Rattle.table_fits.proofs.FlowLemmas.{none_seen, widths_seen}
use Rattle.table_fits.proofs.values.widths_inside.Goals as goal

pub returns-in-Some : goal.returns-in-Some
returns-in-Some c = λ options items h.
    widths_seen options c.args.flow.now c.in-Some.flow items c.widths.result c.in-Some.is h c.widths.ensures

pub returns-in-None : goal.returns-in-None
returns-in-None c = λ options items h.
    none_seen options c.args.flow.now items c.no_columns.result c.in-None.is h c.no_columns.ensures
