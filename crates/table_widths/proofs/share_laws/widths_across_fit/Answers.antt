use Rattle.table_widths.proofs.ShareAcrossLemmas.{across_fit}
use Rattle.table_widths.proofs.share_laws.widths_across_fit.Goals as goal

pub returns : goal.returns
returns c = λ columns width.
    across_fit c.columns_have_widths.ensures c.widths_fit_the_width.ensures.within columns width
