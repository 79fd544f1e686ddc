use Rattle.table_widths.proofs.WidthLemmas.{have_widths}
use Rattle.table_widths.proofs.width_laws.columns_have_widths.Goals as goal

pub returns : goal.returns
returns c = λ columns width fit. have_widths columns width fit
