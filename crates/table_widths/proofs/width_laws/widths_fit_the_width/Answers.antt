use Rattle.table_widths.proofs.TotalLemmas.{fit_law, sum_law}
use Rattle.table_widths.proofs.width_laws.widths_fit_the_width.Goals as goal

pub returns-clause-within : goal.returns-clause-within
returns-clause-within c = λ columns width widths fit are. fit_law columns width widths fit are

pub returns-clause-filled : goal.returns-clause-filled
returns-clause-filled c = λ columns width widths fit are over. sum_law columns width widths fit are over
