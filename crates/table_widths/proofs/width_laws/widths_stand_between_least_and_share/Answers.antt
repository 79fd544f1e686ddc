use Rattle.table_widths.proofs.TotalLemmas.{bounds_law}
use Rattle.table_widths.proofs.width_laws.widths_stand_between_least_and_share.Goals as goal

pub returns : goal.returns
returns c = λ columns width widths within are i lt. bounds_law columns width widths within are i lt
