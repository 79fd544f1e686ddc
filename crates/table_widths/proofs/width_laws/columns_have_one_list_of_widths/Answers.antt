use Rattle.table_widths.proofs.OneLemmas.{one_list}
use Rattle.table_widths.proofs.width_laws.columns_have_one_list_of_widths.Goals as goal

pub returns : goal.returns
returns c = λ columns width first second one other. one_list columns width first second one other
