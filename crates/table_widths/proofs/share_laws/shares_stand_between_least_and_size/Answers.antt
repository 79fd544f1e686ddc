use Rattle.table_widths.proofs.ShareLemmas.{share_between}
use Rattle.table_widths.proofs.share_laws.shares_stand_between_least_and_size.Goals as goal

pub returns : goal.returns
returns c = λ columns width column within. share_between columns width column within
