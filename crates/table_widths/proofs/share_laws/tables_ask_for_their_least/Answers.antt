use Rattle.table_widths.proofs.ShareLemmas.{table_within}
use Rattle.table_widths.proofs.share_laws.tables_ask_for_their_least.Goals as goal

pub returns : goal.returns
returns c = λ columns within. table_within columns within
