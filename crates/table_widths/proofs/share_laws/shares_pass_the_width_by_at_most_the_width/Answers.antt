use Rattle.table_widths.proofs.ShareLemmas.{shares_bounded}
use Rattle.table_widths.proofs.share_laws.shares_pass_the_width_by_at_most_the_width.Goals as goal

pub returns : goal.returns
returns c = λ columns width some sized fit. shares_bounded columns width some sized fit
