use Rattle.text_preserved.proofs.LayingRetagged.{lines_retagged, lines_wait_retagged, too_wide_retagged}
use Rattle.text_preserved.proofs.laws.preserved_lines_heed_no_tags.Goals as goal

pub returns-clause-lines : goal.returns-clause-lines
returns-clause-lines g c = λ f width wraps line. lines_retagged f width wraps line

pub returns-clause-waiting : goal.returns-clause-waiting
returns-clause-waiting g c = λ f width wraps line. lines_wait_retagged f width wraps line

pub returns-clause-wide : goal.returns-clause-wide
returns-clause-wide g c = λ f width wraps line. too_wide_retagged f width wraps line
