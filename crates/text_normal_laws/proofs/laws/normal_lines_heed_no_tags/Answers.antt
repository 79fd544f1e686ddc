use Rattle.text_normal_laws.proofs.NormalRetagged.{normal_retagged, waiting_retagged, wide_text_retagged}
use Rattle.text_normal_laws.proofs.laws.normal_lines_heed_no_tags.Goals as goal

pub returns-clause-lines : goal.returns-clause-lines
returns-clause-lines g c = λ f width source. normal_retagged f width source

pub returns-clause-waiting : goal.returns-clause-waiting
returns-clause-waiting g c = λ f width source. waiting_retagged f width source

pub returns-clause-wide : goal.returns-clause-wide
returns-clause-wide g c = λ f width source. wide_text_retagged f width source
