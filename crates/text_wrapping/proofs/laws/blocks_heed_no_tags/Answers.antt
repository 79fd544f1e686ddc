use Rattle.text_wrapping.proofs.BlockRetagged.{added_retagged, broken_retagged, columns_retagged, ended_lines_retagged}
use Rattle.text_wrapping.proofs.BlockRetagged.{ended_retagged, marked_retagged, taken_retagged}
use Rattle.text_wrapping.proofs.laws.blocks_heed_no_tags.Goals as goal

pub returns-clause-added : goal.returns-clause-added
returns-clause-added g c = λ f mode cs main further b. added_retagged f mode cs main further b

pub returns-clause-marked : goal.returns-clause-marked
returns-clause-marked g c = λ f name b. marked_retagged f name b

pub returns-clause-ended : goal.returns-clause-ended
returns-clause-ended g c = λ f b. ended_retagged f b

pub returns-clause-taken : goal.returns-clause-taken
returns-clause-taken g c = λ f b. taken_retagged f b

pub returns-clause-broken : goal.returns-clause-broken
returns-clause-broken g c = λ f b. broken_retagged f b

pub returns-clause-columns : goal.returns-clause-columns
returns-clause-columns g c = λ f b. columns_retagged f b

pub returns-clause-lines : goal.returns-clause-lines
returns-clause-lines g c = λ f b. ended_lines_retagged f b
