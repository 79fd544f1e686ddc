use Rattle.content_laws.proofs.Widest.{one_in, same_in}
use Rattle.content_laws.proofs.laws.text_at_its_widest_is_not_wrapped.Goals as goal

pub returns-clause-one : goal.returns-clause-one
returns-clause-one g c = λ mode width source fits one none. one_in mode width source fits one none

pub returns-clause-same : goal.returns-clause-same
returns-clause-same g c = λ mode width wider source fits more one none.
    same_in mode width wider source fits more one none
