use Rattle.text_wrapping.proofs.BlockLaws.{cut_anywhere}
use Rattle.text_wrapping.proofs.laws.text_may_be_cut_anywhere.Goals as goal

pub returns : goal.returns
returns g c = λ mode front back main further b. cut_anywhere mode front back main further b
