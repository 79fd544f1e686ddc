use Rattle.text_wrapping.proofs.BlockLemmas.{names_more, all_names}
use Rattle.text_wrapping.proofs.text_block.names_of.Goals as goal

pub loop-first-preserved : goal.loop-first-preserved
loop-first-preserved g c =
    names_more g.T.EqualCopy.seen _ _ _ c.loop-first.rest.now c.in-Some.others.now c.in-Some.first.now
    c.in-Some.ensures.cases.0 c.loop-first.invariant c.in_ok-push_name.ensures

pub returns : goal.returns
returns g c =
    all_names g.T.EqualCopy.seen _ _ c.loop-first.rest.now c.in_default.ensures.cases c.loop-first.invariant
