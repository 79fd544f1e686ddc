use Rattle.text_preserved.specs.Fronts.{JoinsBody}
use Rattle.text_preserved.proofs.FrontLemmas.{holds_here}
use Rattle.text_preserved.proofs.fronts.body_front.Goals as goal

pub split_before-requires : goal.split_before-requires
split_before-requires c = c.after_body.ensures.parts

pub returns-clause-joins : goal.returns-clause-joins
returns-clause-joins c = holds_here (JoinsBody c.args.width c.args.wraps) c.args.text.now c.after_body.result.now
    c.split_before.result.0.now c.after_body.ensures c.split_before.ensures.front
