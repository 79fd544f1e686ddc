use Rattle.table_fits.proofs.WalkLemmas.{left}
use Rattle.table_fits.proofs.pass.leave.Goals as goal

pub returns-clause-walking : goal.returns-clause-walking
returns-clause-walking g c = left c.args.options.now g.w c.args.nodes.now c.args.sizes.now c.args.place
    c.args.waiting.now c.args.ended c.index-nodes-at.result c.args.reading.now c.end.new.reading c.requires.1.0
    c.requires.1.1.1
    (λ s outer passing kept at_is few content. c.in_ok-end.ensures g.w s outer c.requires.1.1.0 passing kept
    at_is few content)
