use Rattle.std.proofs.lemmas.Result.{on_ok_weaker}
use Rattle.text_normal.proofs.NormalWords.{front_wider}
use Rattle.text_normal.proofs.SpacedMoved.{front_then}
use Rattle.text_normal.proofs.normal.NormalText.add_after.Goals as goal

pub returns-clause-read : goal.returns-clause-read
returns-clause-read g c =
    on_ok_weaker c.add_normal.result (λ reads. front_then g.T.EqualCopy.seen c.args.self.now c.add_front_to.new.self
    c.add_normal.new.self c.args.text.now c.in_ok-rest.rest.now (g.T.EqualCopy.seen c.args.tag.now)
    c.in_ok-rest.ensures.read reads) c.add_normal.ensures.read

pub returns-clause-narrow : goal.returns-clause-narrow
returns-clause-narrow g c = λ e.
    front_wider g.T.EqualCopy.seen c.args.self.now c.add_front_to.new.self c.args.text.now c.in_ok-rest.rest.now
    (g.T.EqualCopy.seen c.args.tag.now) c.in_ok-rest.ensures.read (c.add_normal.ensures.narrow e)
