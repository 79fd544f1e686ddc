use Rattle.std.proofs.lemmas.Result.{on_ok_weaker}
use Rattle.text_lines.proofs.Fronts.{first_preceded}
use Rattle.text_lines.proofs.joining.extend_first.Goals as goal

pub returns-clause-ok : goal.returns-clause-ok
returns-clause-ok g c =
    on_ok_weaker c.push_front.result (λ h tag begins. first_preceded g.T.EqualCopy.seen c.args.elements.now.items _ _
    c.args.text.now c.utf8.text c.index_mut.ensures.value h tag begins) c.push_front.ensures.ok
