use Rattle.std.proofs.lemmas.Result.{on_ok_weaker}
use Rattle.layout_state.proofs.CallLemmas.{no_part_begins, part_begins}
use Rattle.layout_state.proofs.laying.LayoutState.begin_part.Goals as goal

pub returns-clause-done : goal.returns-clause-done
returns-clause-done g c = on_ok_weaker c.enter_part.result
    (λ h. λ tag p. part_begins _ c.args.columns c.args.least _ _ _ c.in_ok-width.ensures.room (h tag p))
    c.enter_part.ensures.done

pub returns-in_err-width-clause-narrow : goal.returns-in_err-width-clause-narrow
returns-in_err-width-clause-narrow g c = λ e. λ tag p.
    no_part_begins _ c.args.columns c.args.least _ c.in_err-width.ensures.narrow.1
