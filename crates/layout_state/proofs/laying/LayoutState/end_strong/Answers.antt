use Rattle.std.proofs.lemmas.Result.{on_ok_weaker}
use Rattle.layout_state.proofs.CallLemmas.{said, unsaid}
use Rattle.layout_state.proofs.laying.LayoutState.end_strong.Goals as goal

pub returns-clause-done : goal.returns-clause-done
returns-clause-done g c = on_ok_weaker c.end_strong.result
    (λ h. λ tag p. said _ _ _ _ _ c.current_mut.ensures.sub (h tag p)) c.end_strong.ensures.outcome.done

pub returns-clause-narrow : goal.returns-clause-narrow
returns-clause-narrow g c = λ e. λ tag p.
    unsaid _ _ _ _ c.current_mut.ensures.sub (c.end_strong.ensures.outcome.narrow e tag p)
