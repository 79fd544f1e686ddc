use Rattle.layout_state.proofs.CallLemmas.{said}
use Rattle.layout_state.proofs.laying.LayoutState.end_preformat.Goals as goal

pub returns-clause-done : goal.returns-clause-done
returns-clause-done g c = λ tag p. said _ _ _ _ _ c.current_mut.ensures.sub (c.pop_preformat.ensures.done tag p)
