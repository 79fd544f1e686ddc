use Rattle.std.proofs.lemmas.Result.{on_ok_weaker}
use Rattle.layout_state.proofs.CallLemmas.{said, unsaid, when_ok}
use Rattle.layout_state.proofs.laying.LayoutState.add_cells.Goals as goal

pub returns-clause-done : goal.returns-clause-done
returns-clause-done g c = on_ok_weaker c.unless_failed.result (λ ok. λ tag p.
    said _ _ _ _ _ c.current_mut.ensures.sub (when_ok _ c.append_columns_with_borders.result ok
    c.append_columns_with_borders.ensures.outcome.done tag p))
    c.unless_failed.ensures.ok

pub returns-clause-narrow : goal.returns-clause-narrow
returns-clause-narrow g c = λ e. λ tag p.
    unsaid _ _ _ _ c.current_mut.ensures.sub
    (c.append_columns_with_borders.ensures.outcome.narrow (c.unless_failed.ensures.narrow e) tag p)
