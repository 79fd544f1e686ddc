use Rattle.std.proofs.lemmas.Result.{on_ok_weaker}
use Rattle.layout_state.proofs.CallLemmas.{link_ended, no_link_ended}
use Rattle.layout_state.proofs.laying.LayoutState.end_link.Goals as goal

pub returns-clause-done : goal.returns-clause-done
returns-clause-done g c =
    on_ok_weaker c.end_link.result (λ h. λ tag p. link_ended _ _ _ (h tag p)) c.end_link.ensures.done

pub returns-clause-narrow : goal.returns-clause-narrow
returns-clause-narrow g c = λ e. λ tag p. no_link_ended _ _ (c.end_link.ensures.narrow e tag p)
