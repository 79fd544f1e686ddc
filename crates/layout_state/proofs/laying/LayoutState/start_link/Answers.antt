use Rattle.std.proofs.lemmas.Result.{on_ok_weaker}
use Rattle.layout_state.proofs.CallLemmas.{link_begun, no_link_begun}
use Rattle.layout_state.proofs.laying.LayoutState.start_link.Goals as goal

pub returns-clause-done : goal.returns-clause-done
returns-clause-done g c =
    on_ok_weaker c.start_link.result (λ h. λ tag p. link_begun _ _ _ _ (h tag p)) c.start_link.ensures.done

pub returns-clause-narrow : goal.returns-clause-narrow
returns-clause-narrow g c = λ e. λ tag p. no_link_begun _ _ _ (c.start_link.ensures.narrow e tag p)
