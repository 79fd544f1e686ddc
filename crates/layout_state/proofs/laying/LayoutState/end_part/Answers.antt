use Rattle.std.proofs.lemmas.Result.{on_ok_weaker}
use Rattle.layout_state.proofs.CallLemmas.{no_part_ends, part_ends_as}
use Rattle.layout_state.proofs.laying.LayoutState.end_part.Goals as goal

pub returns-clause-done : goal.returns-clause-done
returns-clause-done g c = on_ok_weaker c.append_subrender.result (λ h. λ tag p.
    part_ends_as _ _ _ _ _ _ _ _ _ c.replace_current-part.ensures.outer c.replace_current-part.ensures.new
    c.current_mut.ensures.sub (h tag p)) c.append_subrender.ensures.outcome.done

pub returns-clause-narrow : goal.returns-clause-narrow
returns-clause-narrow g c = λ e. λ tag p. no_part_ends _ _ _ _ _ _ _ _ c.replace_current-part.ensures.outer
    c.replace_current-part.ensures.new c.current_mut.ensures.sub (c.append_subrender.ensures.outcome.narrow e tag p)
