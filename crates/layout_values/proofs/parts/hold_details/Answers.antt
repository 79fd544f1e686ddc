use Rattle.layout_state.proofs.CallLemmas.{if_ok_by}
use Rattle.layout_values.proofs.OpenLemmas.{spaces_open}
use Rattle.layout_values.proofs.parts.hold_details.Goals as goal

pub returns-clause-opened : goal.returns-clause-opened
returns-clause-opened g c = if_ok_by _ _ c.open_part.result (λ x h. λ tag p nodes w inside.
    spaces_open _ 2 c.args.least _ _ _ _ inside _ _ c.in_ok-first.ensures c.in_ok-following.ensures
    (h tag p nodes w inside)) c.open_part.ensures.opened

pub returns-clause-narrow : goal.returns-clause-narrow
returns-clause-narrow g c = λ e. λ tag p inside.
    spaces_open _ 2 c.args.least _ _ _ _ inside _ _ c.in_ok-first.ensures c.in_ok-following.ensures
    (c.open_part.ensures.narrow e tag p inside)
