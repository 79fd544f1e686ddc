use Rattle.std.proofs.Common.{◌≡◌, ap, rules, true, ◌∙◌}
use Rattle.std.proofs.lemmas.Result.{on_ok_weaker}
use Rattle.layout_state.specs.Seen.{widths_seen}
use Rattle.layout_tables.specs.Tables.{separated}
use Rattle.layout_tables.proofs.TableStepLemmas.{border_across, border_below}
use Rattle.layout_tables.proofs.table.top_border.Goals as goal

pub returns-in-None-clause-done : goal.returns-in-None-clause-done
returns-in-None-clause-done g c =
    let drawn : c.args.options.now.draw_borders ≡ true = search rules in
    on_ok_weaker c.add_border.result (λ h. λ tag p.
    border_below _ c.args.options.now (widths_seen c.args.widths.now) _ _
    drawn (ap widths_seen c.in-None.is) (h tag p))
    c.add_border.ensures.done

pub returns-in-Some-clause-done : goal.returns-in-Some-clause-done
returns-in-Some-clause-done g c =
    let drawn : c.args.options.now.draw_borders ≡ true = search rules in
    on_ok_weaker c.add_border_of.result (λ h. λ tag p.
    border_across _ c.args.options.now (widths_seen c.args.widths.now) c.in-Some.widths.items c.separated.result _ _
    drawn (ap widths_seen c.in-Some.is)
    (c.separated.ensures ∙ ap separated c.as_slice.ensures.value) (h tag p)) c.add_border_of.ensures.done
