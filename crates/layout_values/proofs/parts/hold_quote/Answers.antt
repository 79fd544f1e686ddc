use Rattle.std.proofs.Common.{ℕ, List, ap, chars, ◌∙◌}
use Rattle.text_lines.specs.Columns.{text_columns}
use Rattle.block_renderer.specs.Seen.{marking}
use Rattle.text_decorators.specs.Marks.{quote}
use Rattle.layout_state.proofs.CallLemmas.{if_ok_by}
use Rattle.layout_values.proofs.OpenLemmas.{mark_opens}
use Rattle.layout_values.proofs.parts.hold_quote.Goals as goal

pub returns-clause-opened : goal.returns-clause-opened
returns-clause-opened g c = if_ok_by _ _ c.open_part.result (λ x h. λ tag p nodes w inside.
    mark_opens (marking g.D.TextDecorator.view tag) quote c.args.least _ _ _ inside _ _ _ _
    c.in_ok-first.ensures.stays c.in_ok-following.ensures.stays
    (c.in_ok-first.ensures.text tag) (c.in_ok-following.ensures.text tag)
    (c.columns_of-columns.ensures ∙ ap (λ (bs : List ℕ). text_columns (chars bs)) c.as_str.ensures.value)
    (h tag p nodes w inside)) c.open_part.ensures.opened

pub returns-clause-narrow : goal.returns-clause-narrow
returns-clause-narrow g c = λ e. λ tag p inside.
    mark_opens (marking g.D.TextDecorator.view tag) quote c.args.least _ _ _ inside _ _ _ _
    c.in_ok-first.ensures.stays c.in_ok-following.ensures.stays
    (c.in_ok-first.ensures.text tag) (c.in_ok-following.ensures.text tag)
    (c.columns_of-columns.ensures ∙ ap (λ (bs : List ℕ). text_columns (chars bs)) c.as_str.ensures.value)
    (c.open_part.ensures.narrow e tag p inside)
