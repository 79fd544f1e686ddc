use Rattle.std.proofs.Common.{◌∙◌, ap, refl, sym}
use Rattle.rules_table.specs.Asking.{all_are}
use Rattle.rules_table.specs.Rows.{is_white_space}
use Rattle.rules_steps.proofs.TextLemmas.{emitted_other, emitted_space}
use Rattle.rules_steps.proofs.text.say_emitted.Goals as goal

pub returns-then-is_space-clause-seen : goal.returns-then-is_space-clause-seen
returns-then-is_space-clause-seen g c =
    emitted_space _ _ _ _ refl c.in_ok-say.ensures.seen
    (sym c.if-is_space.true ∙ c.are_white_space-is_space.ensures ∙ ap (all_are is_white_space) c.as_str.ensures)

pub returns-clause-seen : goal.returns-clause-seen
returns-clause-seen g c =
    emitted_other _ _ _ _ _ refl c.in_ok-say.ensures.seen c.refuse_frameset.ensures.seen
    (sym c.if-is_space.false ∙ c.are_white_space-is_space.ensures ∙ ap (all_are is_white_space) c.as_str.ensures)
