use Rattle.text_normal.proofs.SpacedEnds.{visible_end}
use Rattle.text_normal.proofs.spaced_words.ends_visibly.Goals as goal

pub returns-in-Some : goal.returns-in-Some
returns-in-Some c = λ e.
    visible_end c.args.text.now c.in-Some.field-0-0.now c.in-Some.c c.in-Some.ensures.texts.0 c.in-Some.ensures.texts.1
    c.in-Some.ensures.last (c.is_visible_ascii.ensures.0 e)
