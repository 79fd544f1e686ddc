use Rattle.std.proofs.Common.{sym, ◌∙◌}
use Rattle.content_widths.proofs.WordLemmas.{words_after_break, words_after_none, words_with_letter}
use Rattle.content_widths.proofs.words.Words.after.Goals as goal

pub returns-then-is_break_point : goal.returns-then-is_break_point
returns-then-is_break_point c = λ cs h. words_after_break c.args.self cs c.args.c c.is_white_space.result
    c.after_break.result (sym c.is_break_point.ensures ∙ c.if-is_break_point.true) c.is_white_space.ensures
    c.after_break.ensures h

pub returns-in-Some : goal.returns-in-Some
returns-in-Some c = λ cs h. words_with_letter c.args.self c.after_letter.result cs c.args.c c.in-Some.columns
    (sym c.is_break_point.ensures ∙ c.if-is_break_point.false) (sym c.columns.ensures ∙ c.in-Some.is)
    c.after_letter.ensures h

pub returns-in-None : goal.returns-in-None
returns-in-None c = λ cs h. words_after_none c.args.self cs c.args.c
    (sym c.is_break_point.ensures ∙ c.if-is_break_point.false) (sym c.columns.ensures ∙ c.in-None.is) h
