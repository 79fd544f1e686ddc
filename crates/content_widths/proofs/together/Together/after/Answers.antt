use Rattle.std.proofs.Common.{sym, ◌∙◌}
use Rattle.content_widths.proofs.TogetherLemmas.{together_after_break, together_after_letter}
use Rattle.content_widths.proofs.together.Together.after.Goals as goal

pub returns-then-is_break_point : goal.returns-then-is_break_point
returns-then-is_break_point c = λ cs h. together_after_break c.args.self cs c.args.c c.columns.result
    (sym c.is_break_point.ensures ∙ c.if-is_break_point.true) c.columns.ensures h

pub returns : goal.returns
returns c = λ cs h. together_after_letter c.args.self cs c.args.c c.width_of.result c.saturating_add.result
    (sym c.is_break_point.ensures ∙ c.if-is_break_point.false) c.width_of.ensures c.saturating_add.ensures h
