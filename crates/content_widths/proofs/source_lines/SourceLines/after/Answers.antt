use Rattle.std.proofs.Common.{sym, ◌∙◌}
use Rattle.content_widths.proofs.LineLemmas.{lines_after_end, lines_after_other, lines_after_shown, no_line_end}
use Rattle.content_widths.proofs.source_lines.SourceLines.after.Goals as goal

pub returns-then-c-eq10 : goal.returns-then-c-eq10
returns-then-c-eq10 c = λ cs h. lines_after_end c.args.self cs c.args.c c.if-c-eq10.true h

pub returns-then-is_shown : goal.returns-then-is_shown
returns-then-is_shown c = λ cs h. lines_after_shown c.args.self cs c.args.c c.column_after-at.result c.max.result
    (no_line_end c.args.c c.if-c-eq10.false) (sym c.is_shown.ensures ∙ c.if-is_shown.true)
    c.column_after-at.ensures c.max.ensures h

pub returns : goal.returns
returns c = λ cs h. lines_after_other c.args.self cs c.args.c c.column_after-at.result
    (no_line_end c.args.c c.if-c-eq10.false) (sym c.is_shown.ensures ∙ c.if-is_shown.false)
    c.column_after-at.ensures h
