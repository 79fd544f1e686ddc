use Rattle.std.proofs.Common.{drop, ◌+◌}
use Rattle.std.proofs.lemmas.List.{at_drop_all}
use Rattle.html2text.specs.LinesText.{lines_bytes, line_bytes}
use Rattle.html2text.proofs.LinesTextLemmas.{lines_bytes-step}
use Rattle.html2text.proofs.WritingLemmas.{nothing_written, more_written, part_written, all_written, drop_item, on_err}
use Rattle.html2text.proofs.writing.write_lines.Goals as goal

pub lines-init : goal.lines-init
lines-init g c = nothing_written _ _ _

pub lines-preserved : goal.lines-preserved
lines-preserved g c =
    more_written (line_bytes c.line-item.result) (lines_bytes (drop (c.lines.line-index + 1) c.args.lines.now))
    c.lines.invariant c.in_ok-write_line.ensures.ok
    (lines_bytes-step _ c.line-item.result _
    (drop_item c.args.lines.now c.lines.line-index c.line-item.result c.lines-test.true c.line-item.is))
    c.in_ok-write_line.ensures.stays

pub returns-in_err-write_line-clause-part : goal.returns-in_err-write_line-clause-part
returns-in_err-write_line-clause-part g c =
    on_err _ c.from_residual.ensures.0
    (part_written (line_bytes c.line-item.result) (lines_bytes (drop (c.lines.line-index + 1) c.args.lines.now))
    c.lines.invariant c.in_err-write_line.ensures.part
    (lines_bytes-step _ c.line-item.result _
    (drop_item c.args.lines.now c.lines.line-index c.line-item.result c.lines-test.true c.line-item.is)))

pub returns-clause-ok : goal.returns-clause-ok
returns-clause-ok g c =
    all_written c.lines.invariant (at_drop_all lines_bytes c.args.lines.now c.lines.line-index c.lines-test.false)
