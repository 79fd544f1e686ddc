use Rattle.std.proofs.Common.{map, ap, sym, subst, ◌∙◌, arith}
use Rattle.std.specs.Prelude.{All}
use Rattle.std.proofs.lemmas.List.Elements.{All-nil, All-push}
use Rattle.std.proofs.lemmas.List.{map_push}
use Rattle.text_lines.specs.Tagged.{line_items, IsJoined}
use Rattle.text_borders.specs.Across.{row_lines}
use Rattle.text_cells.specs.OpenCells.{after, open_cell_of}
use Rattle.text_cells.proofs.RowLemmas.{lines_more, after_more, after_none}
use Rattle.text_cells.proofs.row_lines.row_lines.Goals as goal

pub loop-line-init : goal.loop-line-init
loop-line-init g c =
    let seen = g.T.EqualCopy.seen in
    record {
      lines = ap (map (line_items seen)) c.in_ok-lines.ensures.items;
      rest = after_none (map (open_cell_of seen) c.args.cells.now);
      joined = subst (All (IsJoined seen)) (sym c.in_ok-lines.ensures.items) (All-nil (IsJoined seen));
    }

pub loop-line-preserved : goal.loop-line-preserved
loop-line-preserved g c =
    let seen = g.T.EqualCopy.seen in
    let start = map (open_cell_of seen) c.args.cells.now in
    let now = map (open_cell_of seen) c.loop-line.cells in
    record {
      lines = ap (map (line_items seen)) c.in_ok-push.ensures.items
          ∙ map_push (line_items seen) c.loop-line.lines.items c.in_ok-row_line.field-0
          ∙ lines_more c.args.sign (seen c.args.tag.now) start now c.loop-line._line
          (map (line_items seen) c.loop-line.lines.items) (line_items seen c.in_ok-row_line.field-0)
          c.loop-line.invariant.lines c.loop-line.invariant.rest c.in_ok-row_line.ensures.items;
      rest = c.in_ok-row_line.ensures.rest ∙ after_more c.loop-line._line start now c.loop-line.invariant.rest;
      joined = subst (All (IsJoined seen)) (sym c.in_ok-push.ensures.items) (All-push (IsJoined seen)
          c.loop-line.lines.items c.in_ok-row_line.field-0 c.loop-line.invariant.joined
          c.in_ok-row_line.ensures.joined);
    }

pub returns-clause-lines : goal.returns-clause-lines
returns-clause-lines g c =
    let seen = g.T.EqualCopy.seen in
    let start = map (open_cell_of seen) c.args.cells.now in
    c.loop-line.invariant.lines
    ∙ ap (row_lines c.args.sign (seen c.args.tag.now) start 0) (omega (arith, c.loop-line-test.false, c.loop-line.auto._line-end))

pub returns-clause-rest : goal.returns-clause-rest
returns-clause-rest g c =
    let seen = g.T.EqualCopy.seen in
    let start = map (open_cell_of seen) c.args.cells.now in
    c.loop-line.invariant.rest
    ∙ ap (λ n. map (after n) start) (omega (arith, c.loop-line-test.false, c.loop-line.auto._line-end))
