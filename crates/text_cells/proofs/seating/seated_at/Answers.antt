use Rattle.std.proofs.Common.{map, sym, ◌∙◌}
use Rattle.text_cells.specs.Cells.{cell_of, hanging_of}
use Rattle.text_cells.proofs.SeatingLemmas.{cell_first}
use Rattle.text_cells.proofs.seating.seated_at.Goals as goal

pub returns-then-not-hangs_at : goal.returns-then-not-hangs_at
returns-then-not-hangs_at g c = λ cells.
    let seen = g.T.EqualCopy.seen in
    cell_first c.args.at (cell_of seen c.args.cell) cells (map (hanging_of seen) c.args.waiting.now.items)
    (sym c.hangs_at.ensures ∙ c.if-not-hangs_at.true)
