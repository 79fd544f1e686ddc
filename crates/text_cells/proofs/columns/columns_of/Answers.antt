use Rattle.std.proofs.Common.{map, ◌∙◌}
use Rattle.text_cells.specs.OpenCells.{open_cell_of}
use Rattle.text_cells.proofs.JoiningLemmas.{ends_are, none_left}
use Rattle.text_cells.proofs.columns.columns_of.Goals as goal

pub returns-clause-width : goal.returns-clause-width
returns-clause-width g c =
    c.unwrap_or-width.ensures
    ∙ (ends_are (map (open_cell_of g.T.EqualCopy.seen) c.args.cells.now) c.in_ok-ends.ends.items c.pop.new.self.items
    c.pop.result c.in_ok-ends.ensures c.pop.ensures.items
    (none_left c.in_ok-ends.ends.items c.pop.ensures.variant.1)).width

pub returns-clause-signs : goal.returns-clause-signs
returns-clause-signs g c =
    (ends_are (map (open_cell_of g.T.EqualCopy.seen) c.args.cells.now) c.in_ok-ends.ends.items c.pop.new.self.items
    c.pop.result c.in_ok-ends.ensures c.pop.ensures.items
    (none_left c.in_ok-ends.ends.items c.pop.ensures.variant.1)).signs
