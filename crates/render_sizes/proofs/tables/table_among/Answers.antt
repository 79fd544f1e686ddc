use Rattle.render_values.specs.Arena.{values_of}
use Rattle.render_sizes.proofs.ExtentLemmas.{same_length}
use Rattle.render_sizes.proofs.RowLemmas.{emitted_cells}
use Rattle.render_sizes.proofs.tables.table_among.Goals as goal

pub row_cells-requires-clause-same : goal.row_cells-requires-clause-same
row_cells-requires-clause-same g c =
    same_length g.w c.args.nodes.now c.args.sizes.now c.requires.0 c.requires.1

pub table_of-requires-clause-rows : goal.table_of-requires-clause-rows
table_of-requires-clause-rows g c =
    (emitted_cells g.w (values_of c.args.nodes.now) c.in_ok-cells.field-0.cells.items c.as_slice.result.now
    c.as_slice.ensures.value (c.in_ok-cells.ensures g.w c.requires.1).0
    (c.measured_is_sound.ensures.cells g.w (values_of c.args.nodes.now))).rows

pub table_of-requires-clause-some : goal.table_of-requires-clause-some
table_of-requires-clause-some g c =
    (emitted_cells g.w (values_of c.args.nodes.now) c.in_ok-cells.field-0.cells.items c.as_slice.result.now
    c.as_slice.ensures.value (c.in_ok-cells.ensures g.w c.requires.1).0
    (c.measured_is_sound.ensures.cells g.w (values_of c.args.nodes.now))).some

pub table_of-requires-clause-tall : goal.table_of-requires-clause-tall
table_of-requires-clause-tall g c =
    (emitted_cells g.w (values_of c.args.nodes.now) c.in_ok-cells.field-0.cells.items c.as_slice.result.now
    c.as_slice.ensures.value (c.in_ok-cells.ensures g.w c.requires.1).0
    (c.measured_is_sound.ensures.cells g.w (values_of c.args.nodes.now))).tall

pub table_of-requires-clause-content : goal.table_of-requires-clause-content
table_of-requires-clause-content g c =
    (emitted_cells g.w (values_of c.args.nodes.now) c.in_ok-cells.field-0.cells.items c.as_slice.result.now
    c.as_slice.ensures.value (c.in_ok-cells.ensures g.w c.requires.1).0
    (c.measured_is_sound.ensures.cells g.w (values_of c.args.nodes.now))).content
