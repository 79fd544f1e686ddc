use Rattle.render_values.specs.Arena.{values_of}
use Rattle.render_sizes.specs.Extents.{measure_of}
use Rattle.render_sizes.proofs.ExtentLemmas.{same_length}
use Rattle.render_sizes.proofs.RowLemmas.{emitted_cells}
use Rattle.render_sizes.proofs.tables.extent_of_table.Goals as goal

pub row_cells-requires-clause-same : goal.row_cells-requires-clause-same
row_cells-requires-clause-same g c =
    same_length (measure_of c.args.min_wrap (g.P.Prefixes.columns c.args.prefixes.now)) c.args.nodes.now
    c.args.sizes.now c.requires.flat c.requires.same

pub grid_of-requires-clause-rows : goal.grid_of-requires-clause-rows
grid_of-requires-clause-rows g c =
    let m = measure_of c.args.min_wrap (g.P.Prefixes.columns c.args.prefixes.now) in
    (emitted_cells m (values_of c.args.nodes.now) c.in_ok-cells.field-0.cells.items c.as_slice.result.now
    c.as_slice.ensures.value (c.in_ok-cells.ensures m c.requires.same).0
    (c.measured_is_sound.ensures.cells m (values_of c.args.nodes.now))).rows

pub grid_of-requires-clause-some : goal.grid_of-requires-clause-some
grid_of-requires-clause-some g c =
    let m = measure_of c.args.min_wrap (g.P.Prefixes.columns c.args.prefixes.now) in
    (emitted_cells m (values_of c.args.nodes.now) c.in_ok-cells.field-0.cells.items c.as_slice.result.now
    c.as_slice.ensures.value (c.in_ok-cells.ensures m c.requires.same).0
    (c.measured_is_sound.ensures.cells m (values_of c.args.nodes.now))).some

pub grid_of-requires-clause-tall : goal.grid_of-requires-clause-tall
grid_of-requires-clause-tall g c =
    let m = measure_of c.args.min_wrap (g.P.Prefixes.columns c.args.prefixes.now) in
    (emitted_cells m (values_of c.args.nodes.now) c.in_ok-cells.field-0.cells.items c.as_slice.result.now
    c.as_slice.ensures.value (c.in_ok-cells.ensures m c.requires.same).0
    (c.measured_is_sound.ensures.cells m (values_of c.args.nodes.now))).tall

pub grid_of-requires-clause-content : goal.grid_of-requires-clause-content
grid_of-requires-clause-content g c =
    let m = measure_of c.args.min_wrap (g.P.Prefixes.columns c.args.prefixes.now) in
    (emitted_cells m (values_of c.args.nodes.now) c.in_ok-cells.field-0.cells.items c.as_slice.result.now
    c.as_slice.ensures.value (c.in_ok-cells.ensures m c.requires.same).0
    (c.measured_is_sound.ensures.cells m (values_of c.args.nodes.now))).content
