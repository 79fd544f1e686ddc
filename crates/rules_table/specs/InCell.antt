-- The "in cell" insertion mode (WHATWG HTML, 13.2.6.4.15).
use Rattle.std.specs.Prelude.{List, [], ◌∷◌, if◌then◌else◌}
use Rattle.html_lexemes.specs.declared.token.Tag.{Tag}
use Rattle.tree_names.specs.declared.group.TagGroup.{TagGroup}
use Rattle.tree_names.specs.declared.group.TagGroup.TheVariants as groups
use Rattle.tree_names.specs.ElementSets.{table_cells}
use Rattle.tree_names.specs.Sets.{Elements}
use Rattle.tree_names.specs.Wanted.{one}
use Rattle.rules_table.specs.Actions.{Action, clear_to_marker, go_to, imply_but, pop_to}
use Rattle.rules_table.specs.Asking.{in_table_scope}
use Rattle.rules_table.specs.InBody.{in_body_start}
use Rattle.rules_table.specs.InBodyBlocks.{none}
use Rattle.rules_table.specs.InBodyEnds.{in_body_end}
use Rattle.rules_table.specs.Rows.{Row, again, done, ignored}
use Rattle.rules_table.specs.State.{State}
use Rattle.tree_predicates.specs.declared.modes.InsertionMode.TheVariants.{InRow}

-- "close the cell"
abbrev pub cell_closed : Elements → List Action
cell_closed cells = imply_but none ∷ pop_to cells ∷ clear_to_marker ∷ go_to InRow ∷ []

abbrev pub past_cell : State → Row
past_cell s = if in_table_scope table_cells s then again (cell_closed table_cells) else ignored

abbrev pub in_cell_start : TagGroup → Tag → State → Row
in_cell_start groups.Caption t s = past_cell s
in_cell_start groups.Column t s = past_cell s
in_cell_start groups.ColumnGroup t s = past_cell s
in_cell_start groups.Section t s = past_cell s
in_cell_start groups.Cell t s = past_cell s
in_cell_start groups.Row t s = past_cell s
in_cell_start group t s = in_body_start group t s

-- an end tag of what the cell stands in
abbrev pub outer_end : Tag → State → Row
outer_end t s = if in_table_scope (one t.name) s then past_cell s else ignored

abbrev pub in_cell_end : TagGroup → Tag → State → Row
in_cell_end groups.Cell t s = if in_table_scope (one t.name) s then done (cell_closed (one t.name)) else ignored
in_cell_end groups.Body t s = ignored
in_cell_end groups.Caption t s = ignored
in_cell_end groups.Column t s = ignored
in_cell_end groups.ColumnGroup t s = ignored
in_cell_end groups.Html t s = ignored
in_cell_end groups.Table t s = outer_end t s
in_cell_end groups.Section t s = outer_end t s
in_cell_end groups.Row t s = outer_end t s
in_cell_end group t s = in_body_end group t s
