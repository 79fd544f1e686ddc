-- The "in row" insertion mode (WHATWG HTML, 13.2.6.4.14).
use Rattle.std.specs.Prelude.{Bool, List, [], ◌∷◌, codes, if◌then◌else◌}
use Rattle.html_lexemes.specs.declared.token.Tag.{Tag}
use Rattle.tree_names.specs.declared.group.TagGroup.{TagGroup}
use Rattle.tree_names.specs.declared.group.TagGroup.TheVariants as groups
use Rattle.tree_names.specs.ElementSets.{table_row_context}
use Rattle.tree_names.specs.Wanted.{one}
use Rattle.rules_table.specs.Actions.{Action, at_place, go_to, insert, pop, pop_down_to, put_marker}
use Rattle.rules_table.specs.Asking.{in_table_scope}
use Rattle.rules_table.specs.InTable.{in_table_end, in_table_start}
use Rattle.rules_table.specs.Rows.{Row, again, done, ignored}
use Rattle.rules_table.specs.State.{State}
use Rattle.tree_predicates.specs.declared.modes.InsertionMode.TheVariants.{InCell, InTableBody}

-- "clear the stack back to a table row context"
abbrev pub clear_to_row : Action
clear_to_row = pop_down_to table_row_context

-- the row is closed
abbrev pub row_closed : List Action
row_closed = clear_to_row ∷ pop ∷ go_to InTableBody ∷ []

abbrev pub is_in_row : State → Bool
is_in_row s = in_table_scope (one (codes "tr")) s

abbrev pub past_row : State → Row
past_row s = if is_in_row s then again row_closed else ignored

abbrev pub in_row_start : TagGroup → Tag → State → Row
in_row_start groups.Cell t s = done (clear_to_row ∷ insert at_place t ∷ go_to InCell ∷ put_marker ∷ [])
in_row_start groups.Caption t s = past_row s
in_row_start groups.Column t s = past_row s
in_row_start groups.ColumnGroup t s = past_row s
in_row_start groups.Section t s = past_row s
in_row_start groups.Row t s = past_row s
in_row_start group t s = in_table_start group t s

abbrev pub in_row_end : TagGroup → Tag → State → Row
in_row_end groups.Row t s = if is_in_row s then done row_closed else ignored
in_row_end groups.Table t s = past_row s
in_row_end groups.Section t s = if in_table_scope (one t.name) s then past_row s else ignored
in_row_end groups.Body t s = ignored
in_row_end groups.Caption t s = ignored
in_row_end groups.Column t s = ignored
in_row_end groups.ColumnGroup t s = ignored
in_row_end groups.Html t s = ignored
in_row_end groups.Cell t s = ignored
in_row_end group t s = in_table_end group t s
