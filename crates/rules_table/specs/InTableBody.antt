-- The "in table body" insertion mode (WHATWG HTML, 13.2.6.4.13).
use Rattle.std.specs.Prelude.{List, [], ◌∷◌, codes, if◌then◌else◌}
use Rattle.html_lexemes.specs.declared.token.Tag.{Tag}
use Rattle.tree_names.specs.declared.group.TagGroup.{TagGroup}
use Rattle.tree_names.specs.declared.group.TagGroup.TheVariants as groups
use Rattle.tree_names.specs.ElementSets.{table_body_context, table_sections}
use Rattle.tree_names.specs.Wanted.{one}
use Rattle.rules_table.specs.Actions.{Action, at_place, go_to, insert, insert_named, pop, pop_down_to}
use Rattle.rules_table.specs.Asking.{in_table_scope}
use Rattle.rules_table.specs.InTable.{in_table_end, in_table_start}
use Rattle.rules_table.specs.Rows.{Row, again, done, ignored}
use Rattle.rules_table.specs.State.{State}
use Rattle.tree_predicates.specs.declared.modes.InsertionMode.TheVariants.{InRow, InTable}

-- "clear the stack back to a table body context"
abbrev pub clear_to_body : Action
clear_to_body = pop_down_to table_body_context

-- the section is closed
abbrev pub section_closed : List Action
section_closed = clear_to_body ∷ pop ∷ go_to InTable ∷ []

abbrev pub past_table_body : State → Row
past_table_body s = if in_table_scope table_sections s then again section_closed else ignored

abbrev pub in_table_body_start : TagGroup → Tag → State → Row
in_table_body_start groups.Row t s = done (clear_to_body ∷ insert at_place t ∷ go_to InRow ∷ [])
in_table_body_start groups.Cell t s = again (clear_to_body ∷ insert_named (codes "tr") ∷ go_to InRow ∷ [])
in_table_body_start groups.Caption t s = past_table_body s
in_table_body_start groups.Column t s = past_table_body s
in_table_body_start groups.ColumnGroup t s = past_table_body s
in_table_body_start groups.Section t s = past_table_body s
in_table_body_start group t s = in_table_start group t s

abbrev pub in_table_body_end : TagGroup → Tag → State → Row
in_table_body_end groups.Section t s = if in_table_scope (one t.name) s then done section_closed else ignored
in_table_body_end groups.Table t s = past_table_body s
in_table_body_end groups.Body t s = ignored
in_table_body_end groups.Caption t s = ignored
in_table_body_end groups.Column t s = ignored
in_table_body_end groups.ColumnGroup t s = ignored
in_table_body_end groups.Html t s = ignored
in_table_body_end groups.Cell t s = ignored
in_table_body_end groups.Row t s = ignored
in_table_body_end group t s = in_table_end group t s
