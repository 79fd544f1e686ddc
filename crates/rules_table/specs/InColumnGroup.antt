-- The "in column group" insertion mode (WHATWG HTML, 13.2.6.4.12).
use Rattle.std.specs.Prelude.{Bool, false, true, List, [], ◌∷◌, codes, if◌then◌else◌}
use Rattle.html_lexemes.specs.declared.token.Tag.{Tag}
use Rattle.tree_names.specs.declared.group.TagGroup.{TagGroup}
use Rattle.tree_names.specs.declared.group.TagGroup.TheVariants as groups
use Rattle.tree_names.specs.Wanted.{one}
use Rattle.rules_table.specs.Actions.{Action, at_place, go_to, insert_void, pop}
use Rattle.rules_table.specs.Asking.{current_is}
use Rattle.rules_table.specs.HtmlTag.{html_start}
use Rattle.rules_table.specs.InBody.{in_body_end_of_file}
use Rattle.rules_table.specs.InHead.{in_head_end, in_head_start}
use Rattle.rules_table.specs.Rows.{Row, TextRow, again, done, dropped, ignored, said_after, then_again}
use Rattle.rules_table.specs.State.{State}
use Rattle.tree_predicates.specs.declared.modes.InsertionMode.TheVariants.{InTable}

-- the column group is closed
abbrev pub column_group_closed : List Action
column_group_closed = pop ∷ go_to InTable ∷ []

abbrev pub is_in_column_group : State → Bool
is_in_column_group s = current_is (one (codes "colgroup")) s

-- anything else
abbrev pub past_column_group : State → Row
past_column_group s = if is_in_column_group s then again column_group_closed else ignored

abbrev pub in_column_group_text : (is_space : Bool) → State → TextRow
in_column_group_text true s = said_after []
in_column_group_text false s = if is_in_column_group s then then_again column_group_closed else dropped

abbrev pub in_column_group_start : TagGroup → Tag → State → Row
in_column_group_start groups.Html t s = html_start t s
in_column_group_start groups.Column t s = done (insert_void at_place t ∷ [])
in_column_group_start groups.Template t s = in_head_start at_place groups.Template t s
in_column_group_start _ t s = past_column_group s

abbrev pub in_column_group_end : TagGroup → State → Row
in_column_group_end groups.ColumnGroup s = if is_in_column_group s then done column_group_closed else ignored
in_column_group_end groups.Column s = ignored
in_column_group_end groups.Template s = in_head_end groups.Template s
in_column_group_end _ s = past_column_group s

abbrev pub in_column_group_end_of_file : State → Row
in_column_group_end_of_file s = in_body_end_of_file s
