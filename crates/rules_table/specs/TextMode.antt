-- The "text" insertion mode (WHATWG HTML, 13.2.6.4.8). Nothing else is emitted in it.
use Rattle.std.specs.Prelude.{[], ◌∷◌}
use Rattle.html_tree_state.specs.OpenElements.{current_of}
use Rattle.tree_names.specs.declared.group.TagGroup.{TagGroup}
use Rattle.tree_names.specs.declared.group.TagGroup.TheVariants as groups
use Rattle.rules_table.specs.Actions.{go_back, pop}
use Rattle.rules_table.specs.Rows.{Row, TextRow, again, asks, done, said_after}
use Rattle.rules_table.specs.State.{State, script}

abbrev pub text_mode_text : TextRow
text_mode_text = said_after []

abbrev pub text_mode_end : TagGroup → State → Row
text_mode_end groups.Script s = asks (script (current_of s.tree.stack)) (pop ∷ go_back ∷ [])
text_mode_end _ s = done (pop ∷ go_back ∷ [])

abbrev pub text_mode_end_of_file : Row
text_mode_end_of_file = again (pop ∷ go_back ∷ [])
