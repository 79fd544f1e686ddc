-- The "in template" insertion mode (WHATWG HTML, 13.2.6.4.16). Text, comments and doctypes are taken as in the body.
use Rattle.std.specs.Prelude.{[], ◌∷◌}
use Rattle.html_lexemes.specs.declared.token.Tag.{Tag}
use Rattle.tree_names.specs.declared.group.TagGroup.{TagGroup}
use Rattle.tree_names.specs.declared.group.TagGroup.TheVariants as groups
use Rattle.rules_table.specs.Actions.{at_place, go_to, pop_template_mode, push_template_mode}
use Rattle.rules_table.specs.InHead.{in_head_end, in_head_start}
use Rattle.rules_table.specs.Rows.{Row, again, ignored}
use Rattle.rules_table.specs.State.{State}
use Rattle.tree_predicates.specs.declared.modes.InsertionMode.{InsertionMode}
use Rattle.tree_predicates.specs.declared.modes.InsertionMode.TheVariants.{InBody, InColumnGroup, InRow, InTable}
use Rattle.tree_predicates.specs.declared.modes.InsertionMode.TheVariants.{InTableBody}

-- the template's contents are those of another mode
abbrev pub becomes : InsertionMode → Row
becomes mode = again (pop_template_mode ∷ push_template_mode mode ∷ go_to mode ∷ [])

abbrev pub in_template_start : TagGroup → Tag → State → Row
in_template_start groups.Base t s = in_head_start at_place groups.Base t s
in_template_start groups.Link t s = in_head_start at_place groups.Link t s
in_template_start groups.Meta t s = in_head_start at_place groups.Meta t s
in_template_start groups.Noframes t s = in_head_start at_place groups.Noframes t s
in_template_start groups.Script t s = in_head_start at_place groups.Script t s
in_template_start groups.Style t s = in_head_start at_place groups.Style t s
in_template_start groups.Template t s = in_head_start at_place groups.Template t s
in_template_start groups.Title t s = in_head_start at_place groups.Title t s
in_template_start groups.Caption t s = becomes InTable
in_template_start groups.ColumnGroup t s = becomes InTable
in_template_start groups.Section t s = becomes InTable
in_template_start groups.Column t s = becomes InColumnGroup
in_template_start groups.Row t s = becomes InTableBody
in_template_start groups.Cell t s = becomes InRow
in_template_start _ t s = becomes InBody

abbrev pub in_template_end : TagGroup → State → Row
in_template_end groups.Template s = in_head_end groups.Template s
in_template_end _ s = ignored
