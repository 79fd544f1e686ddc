-- The "in caption" insertion mode (WHATWG HTML, 13.2.6.4.11).
use Rattle.std.specs.Prelude.{List, [], ◌∷◌, codes, if◌then◌else◌}
use Rattle.html_lexemes.specs.declared.token.Tag.{Tag}
use Rattle.tree_names.specs.declared.group.TagGroup.{TagGroup}
use Rattle.tree_names.specs.declared.group.TagGroup.TheVariants as groups
use Rattle.tree_names.specs.Wanted.{one}
use Rattle.rules_table.specs.Actions.{Action, clear_to_marker, go_to, imply_but, pop_to}
use Rattle.rules_table.specs.Asking.{in_table_scope}
use Rattle.rules_table.specs.InBody.{in_body_start}
use Rattle.rules_table.specs.InBodyBlocks.{none}
use Rattle.rules_table.specs.InBodyEnds.{in_body_end}
use Rattle.rules_table.specs.Rows.{Row, again, done, ignored}
use Rattle.rules_table.specs.State.{State}
use Rattle.tree_predicates.specs.declared.modes.InsertionMode.TheVariants.{InTable}

-- the caption is closed
abbrev pub caption_closed : List Action
caption_closed = imply_but none ∷ pop_to (one (codes "caption")) ∷ clear_to_marker ∷ go_to InTable ∷ []

abbrev pub past_caption : State → Row
past_caption s = if in_table_scope (one (codes "caption")) s then again caption_closed else ignored

abbrev pub in_caption_start : TagGroup → Tag → State → Row
in_caption_start groups.Caption t s = past_caption s
in_caption_start groups.Column t s = past_caption s
in_caption_start groups.ColumnGroup t s = past_caption s
in_caption_start groups.Section t s = past_caption s
in_caption_start groups.Cell t s = past_caption s
in_caption_start groups.Row t s = past_caption s
in_caption_start group t s = in_body_start group t s

abbrev pub in_caption_end : TagGroup → Tag → State → Row
in_caption_end groups.Caption t s = if in_table_scope (one (codes "caption")) s then done caption_closed else ignored
in_caption_end groups.Table t s = past_caption s
in_caption_end groups.Body t s = ignored
in_caption_end groups.Column t s = ignored
in_caption_end groups.ColumnGroup t s = ignored
in_caption_end groups.Html t s = ignored
in_caption_end groups.Section t s = ignored
in_caption_end groups.Cell t s = ignored
in_caption_end groups.Row t s = ignored
in_caption_end group t s = in_body_end group t s
