-- The "in body" insertion mode (WHATWG HTML, 13.2.6.4.7). Start tags of phrases stand in InBodyPhrases.antt,
-- end tags in InBodyEnds.antt.
use Rattle.std.specs.Prelude.{Bool, false, true, [], ◌∷◌, codes, if◌then◌else◌}
use Rattle.html_lexemes.specs.declared.token.Tag.{Tag}
use Rattle.tree_names.specs.Wanted.{one}
use Rattle.tree_names.specs.declared.group.TagGroup.{TagGroup}
use Rattle.tree_names.specs.declared.group.TagGroup.TheVariants as groups
use Rattle.rules_table.specs.Actions.{at_place, clear_to_marker, pop_template_mode, pop_to, reconstruct}
use Rattle.rules_table.specs.Actions.{refuse_frameset, reset}
use Rattle.rules_table.specs.Asking.{has_template}
use Rattle.rules_table.specs.HtmlTag.{html_start}
use Rattle.rules_table.specs.InBodyBlocks.{block_start, body_start, button_start, definition_start, form_start}
use Rattle.rules_table.specs.InBodyBlocks.{frameset_start, heading_start, list_item_start, plaintext_start}
use Rattle.rules_table.specs.InBodyBlocks.{preformatted_start, table_start}
use Rattle.rules_table.specs.InBodyPhrases.{in_body_phrase}
use Rattle.rules_table.specs.InHead.{in_head_start}
use Rattle.rules_table.specs.Rows.{Row, TextRow, again, ignored, said_after, stopped}
use Rattle.rules_table.specs.State.{State}

abbrev pub in_body_text : (is_space : Bool) → TextRow
in_body_text true = said_after (reconstruct ∷ [])
in_body_text false = said_after (reconstruct ∷ refuse_frameset ∷ [])

abbrev pub in_body_start : TagGroup → Tag → State → Row
in_body_start groups.Html t s = html_start t s
in_body_start groups.Base t s = in_head_start at_place groups.Base t s
in_body_start groups.Link t s = in_head_start at_place groups.Link t s
in_body_start groups.Meta t s = in_head_start at_place groups.Meta t s
in_body_start groups.Noframes t s = in_head_start at_place groups.Noframes t s
in_body_start groups.Script t s = in_head_start at_place groups.Script t s
in_body_start groups.Style t s = in_head_start at_place groups.Style t s
in_body_start groups.Template t s = in_head_start at_place groups.Template t s
in_body_start groups.Title t s = in_head_start at_place groups.Title t s
in_body_start groups.Body t s = body_start t s
in_body_start groups.Frameset t s = frameset_start t s
in_body_start groups.Block t s = block_start t
in_body_start groups.Paragraph t s = block_start t
in_body_start groups.Heading t s = heading_start t
in_body_start groups.Preformatted t s = preformatted_start t
in_body_start groups.Form t s = form_start t s
in_body_start groups.ListItem t s = list_item_start t
in_body_start groups.Definition t s = definition_start t
in_body_start groups.Plaintext t s = plaintext_start t
in_body_start groups.Button t s = button_start t s
in_body_start groups.Table t s = table_start t s
in_body_start groups.Caption t s = ignored
in_body_start groups.Cell t s = ignored
in_body_start groups.Column t s = ignored
in_body_start groups.ColumnGroup t s = ignored
in_body_start groups.Frame t s = ignored
in_body_start groups.Head t s = ignored
in_body_start groups.Row t s = ignored
in_body_start groups.Section t s = ignored
in_body_start group t s = in_body_phrase group t s

-- The end of the page closes a template that is open (13.2.6.4.16), and the mode that stands then takes it.
abbrev pub in_template_end_of_file : State → Row
in_template_end_of_file s = if has_template s
    then again (pop_to (one (codes "template")) ∷ clear_to_marker ∷ pop_template_mode ∷ reset ∷ [])
    else stopped

abbrev pub in_body_end_of_file : State → Row
in_body_end_of_file s = in_template_end_of_file s
