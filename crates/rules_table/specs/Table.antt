-- The rule table: what each insertion mode makes of each mark (WHATWG HTML, 13.2.6.4). Where a mode's own section says
-- nothing else, a comment is inserted and a doctype is ignored.
use Rattle.std.specs.Prelude.{ℕ, Bool, false, List, [], ◌∷◌}
use Rattle.html_lexemes.specs.declared.token.Doctype.{Doctype}
use Rattle.html_lexemes.specs.declared.token.Tag.{Tag}
use Rattle.tree_names.specs.Groups.{tag_group}
use Rattle.tree_names.specs.declared.group.TagGroup.{TagGroup}
use Rattle.rules_table.specs.Actions.{at_place, insert_comment}
use Rattle.rules_table.specs.AfterBody.{after_after_body_comment, after_after_body_end, after_after_body_end_of_file}
use Rattle.rules_table.specs.AfterBody.{after_after_body_start, after_after_body_text, after_body_comment}
use Rattle.rules_table.specs.AfterBody.{after_body_end, after_body_end_of_file, after_body_start, after_body_text}
use Rattle.rules_table.specs.AfterHead.{after_head_end, after_head_start, after_head_text, body_made}
use Rattle.rules_table.specs.BeforeHead.{before_head_end, before_head_start, before_head_text, head_made}
use Rattle.rules_table.specs.BeforeHtml.{before_html_comment, before_html_end, before_html_start, before_html_text}
use Rattle.rules_table.specs.BeforeHtml.{html_made}
use Rattle.rules_table.specs.Framesets.{after_after_frameset_comment, after_after_frameset_text, after_frameset_end}
use Rattle.rules_table.specs.Framesets.{after_frameset_start, frameset_end_of_file, frameset_text, in_frameset_end}
use Rattle.rules_table.specs.Framesets.{in_frameset_start}
use Rattle.rules_table.specs.InBody.{in_body_end_of_file, in_body_start, in_body_text, in_template_end_of_file}
use Rattle.rules_table.specs.InBodyEnds.{in_body_end}
use Rattle.rules_table.specs.InCaption.{in_caption_end, in_caption_start}
use Rattle.rules_table.specs.InCell.{in_cell_end, in_cell_start}
use Rattle.rules_table.specs.InColumnGroup.{in_column_group_end, in_column_group_end_of_file, in_column_group_start}
use Rattle.rules_table.specs.InColumnGroup.{in_column_group_text}
use Rattle.rules_table.specs.InHead.{head_closed, in_head_end, in_head_start, in_head_text}
use Rattle.rules_table.specs.InHeadNoscript.{in_head_noscript_end, in_head_noscript_start, in_head_noscript_text}
use Rattle.rules_table.specs.InHeadNoscript.{noscript_closed}
use Rattle.rules_table.specs.InRow.{in_row_end, in_row_start}
use Rattle.rules_table.specs.InTable.{in_table_end, in_table_end_of_file, in_table_start, in_table_text_other}
use Rattle.rules_table.specs.InTable.{in_table_text_row, in_table_text_text}
use Rattle.rules_table.specs.InTableBody.{in_table_body_end, in_table_body_start}
use Rattle.rules_table.specs.InTemplate.{in_template_end, in_template_start}
use Rattle.rules_table.specs.Initial.{initial_comment, initial_doctype, initial_other, initial_text}
use Rattle.rules_table.specs.Rows.{Row, TextRow, again, done, for_character, for_null, ignored, is_white_space}
use Rattle.rules_table.specs.State.{TreeToken, State, character, comment, doctype, end_of_file, finish, null, start}
use Rattle.rules_table.specs.TextMode.{text_mode_end, text_mode_end_of_file, text_mode_text}
use Rattle.tree_predicates.specs.declared.modes.InsertionMode.{InsertionMode}
use Rattle.tree_predicates.specs.declared.modes.InsertionMode.TheVariants as modes

abbrev pub text_row : InsertionMode → (is_space : Bool) → State → TextRow
text_row modes.Initial is_space s = initial_text is_space s
text_row modes.BeforeHtml is_space s = before_html_text is_space
text_row modes.BeforeHead is_space s = before_head_text is_space
text_row modes.InHead is_space s = in_head_text is_space
text_row modes.InHeadNoscript is_space s = in_head_noscript_text is_space
text_row modes.AfterHead is_space s = after_head_text is_space
text_row modes.InBody is_space s = in_body_text is_space
text_row modes.Text is_space s = text_mode_text
text_row modes.InTable is_space s = in_table_text_row is_space s
text_row modes.InTableText is_space s = in_table_text_text
text_row modes.InCaption is_space s = in_body_text is_space
text_row modes.InColumnGroup is_space s = in_column_group_text is_space s
text_row modes.InTableBody is_space s = in_table_text_row is_space s
text_row modes.InRow is_space s = in_table_text_row is_space s
text_row modes.InCell is_space s = in_body_text is_space
text_row modes.InTemplate is_space s = in_body_text is_space
text_row modes.AfterBody is_space s = after_body_text is_space
text_row modes.InFrameset is_space s = frameset_text is_space
text_row modes.AfterFrameset is_space s = frameset_text is_space
text_row modes.AfterAfterBody is_space s = after_after_body_text is_space
text_row modes.AfterAfterFrameset is_space s = after_after_frameset_text is_space

abbrev pub inserted_comment : List ℕ → Row
inserted_comment cs = done (insert_comment cs ∷ [])

abbrev pub comment_row : InsertionMode → List ℕ → State → Row
comment_row modes.Initial cs s = initial_comment cs
comment_row modes.BeforeHtml cs s = before_html_comment cs
comment_row modes.InTableText cs s = in_table_text_other s
comment_row modes.AfterBody cs s = after_body_comment cs
comment_row modes.AfterAfterBody cs s = after_after_body_comment cs
comment_row modes.AfterAfterFrameset cs s = after_after_frameset_comment cs
comment_row _ cs s = inserted_comment cs

abbrev pub doctype_row : InsertionMode → Doctype → State → Row
doctype_row modes.Initial d s = initial_doctype d s
doctype_row modes.InTableText d s = in_table_text_other s
doctype_row _ d s = ignored

abbrev pub start_row : InsertionMode → TagGroup → Tag → State → Row
start_row modes.Initial group t s = initial_other s
start_row modes.BeforeHtml group t s = before_html_start group t
start_row modes.BeforeHead group t s = before_head_start group t s
start_row modes.InHead group t s = in_head_start at_place group t s
start_row modes.InHeadNoscript group t s = in_head_noscript_start group t s
start_row modes.AfterHead group t s = after_head_start group t s
start_row modes.InBody group t s = in_body_start group t s
start_row modes.Text group t s = ignored
start_row modes.InTable group t s = in_table_start group t s
start_row modes.InTableText group t s = in_table_text_other s
start_row modes.InCaption group t s = in_caption_start group t s
start_row modes.InColumnGroup group t s = in_column_group_start group t s
start_row modes.InTableBody group t s = in_table_body_start group t s
start_row modes.InRow group t s = in_row_start group t s
start_row modes.InCell group t s = in_cell_start group t s
start_row modes.InTemplate group t s = in_template_start group t s
start_row modes.AfterBody group t s = after_body_start group t s
start_row modes.InFrameset group t s = in_frameset_start group t s
start_row modes.AfterFrameset group t s = after_frameset_start group t s
start_row modes.AfterAfterBody group t s = after_after_body_start group t s
start_row modes.AfterAfterFrameset group t s = after_frameset_start group t s

abbrev pub end_row : InsertionMode → TagGroup → Tag → State → Row
end_row modes.Initial group t s = initial_other s
end_row modes.BeforeHtml group t s = before_html_end group
end_row modes.BeforeHead group t s = before_head_end group
end_row modes.InHead group t s = in_head_end group s
end_row modes.InHeadNoscript group t s = in_head_noscript_end group
end_row modes.AfterHead group t s = after_head_end group s
end_row modes.InBody group t s = in_body_end group t s
end_row modes.Text group t s = text_mode_end group s
end_row modes.InTable group t s = in_table_end group t s
end_row modes.InTableText group t s = in_table_text_other s
end_row modes.InCaption group t s = in_caption_end group t s
end_row modes.InColumnGroup group t s = in_column_group_end group s
end_row modes.InTableBody group t s = in_table_body_end group t s
end_row modes.InRow group t s = in_row_end group t s
end_row modes.InCell group t s = in_cell_end group t s
end_row modes.InTemplate group t s = in_template_end group s
end_row modes.AfterBody group t s = after_body_end group s
end_row modes.InFrameset group t s = in_frameset_end group s
end_row modes.AfterFrameset group t s = after_frameset_end group
end_row modes.AfterAfterBody group t s = after_after_body_end
end_row modes.AfterAfterFrameset group t s = ignored

abbrev pub end_of_file_row : InsertionMode → State → Row
end_of_file_row modes.Initial s = initial_other s
end_of_file_row modes.BeforeHtml s = again html_made
end_of_file_row modes.BeforeHead s = again head_made
end_of_file_row modes.InHead s = again head_closed
end_of_file_row modes.InHeadNoscript s = again noscript_closed
end_of_file_row modes.AfterHead s = again body_made
end_of_file_row modes.InBody s = in_body_end_of_file s
end_of_file_row modes.Text s = text_mode_end_of_file
end_of_file_row modes.InTable s = in_table_end_of_file s
end_of_file_row modes.InTableText s = in_table_text_other s
end_of_file_row modes.InCaption s = in_body_end_of_file s
end_of_file_row modes.InColumnGroup s = in_column_group_end_of_file s
end_of_file_row modes.InTableBody s = in_table_end_of_file s
end_of_file_row modes.InRow s = in_table_end_of_file s
end_of_file_row modes.InCell s = in_body_end_of_file s
end_of_file_row modes.InTemplate s = in_template_end_of_file s
end_of_file_row modes.AfterBody s = after_body_end_of_file
end_of_file_row modes.InFrameset s = frameset_end_of_file
end_of_file_row modes.AfterFrameset s = frameset_end_of_file
end_of_file_row modes.AfterAfterBody s = after_after_body_end_of_file
end_of_file_row modes.AfterAfterFrameset s = frameset_end_of_file

abbrev pub row : InsertionMode → TreeToken → State → Row
row mode (character c) s = for_character c (text_row mode (is_white_space c) s)
row mode null s = for_null (text_row mode false s)
row mode (comment cs) s = comment_row mode cs s
row mode (doctype d) s = doctype_row mode d s
row mode (start t) s = start_row mode (tag_group t.name) t s
row mode (finish t) s = end_row mode (tag_group t.name) t s
row mode end_of_file s = end_of_file_row mode s
