-- End tags, comments, doctypes and the end of a page in the usual modes: rows do mild actions alone (WHATWG HTML,
-- 13.2.6.4). A clause on any other group is checked group by group.
use Rattle.std.proofs.Common.{◌≡◌, ℕ, true, false, List, codes, refl}
use Rattle.html_lexemes.specs.declared.token.Doctype.{Doctype}
use Rattle.html_lexemes.specs.declared.token.Tag.{Tag}
use Rattle.tree_names.specs.Wanted.{one}
use Rattle.tree_names.specs.declared.group.TagGroup.{TagGroup}
use Rattle.tree_names.specs.declared.group.TagGroup.TheVariants as groups
use Rattle.rules_table.specs.Actions.{is_known}
use Rattle.rules_table.specs.Asking.{in_table_scope}
use Rattle.rules_table.specs.InBodyEnds.{in_body_end}
use Rattle.rules_table.specs.InRow.{is_in_row, past_row}
use Rattle.rules_table.specs.InTable.{in_table_end}
use Rattle.rules_table.specs.InCell.{outer_end, past_cell}
use Rattle.rules_table.specs.Rows.{ignored}
use Rattle.rules_table.specs.State.{State}
use Rattle.rules_table.specs.Table.{comment_row, doctype_row, end_of_file_row, end_row}
use Rattle.tree_predicates.specs.declared.modes.InsertionMode.{InsertionMode}
use Rattle.tree_predicates.specs.declared.modes.InsertionMode.TheVariants as modes
use Rattle.page_tree_laws.proofs.MildRows.{body_end_mild, file_end_mild, mild_fostered, mild_if, template_mild}
use Rattle.page_tree_laws.proofs.MildStarts.{initial_mild, past_body_mild, past_caption_mild, past_cell_mild}
use Rattle.page_tree_laws.proofs.MildStarts.{past_row_mild}
use Rattle.page_tree_laws.proofs.PlainStates.{IsMildRow}
use Rattle.page_tree_laws.proofs.UsualModes.{is_usual}

before_html_mild : (group : TagGroup) (t : Tag) (s : State) → IsMildRow (end_row modes.BeforeHtml group t s)
before_html_mild groups.Head t s = (refl, (refl, tt))
before_html_mild groups.Body t s = (refl, (refl, tt))
before_html_mild groups.Html t s = (refl, (refl, tt))
before_html_mild groups.LineBreak t s = (refl, (refl, tt))
before_html_mild group t s = tt

before_head_mild : (group : TagGroup) (t : Tag) (s : State) → IsMildRow (end_row modes.BeforeHead group t s)
before_head_mild groups.Head t s = (refl, (tt, (refl, tt)))
before_head_mild groups.Body t s = (refl, (tt, (refl, tt)))
before_head_mild groups.Html t s = (refl, (tt, (refl, tt)))
before_head_mild groups.LineBreak t s = (refl, (tt, (refl, tt)))
before_head_mild group t s = tt

in_head_mild : (group : TagGroup) (t : Tag) (s : State) → IsMildRow (end_row modes.InHead group t s)
in_head_mild groups.Head t s = (tt, (refl, tt))
in_head_mild groups.Body t s = (tt, (refl, tt))
in_head_mild groups.Html t s = (tt, (refl, tt))
in_head_mild groups.LineBreak t s = (tt, (refl, tt))
in_head_mild groups.Template t s = template_mild s
in_head_mild group t s = tt

in_noscript_mild : (group : TagGroup) (t : Tag) (s : State) → IsMildRow (end_row modes.InHeadNoscript group t s)
in_noscript_mild groups.Noscript t s = (tt, (refl, tt))
in_noscript_mild groups.LineBreak t s = (tt, (refl, tt))
in_noscript_mild group t s = tt

after_head_mild : (group : TagGroup) (t : Tag) (s : State) → IsMildRow (end_row modes.AfterHead group t s)
after_head_mild groups.Template t s = template_mild s
after_head_mild groups.Body t s = (refl, (refl, tt))
after_head_mild groups.Html t s = (refl, (refl, tt))
after_head_mild groups.LineBreak t s = (refl, (refl, tt))
after_head_mild group t s = tt

text_mild : (group : TagGroup) (t : Tag) (s : State) → IsMildRow (end_row modes.Text group t s)
text_mild groups.Script t s = (tt, (tt, tt))
text_mild group t s = (tt, (tt, tt))

in_table_mild : (group : TagGroup) (t : Tag) (s : State) → IsMildRow (in_table_end group t s)
in_table_mild groups.Table t s = mild_if (in_table_scope (one (codes "table")) s) _ ignored (tt, (tt, tt)) tt
in_table_mild groups.Body t s = tt
in_table_mild groups.Caption t s = tt
in_table_mild groups.Column t s = tt
in_table_mild groups.ColumnGroup t s = tt
in_table_mild groups.Html t s = tt
in_table_mild groups.Section t s = tt
in_table_mild groups.Cell t s = tt
in_table_mild groups.Row t s = tt
in_table_mild groups.Template t s = template_mild s
in_table_mild group t s = mild_fostered (in_body_end group t s) (body_end_mild group t s)

in_caption_mild : (group : TagGroup) (t : Tag) (s : State) → IsMildRow (end_row modes.InCaption group t s)
in_caption_mild groups.Caption t s =
    mild_if (in_table_scope (one (codes "caption")) s) _ ignored (tt, (tt, (tt, (refl, tt)))) tt
in_caption_mild groups.Table t s = past_caption_mild s
in_caption_mild groups.Body t s = tt
in_caption_mild groups.Column t s = tt
in_caption_mild groups.ColumnGroup t s = tt
in_caption_mild groups.Html t s = tt
in_caption_mild groups.Section t s = tt
in_caption_mild groups.Cell t s = tt
in_caption_mild groups.Row t s = tt
in_caption_mild group t s = body_end_mild group t s

in_body_of_table_mild : (group : TagGroup) (t : Tag) (s : State) → IsMildRow (end_row modes.InTableBody group t s)
in_body_of_table_mild groups.Section t s =
    mild_if (in_table_scope (one t.name) s) _ ignored (tt, (tt, (refl, tt))) tt
in_body_of_table_mild groups.Table t s = past_body_mild s
in_body_of_table_mild groups.Body t s = tt
in_body_of_table_mild groups.Caption t s = tt
in_body_of_table_mild groups.Column t s = tt
in_body_of_table_mild groups.ColumnGroup t s = tt
in_body_of_table_mild groups.Html t s = tt
in_body_of_table_mild groups.Cell t s = tt
in_body_of_table_mild groups.Row t s = tt
in_body_of_table_mild group t s = in_table_mild group t s

in_row_mild : (group : TagGroup) (t : Tag) (s : State) → IsMildRow (end_row modes.InRow group t s)
in_row_mild groups.Row t s = mild_if (is_in_row s) _ ignored (tt, (tt, (refl, tt))) tt
in_row_mild groups.Table t s = past_row_mild s
in_row_mild groups.Section t s = mild_if (in_table_scope (one t.name) s) (past_row s) ignored (past_row_mild s) tt
in_row_mild groups.Body t s = tt
in_row_mild groups.Caption t s = tt
in_row_mild groups.Column t s = tt
in_row_mild groups.ColumnGroup t s = tt
in_row_mild groups.Html t s = tt
in_row_mild groups.Cell t s = tt
in_row_mild group t s = in_table_mild group t s

outer_mild : (t : Tag) (s : State) → IsMildRow (outer_end t s)
outer_mild t s = mild_if (in_table_scope (one t.name) s) (past_cell s) ignored (past_cell_mild s) tt

in_cell_mild : (group : TagGroup) (t : Tag) (s : State) → IsMildRow (end_row modes.InCell group t s)
in_cell_mild groups.Cell t s = mild_if (in_table_scope (one t.name) s) _ ignored (tt, (tt, (tt, (refl, tt)))) tt
in_cell_mild groups.Body t s = tt
in_cell_mild groups.Caption t s = tt
in_cell_mild groups.Column t s = tt
in_cell_mild groups.ColumnGroup t s = tt
in_cell_mild groups.Html t s = tt
in_cell_mild groups.Table t s = outer_mild t s
in_cell_mild groups.Section t s = outer_mild t s
in_cell_mild groups.Row t s = outer_mild t s
in_cell_mild group t s = body_end_mild group t s

after_body_mild : (group : TagGroup) (t : Tag) (s : State) → IsMildRow (end_row modes.AfterBody group t s)
after_body_mild groups.Html t s = mild_if (is_known s.context) ignored _ tt (refl, tt)
after_body_mild group t s = (refl, tt)

none : {A : Type 0} → false ≡ true → A
none e = absurd (cc)

pub end_mild : (mode : InsertionMode) (group : TagGroup) (t : Tag) (s : State) → is_usual mode ≡ true →
    IsMildRow (end_row mode group t s)
end_mild modes.Initial group t s usual = initial_mild s
end_mild modes.BeforeHtml group t s usual = before_html_mild group t s
end_mild modes.BeforeHead group t s usual = before_head_mild group t s
end_mild modes.InHead group t s usual = in_head_mild group t s
end_mild modes.InHeadNoscript group t s usual = in_noscript_mild group t s
end_mild modes.AfterHead group t s usual = after_head_mild group t s
end_mild modes.InBody group t s usual = body_end_mild group t s
end_mild modes.Text group t s usual = text_mild group t s
end_mild modes.InTable group t s usual = in_table_mild group t s
end_mild modes.InTableText group t s usual = none usual
end_mild modes.InCaption group t s usual = in_caption_mild group t s
end_mild modes.InColumnGroup group t s usual = none usual
end_mild modes.InTableBody group t s usual = in_body_of_table_mild group t s
end_mild modes.InRow group t s usual = in_row_mild group t s
end_mild modes.InCell group t s usual = in_cell_mild group t s
end_mild modes.InTemplate group t s usual = none usual
end_mild modes.AfterBody group t s usual = after_body_mild group t s
end_mild modes.InFrameset group t s usual = none usual
end_mild modes.AfterFrameset group t s usual = none usual
end_mild modes.AfterAfterBody group t s usual = (refl, tt)
end_mild modes.AfterAfterFrameset group t s usual = none usual

pub comment_mild : (mode : InsertionMode) (cs : List ℕ) (s : State) → is_usual mode ≡ true →
    IsMildRow (comment_row mode cs s)
comment_mild modes.Initial cs s usual = (tt, tt)
comment_mild modes.BeforeHtml cs s usual = (tt, tt)
comment_mild modes.InTableText cs s usual = none usual
comment_mild modes.AfterBody cs s usual = (tt, tt)
comment_mild modes.AfterAfterBody cs s usual = (tt, tt)
comment_mild modes.AfterAfterFrameset cs s usual = (tt, tt)
comment_mild mode cs s usual = (tt, tt)

pub doctype_mild : (mode : InsertionMode) (d : Doctype) (s : State) → is_usual mode ≡ true →
    IsMildRow (doctype_row mode d s)
doctype_mild modes.Initial d s usual =
    mild_if s.options.drop_doctype _ _ (tt, (refl, tt)) (tt, (tt, (refl, tt)))
doctype_mild modes.InTableText d s usual = none usual
doctype_mild mode d s usual = tt

pub file_mild : (mode : InsertionMode) (s : State) → is_usual mode ≡ true → IsMildRow (end_of_file_row mode s)
file_mild modes.Initial s usual = initial_mild s
file_mild modes.BeforeHtml s usual = (refl, (refl, tt))
file_mild modes.BeforeHead s usual = (refl, (tt, (refl, tt)))
file_mild modes.InHead s usual = (tt, (refl, tt))
file_mild modes.InHeadNoscript s usual = (tt, (refl, tt))
file_mild modes.AfterHead s usual = (refl, (refl, tt))
file_mild modes.Text s usual = (tt, (tt, tt))
file_mild modes.InTableText s usual = none usual
file_mild modes.InColumnGroup s usual = none usual
file_mild modes.InTemplate s usual = none usual
file_mild modes.AfterBody s usual = tt
file_mild modes.InFrameset s usual = none usual
file_mild modes.AfterFrameset s usual = none usual
file_mild modes.AfterAfterBody s usual = tt
file_mild modes.AfterAfterFrameset s usual = none usual
file_mild mode s usual = file_end_mild s
