-- End tags: the rank falls where they are handed on (WHATWG HTML, 13.2.6.4). A clause on any other group is checked
-- group by group.
use Rattle.std.proofs.Common.{◌≡◌, codes}
use Rattle.html_lexemes.specs.declared.token.Tag.{Tag}
use Rattle.tree_names.specs.Wanted.{one}
use Rattle.tree_names.specs.declared.group.TagGroup.{TagGroup}
use Rattle.rules_table_laws.proofs.ActionLemmas.{Facts}
use Rattle.rules_table_laws.proofs.FallForms.{FallsAt, at_once, once_if}
use Rattle.rules_table_laws.proofs.LessLemmas.{less_11_12, less_12_13, less_2_3, less_3_4, less_3_5, less_3_8, less_4_5}
use Rattle.rules_table_laws.proofs.LessLemmas.{less_4_7, less_5_6, less_6_7, less_8_9, less_9_10, less_9_11}
use Rattle.rules_table_laws.proofs.PartFalls.{body_again_falls, body_made_falls, head_closed_falls, head_made_falls}
use Rattle.rules_table_laws.proofs.PartFalls.{html_made_falls, noscript_closed_falls, pending_falls}
use Rattle.rules_table_laws.proofs.PartFalls.{without_doctype_falls}
use Rattle.rules_table_laws.proofs.PlaceBounds.{below_table_text, html_back, usual_back}
use Rattle.rules_table_laws.proofs.RowFalls.{body_end_falls, body_ended_falls, done_in_scope, fostered_end_falls}
use Rattle.rules_table_laws.proofs.RowFalls.{frameset_end_falls, outer_end_falls, past_caption_falls}
use Rattle.rules_table_laws.proofs.RowFalls.{past_column_group_falls, past_row_falls, past_table_body_falls}
use Rattle.rules_table_laws.proofs.RowFalls.{section_in_row_falls, template_falls}
use Rattle.rules_table.specs.Actions.{is_known}
use Rattle.rules_table.specs.AfterBody.{after_body_end}
use Rattle.rules_table.specs.InCaption.{caption_closed}
use Rattle.rules_table.specs.InCell.{cell_closed}
use Rattle.rules_table.specs.InColumnGroup.{in_column_group_end, is_in_column_group}
use Rattle.rules_table.specs.InRow.{row_closed}
use Rattle.rules_table.specs.InTable.{table_closed}
use Rattle.rules_table.specs.InTableBody.{section_closed}
use Rattle.rules_table.specs.Rank.{end_place}
use Rattle.rules_table.specs.Settling.{Ready}
use Rattle.rules_table.specs.State.{State}
use Rattle.rules_table.specs.Table.{end_row}
use Rattle.tree_predicates.specs.declared.modes.InsertionMode.{InsertionMode}
use Rattle.tree_names.specs.declared.group.TagGroup.TheVariants as groups
use Rattle.tree_predicates.specs.declared.modes.InsertionMode.TheVariants as modes

pub end_initial : Facts → (group : TagGroup) (t : Tag) (s : State) → s.mode ≡ modes.Initial → Ready s →
    FallsAt (end_place group) s (end_row modes.Initial group t s)
end_initial facts groups.Anchor t s was ready =
    without_doctype_falls facts (end_place groups.Anchor) modes.Initial s ready was less_12_13
end_initial facts group t s was ready =
    without_doctype_falls facts (end_place group) modes.Initial s ready was less_12_13

pub end_before_html : Facts → (group : TagGroup) (t : Tag) (s : State) → s.mode ≡ modes.BeforeHtml → Ready s →
    FallsAt (end_place group) s (end_row modes.BeforeHtml group t s)
end_before_html facts groups.Body t s was ready =
    html_made_falls facts (end_place groups.Body) modes.BeforeHtml s ready was less_11_12
end_before_html facts groups.Head t s was ready =
    html_made_falls facts (end_place groups.Head) modes.BeforeHtml s ready was less_11_12
end_before_html facts groups.Html t s was ready =
    html_made_falls facts (end_place groups.Html) modes.BeforeHtml s ready was less_11_12
end_before_html facts groups.LineBreak t s was ready =
    html_made_falls facts (end_place groups.LineBreak) modes.BeforeHtml s ready was less_11_12
end_before_html facts group t s was ready = tt

pub end_before_head : Facts → (group : TagGroup) (t : Tag) (s : State) → s.mode ≡ modes.BeforeHead → Ready s →
    FallsAt (end_place group) s (end_row modes.BeforeHead group t s)
end_before_head facts groups.Body t s was ready =
    head_made_falls facts (end_place groups.Body) modes.BeforeHead s ready was less_9_11
end_before_head facts groups.Head t s was ready =
    head_made_falls facts (end_place groups.Head) modes.BeforeHead s ready was less_9_11
end_before_head facts groups.Html t s was ready =
    head_made_falls facts (end_place groups.Html) modes.BeforeHead s ready was less_9_11
end_before_head facts groups.LineBreak t s was ready =
    head_made_falls facts (end_place groups.LineBreak) modes.BeforeHead s ready was less_9_11
end_before_head facts group t s was ready = tt

pub end_in_head : Facts → (group : TagGroup) (t : Tag) (s : State) → s.mode ≡ modes.InHead → Ready s →
    FallsAt (end_place group) s (end_row modes.InHead group t s)
end_in_head facts groups.Body t s was ready =
    head_closed_falls facts (end_place groups.Body) modes.InHead s ready was less_8_9
end_in_head facts groups.Html t s was ready =
    head_closed_falls facts (end_place groups.Html) modes.InHead s ready was less_8_9
end_in_head facts groups.LineBreak t s was ready =
    head_closed_falls facts (end_place groups.LineBreak) modes.InHead s ready was less_8_9
end_in_head facts groups.Template t s was ready = template_falls (end_place groups.Template) s
end_in_head facts group t s was ready = tt

pub end_in_head_noscript : Facts → (group : TagGroup) (t : Tag) (s : State) → s.mode ≡ modes.InHeadNoscript → Ready s →
    FallsAt (end_place group) s (end_row modes.InHeadNoscript group t s)
end_in_head_noscript facts groups.LineBreak t s was ready =
    noscript_closed_falls facts (end_place groups.LineBreak) modes.InHeadNoscript s ready was less_9_10
end_in_head_noscript facts group t s was ready = tt

pub end_after_head : Facts → (group : TagGroup) (t : Tag) (s : State) → s.mode ≡ modes.AfterHead → Ready s →
    FallsAt (end_place group) s (end_row modes.AfterHead group t s)
end_after_head facts groups.Body t s was ready =
    body_made_falls facts (end_place groups.Body) modes.AfterHead s ready was less_3_8
end_after_head facts groups.Html t s was ready =
    body_made_falls facts (end_place groups.Html) modes.AfterHead s ready was less_3_8
end_after_head facts groups.LineBreak t s was ready =
    body_made_falls facts (end_place groups.LineBreak) modes.AfterHead s ready was less_3_8
end_after_head facts groups.Template t s was ready = template_falls (end_place groups.Template) s
end_after_head facts group t s was ready = tt

pub end_in_body : Facts → (group : TagGroup) (t : Tag) (s : State) → s.mode ≡ modes.InBody → Ready s →
    FallsAt (end_place group) s (end_row modes.InBody group t s)
end_in_body facts groups.Html t s was ready =
    body_ended_falls facts (end_place groups.Html) modes.InBody s ready was less_2_3
end_in_body facts group t s was ready = body_end_falls (end_place group) group t s tt

pub end_text : Facts → (group : TagGroup) (t : Tag) (s : State) → s.mode ≡ modes.Text → Ready s →
    FallsAt (end_place group) s (end_row modes.Text group t s)
end_text facts groups.Anchor t s was ready = tt
end_text facts group t s was ready = tt

pub end_in_table : Facts → (group : TagGroup) (t : Tag) (s : State) → s.mode ≡ modes.InTable → Ready s →
    FallsAt (end_place group) s (end_row modes.InTable group t s)
end_in_table facts groups.Body t s was ready = tt
end_in_table facts groups.Caption t s was ready = tt
end_in_table facts groups.Cell t s was ready = tt
end_in_table facts groups.Column t s was ready = tt
end_in_table facts groups.ColumnGroup t s was ready = tt
end_in_table facts groups.Html t s was ready = tt
end_in_table facts groups.Row t s was ready = tt
end_in_table facts groups.Section t s was ready = tt
end_in_table facts groups.Table t s was ready =
    done_in_scope (end_place groups.Table) (one (codes "table")) table_closed s
end_in_table facts groups.Template t s was ready = template_falls (end_place groups.Template) s
end_in_table facts group t s was ready = fostered_end_falls (end_place group) group t s tt

pub end_in_table_text : Facts → (group : TagGroup) (t : Tag) (s : State) → s.mode ≡ modes.InTableText → Ready s →
    FallsAt (end_place group) s (end_row modes.InTableText group t s)
end_in_table_text facts groups.Html t s was ready =
    pending_falls facts (end_place groups.Html) modes.InTableText s ready was
    (below_table_text _ (html_back s.original))
end_in_table_text facts group t s was ready =
    pending_falls facts (end_place group) modes.InTableText s ready was (below_table_text _ (usual_back s.original))

pub end_in_caption : Facts → (group : TagGroup) (t : Tag) (s : State) → s.mode ≡ modes.InCaption → Ready s →
    FallsAt (end_place group) s (end_row modes.InCaption group t s)
end_in_caption facts groups.Body t s was ready = tt
end_in_caption facts groups.Caption t s was ready =
    done_in_scope (end_place groups.Caption) (one (codes "caption")) caption_closed s
end_in_caption facts groups.Cell t s was ready = tt
end_in_caption facts groups.Column t s was ready = tt
end_in_caption facts groups.ColumnGroup t s was ready = tt
end_in_caption facts groups.Html t s was ready = tt
end_in_caption facts groups.Row t s was ready = tt
end_in_caption facts groups.Section t s was ready = tt
end_in_caption facts groups.Table t s was ready =
    past_caption_falls facts (end_place groups.Table) modes.InCaption s ready was less_4_7
end_in_caption facts group t s was ready = body_end_falls (end_place group) group t s tt

pub end_in_column_group : Facts → (group : TagGroup) (t : Tag) (s : State) → s.mode ≡ modes.InColumnGroup → Ready s →
    FallsAt (end_place group) s (end_row modes.InColumnGroup group t s)
end_in_column_group facts groups.Column t s was ready = tt
end_in_column_group facts groups.ColumnGroup t s was ready =
    at_once (end_place groups.ColumnGroup) s (in_column_group_end groups.ColumnGroup s)
    (once_if (is_in_column_group s) _ _ tt tt)
end_in_column_group facts groups.Template t s was ready = template_falls (end_place groups.Template) s
end_in_column_group facts group t s was ready =
    past_column_group_falls facts (end_place group) modes.InColumnGroup s ready was less_4_5

pub end_in_table_body : Facts → (group : TagGroup) (t : Tag) (s : State) → s.mode ≡ modes.InTableBody → Ready s →
    FallsAt (end_place group) s (end_row modes.InTableBody group t s)
end_in_table_body facts groups.Body t s was ready = tt
end_in_table_body facts groups.Caption t s was ready = tt
end_in_table_body facts groups.Cell t s was ready = tt
end_in_table_body facts groups.Column t s was ready = tt
end_in_table_body facts groups.ColumnGroup t s was ready = tt
end_in_table_body facts groups.Html t s was ready = tt
end_in_table_body facts groups.Row t s was ready = tt
end_in_table_body facts groups.Section t s was ready =
    done_in_scope (end_place groups.Section) (one t.name) section_closed s
end_in_table_body facts groups.Table t s was ready =
    past_table_body_falls facts (end_place groups.Table) modes.InTableBody s ready was less_4_5
end_in_table_body facts groups.Template t s was ready = template_falls (end_place groups.Template) s
end_in_table_body facts group t s was ready = fostered_end_falls (end_place group) group t s tt

pub end_in_row : Facts → (group : TagGroup) (t : Tag) (s : State) → s.mode ≡ modes.InRow → Ready s →
    FallsAt (end_place group) s (end_row modes.InRow group t s)
end_in_row facts groups.Body t s was ready = tt
end_in_row facts groups.Caption t s was ready = tt
end_in_row facts groups.Cell t s was ready = tt
end_in_row facts groups.Column t s was ready = tt
end_in_row facts groups.ColumnGroup t s was ready = tt
end_in_row facts groups.Html t s was ready = tt
end_in_row facts groups.Row t s was ready = done_in_scope (end_place groups.Row) (one (codes "tr")) row_closed s
end_in_row facts groups.Section t s was ready =
    section_in_row_falls facts (end_place groups.Section) modes.InRow t s ready was less_5_6
end_in_row facts groups.Table t s was ready =
    past_row_falls facts (end_place groups.Table) modes.InRow s ready was less_5_6
end_in_row facts groups.Template t s was ready = template_falls (end_place groups.Template) s
end_in_row facts group t s was ready = fostered_end_falls (end_place group) group t s tt

pub end_in_cell : Facts → (group : TagGroup) (t : Tag) (s : State) → s.mode ≡ modes.InCell → Ready s →
    FallsAt (end_place group) s (end_row modes.InCell group t s)
end_in_cell facts groups.Body t s was ready = tt
end_in_cell facts groups.Caption t s was ready = tt
end_in_cell facts groups.Cell t s was ready =
    done_in_scope (end_place groups.Cell) (one t.name) (cell_closed (one t.name)) s
end_in_cell facts groups.Column t s was ready = tt
end_in_cell facts groups.ColumnGroup t s was ready = tt
end_in_cell facts groups.Html t s was ready = tt
end_in_cell facts groups.Row t s was ready =
    outer_end_falls facts (end_place groups.Row) modes.InCell t s ready was less_6_7
end_in_cell facts groups.Section t s was ready =
    outer_end_falls facts (end_place groups.Section) modes.InCell t s ready was less_6_7
end_in_cell facts groups.Table t s was ready =
    outer_end_falls facts (end_place groups.Table) modes.InCell t s ready was less_6_7
end_in_cell facts group t s was ready = body_end_falls (end_place group) group t s tt

pub end_in_template : Facts → (group : TagGroup) (t : Tag) (s : State) → s.mode ≡ modes.InTemplate → Ready s →
    FallsAt (end_place group) s (end_row modes.InTemplate group t s)
end_in_template facts groups.Template t s was ready = template_falls (end_place groups.Template) s
end_in_template facts group t s was ready = tt

pub end_after_body : Facts → (group : TagGroup) (t : Tag) (s : State) → s.mode ≡ modes.AfterBody → Ready s →
    FallsAt (end_place group) s (end_row modes.AfterBody group t s)
end_after_body facts groups.Html t s was ready =
    at_once (end_place groups.Html) s (after_body_end groups.Html s) (once_if (is_known s.context) _ _ tt tt)
end_after_body facts group t s was ready =
    body_again_falls facts (end_place group) modes.AfterBody s ready was less_3_4

pub end_in_frameset : Facts → (group : TagGroup) (t : Tag) (s : State) → s.mode ≡ modes.InFrameset → Ready s →
    FallsAt (end_place group) s (end_row modes.InFrameset group t s)
end_in_frameset facts groups.Frameset t s was ready = frameset_end_falls (end_place groups.Frameset) s
end_in_frameset facts group t s was ready = tt

pub end_after_frameset : Facts → (group : TagGroup) (t : Tag) (s : State) → s.mode ≡ modes.AfterFrameset → Ready s →
    FallsAt (end_place group) s (end_row modes.AfterFrameset group t s)
end_after_frameset facts groups.Anchor t s was ready = tt
end_after_frameset facts group t s was ready = tt

pub end_after_after_body : Facts → (group : TagGroup) (t : Tag) (s : State) → s.mode ≡ modes.AfterAfterBody → Ready s →
    FallsAt (end_place group) s (end_row modes.AfterAfterBody group t s)
end_after_after_body facts groups.Anchor t s was ready =
    body_again_falls facts (end_place groups.Anchor) modes.AfterAfterBody s ready was less_3_5
end_after_after_body facts group t s was ready =
    body_again_falls facts (end_place group) modes.AfterAfterBody s ready was less_3_5

pub end_after_after_frameset : Facts → (group : TagGroup) (t : Tag) (s : State) → s.mode ≡ modes.AfterAfterFrameset →
    Ready s →
    FallsAt (end_place group) s (end_row modes.AfterAfterFrameset group t s)
end_after_after_frameset facts group t s was ready = tt

pub end_falls : Facts → (mode : InsertionMode) (group : TagGroup) (t : Tag) (s : State) → s.mode ≡ mode → Ready s →
    FallsAt (end_place group) s (end_row mode group t s)
end_falls facts modes.Initial group t s was ready = end_initial facts group t s was ready
end_falls facts modes.BeforeHtml group t s was ready = end_before_html facts group t s was ready
end_falls facts modes.BeforeHead group t s was ready = end_before_head facts group t s was ready
end_falls facts modes.InHead group t s was ready = end_in_head facts group t s was ready
end_falls facts modes.InHeadNoscript group t s was ready = end_in_head_noscript facts group t s was ready
end_falls facts modes.AfterHead group t s was ready = end_after_head facts group t s was ready
end_falls facts modes.InBody group t s was ready = end_in_body facts group t s was ready
end_falls facts modes.Text group t s was ready = end_text facts group t s was ready
end_falls facts modes.InTable group t s was ready = end_in_table facts group t s was ready
end_falls facts modes.InTableText group t s was ready = end_in_table_text facts group t s was ready
end_falls facts modes.InCaption group t s was ready = end_in_caption facts group t s was ready
end_falls facts modes.InColumnGroup group t s was ready = end_in_column_group facts group t s was ready
end_falls facts modes.InTableBody group t s was ready = end_in_table_body facts group t s was ready
end_falls facts modes.InRow group t s was ready = end_in_row facts group t s was ready
end_falls facts modes.InCell group t s was ready = end_in_cell facts group t s was ready
end_falls facts modes.InTemplate group t s was ready = end_in_template facts group t s was ready
end_falls facts modes.AfterBody group t s was ready = end_after_body facts group t s was ready
end_falls facts modes.InFrameset group t s was ready = end_in_frameset facts group t s was ready
end_falls facts modes.AfterFrameset group t s was ready = end_after_frameset facts group t s was ready
end_falls facts modes.AfterAfterBody group t s was ready = end_after_after_body facts group t s was ready
end_falls facts modes.AfterAfterFrameset group t s was ready = end_after_after_frameset facts group t s was ready
