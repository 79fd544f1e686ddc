-- Start tags: the rank falls where they are handed on (WHATWG HTML, 13.2.6.4). A clause on any other group is checked
-- group by group.
use Rattle.std.proofs.Common.{◌≡◌, refl}
use Rattle.html_lexemes.specs.declared.token.Tag.{Tag}
use Rattle.tree_names.specs.declared.group.TagGroup.{TagGroup}
use Rattle.rules_table_laws.proofs.ActionLemmas.{Facts}
use Rattle.rules_table_laws.proofs.FallForms.{FallsAt}
use Rattle.rules_table_laws.proofs.LessLemmas.{less_11_12, less_12_13, less_2_3, less_2_7, less_2_8, less_3_4, less_3_5}
use Rattle.rules_table_laws.proofs.LessLemmas.{less_3_6, less_3_8, less_4_5, less_4_7, less_4_8, less_5_6, less_6_7}
use Rattle.rules_table_laws.proofs.LessLemmas.{less_8_9, less_9_10, less_9_11}
use Rattle.rules_table_laws.proofs.PartFalls.{becomes_falls, body_again_falls, body_made_falls, column_group_made_falls}
use Rattle.rules_table_laws.proofs.PartFalls.{head_closed_falls, head_made_falls, html_made_falls}
use Rattle.rules_table_laws.proofs.PartFalls.{noscript_closed_falls, pending_falls, row_made_falls, section_made_falls}
use Rattle.rules_table_laws.proofs.PartFalls.{without_doctype_falls}
use Rattle.rules_table_laws.proofs.PlaceBounds.{below_table_text, cell_back, column_back, row_back, usual_back}
use Rattle.rules_table_laws.proofs.PlaceBounds.{usual_bound}
use Rattle.rules_table_laws.proofs.RowFalls.{body_start_falls, form_falls, fostered_start_falls, html_falls}
use Rattle.rules_table_laws.proofs.RowFalls.{input_falls, meta_falls, noscript_falls, past_caption_falls}
use Rattle.rules_table_laws.proofs.RowFalls.{past_cell_falls, past_column_group_falls, past_row_falls}
use Rattle.rules_table_laws.proofs.RowFalls.{past_table_body_falls, table_start_falls}
use Rattle.rules_table.specs.Actions.{at_place, into_head}
use Rattle.rules_table.specs.Rank.{start_place}
use Rattle.rules_table.specs.Settling.{Ready}
use Rattle.rules_table.specs.State.{State}
use Rattle.rules_table.specs.Table.{start_row}
use Rattle.tree_predicates.specs.declared.modes.InsertionMode.{InsertionMode}
use Rattle.tree_names.specs.declared.group.TagGroup.TheVariants as groups
use Rattle.tree_predicates.specs.declared.modes.InsertionMode.TheVariants as modes

pub start_initial : Facts → (group : TagGroup) (t : Tag) (s : State) → s.mode ≡ modes.Initial → Ready s →
    FallsAt (start_place group) s (start_row modes.Initial group t s)
start_initial facts groups.Anchor t s was ready =
    without_doctype_falls facts (start_place groups.Anchor) modes.Initial s ready was less_12_13
start_initial facts group t s was ready =
    without_doctype_falls facts (start_place group) modes.Initial s ready was less_12_13

pub start_before_html : Facts → (group : TagGroup) (t : Tag) (s : State) → s.mode ≡ modes.BeforeHtml → Ready s →
    FallsAt (start_place group) s (start_row modes.BeforeHtml group t s)
start_before_html facts groups.Html t s was ready = tt
start_before_html facts group t s was ready =
    html_made_falls facts (start_place group) modes.BeforeHtml s ready was less_11_12

pub start_before_head : Facts → (group : TagGroup) (t : Tag) (s : State) → s.mode ≡ modes.BeforeHead → Ready s →
    FallsAt (start_place group) s (start_row modes.BeforeHead group t s)
start_before_head facts groups.Head t s was ready = tt
start_before_head facts groups.Html t s was ready = html_falls (start_place groups.Html) t s
start_before_head facts group t s was ready =
    head_made_falls facts (start_place group) modes.BeforeHead s ready was less_9_11

pub start_in_head : Facts → (group : TagGroup) (t : Tag) (s : State) → s.mode ≡ modes.InHead → Ready s →
    FallsAt (start_place group) s (start_row modes.InHead group t s)
start_in_head facts groups.Base t s was ready = tt
start_in_head facts groups.Head t s was ready = tt
start_in_head facts groups.Html t s was ready = html_falls (start_place groups.Html) t s
start_in_head facts groups.Link t s was ready = tt
start_in_head facts groups.Meta t s was ready = meta_falls (start_place groups.Meta) at_place t s
start_in_head facts groups.Noframes t s was ready = tt
start_in_head facts groups.Noscript t s was ready = noscript_falls (start_place groups.Noscript) at_place t s
start_in_head facts groups.Script t s was ready = tt
start_in_head facts groups.Style t s was ready = tt
start_in_head facts groups.Template t s was ready = tt
start_in_head facts groups.Title t s was ready = tt
start_in_head facts group t s was ready =
    head_closed_falls facts (start_place group) modes.InHead s ready was less_8_9

pub start_in_head_noscript : Facts → (group : TagGroup) (t : Tag) (s : State) → s.mode ≡ modes.InHeadNoscript →
    Ready s →
    FallsAt (start_place group) s (start_row modes.InHeadNoscript group t s)
start_in_head_noscript facts groups.Head t s was ready = tt
start_in_head_noscript facts groups.Html t s was ready = html_falls (start_place groups.Html) t s
start_in_head_noscript facts groups.Link t s was ready = tt
start_in_head_noscript facts groups.Meta t s was ready = meta_falls (start_place groups.Meta) at_place t s
start_in_head_noscript facts groups.Noframes t s was ready = tt
start_in_head_noscript facts groups.Noscript t s was ready = tt
start_in_head_noscript facts groups.Style t s was ready = tt
start_in_head_noscript facts group t s was ready =
    noscript_closed_falls facts (start_place group) modes.InHeadNoscript s ready was less_9_10

pub start_after_head : Facts → (group : TagGroup) (t : Tag) (s : State) → s.mode ≡ modes.AfterHead → Ready s →
    FallsAt (start_place group) s (start_row modes.AfterHead group t s)
start_after_head facts groups.Base t s was ready = tt
start_after_head facts groups.Body t s was ready = tt
start_after_head facts groups.Frameset t s was ready = tt
start_after_head facts groups.Head t s was ready = tt
start_after_head facts groups.Html t s was ready = html_falls (start_place groups.Html) t s
start_after_head facts groups.Link t s was ready = tt
start_after_head facts groups.Meta t s was ready = meta_falls (start_place groups.Meta) into_head t s
start_after_head facts groups.Noframes t s was ready = tt
start_after_head facts groups.Script t s was ready = tt
start_after_head facts groups.Style t s was ready = tt
start_after_head facts groups.Template t s was ready = tt
start_after_head facts groups.Title t s was ready = tt
start_after_head facts group t s was ready =
    body_made_falls facts (start_place group) modes.AfterHead s ready was less_3_8

pub start_in_body : Facts → (group : TagGroup) (t : Tag) (s : State) → s.mode ≡ modes.InBody → Ready s →
    FallsAt (start_place group) s (start_row modes.InBody group t s)
start_in_body facts group t s was ready = body_start_falls (start_place group) group t s

pub start_text : Facts → (group : TagGroup) (t : Tag) (s : State) → s.mode ≡ modes.Text → Ready s →
    FallsAt (start_place group) s (start_row modes.Text group t s)
start_text facts group t s was ready = tt

pub start_in_table : Facts → (group : TagGroup) (t : Tag) (s : State) → s.mode ≡ modes.InTable → Ready s →
    FallsAt (start_place group) s (start_row modes.InTable group t s)
start_in_table facts groups.Caption t s was ready = tt
start_in_table facts groups.Cell t s was ready =
    section_made_falls facts (start_place groups.Cell) modes.InTable s ready was less_3_4
start_in_table facts groups.Column t s was ready =
    column_group_made_falls facts (start_place groups.Column) modes.InTable s ready was less_3_4
start_in_table facts groups.ColumnGroup t s was ready = tt
start_in_table facts groups.Form t s was ready = form_falls (start_place groups.Form) t s
start_in_table facts groups.Input t s was ready = input_falls (start_place groups.Input) t s
start_in_table facts groups.Row t s was ready =
    section_made_falls facts (start_place groups.Row) modes.InTable s ready was less_3_4
start_in_table facts groups.Script t s was ready = tt
start_in_table facts groups.Section t s was ready = tt
start_in_table facts groups.Style t s was ready = tt
start_in_table facts groups.Table t s was ready = table_start_falls (start_place groups.Table) s usual_bound
start_in_table facts groups.Template t s was ready = tt
start_in_table facts group t s was ready = fostered_start_falls (start_place group) group t s

pub start_in_table_text : Facts → (group : TagGroup) (t : Tag) (s : State) → s.mode ≡ modes.InTableText → Ready s →
    FallsAt (start_place group) s (start_row modes.InTableText group t s)
start_in_table_text facts groups.Cell t s was ready =
    pending_falls facts (start_place groups.Cell) modes.InTableText s ready was
    (below_table_text _ (cell_back s.original))
start_in_table_text facts groups.Column t s was ready =
    pending_falls facts (start_place groups.Column) modes.InTableText s ready was
    (below_table_text _ (column_back s.original))
start_in_table_text facts groups.Row t s was ready =
    pending_falls facts (start_place groups.Row) modes.InTableText s ready was
    (below_table_text _ (row_back s.original))
start_in_table_text facts group t s was ready =
    pending_falls facts (start_place group) modes.InTableText s ready was (below_table_text _ (usual_back s.original))

pub start_in_caption : Facts → (group : TagGroup) (t : Tag) (s : State) → s.mode ≡ modes.InCaption → Ready s →
    FallsAt (start_place group) s (start_row modes.InCaption group t s)
start_in_caption facts groups.Caption t s was ready =
    past_caption_falls facts (start_place groups.Caption) modes.InCaption s ready was less_4_7
start_in_caption facts groups.Cell t s was ready =
    past_caption_falls facts (start_place groups.Cell) modes.InCaption s ready was less_4_7
start_in_caption facts groups.Column t s was ready =
    past_caption_falls facts (start_place groups.Column) modes.InCaption s ready was less_4_7
start_in_caption facts groups.ColumnGroup t s was ready =
    past_caption_falls facts (start_place groups.ColumnGroup) modes.InCaption s ready was less_4_7
start_in_caption facts groups.Row t s was ready =
    past_caption_falls facts (start_place groups.Row) modes.InCaption s ready was less_4_7
start_in_caption facts groups.Section t s was ready =
    past_caption_falls facts (start_place groups.Section) modes.InCaption s ready was less_4_7
start_in_caption facts group t s was ready = body_start_falls (start_place group) group t s

pub start_in_column_group : Facts → (group : TagGroup) (t : Tag) (s : State) → s.mode ≡ modes.InColumnGroup → Ready s →
    FallsAt (start_place group) s (start_row modes.InColumnGroup group t s)
start_in_column_group facts groups.Column t s was ready = tt
start_in_column_group facts groups.Html t s was ready = html_falls (start_place groups.Html) t s
start_in_column_group facts groups.Template t s was ready = tt
start_in_column_group facts group t s was ready =
    past_column_group_falls facts (start_place group) modes.InColumnGroup s ready was less_4_5

pub start_in_table_body : Facts → (group : TagGroup) (t : Tag) (s : State) → s.mode ≡ modes.InTableBody → Ready s →
    FallsAt (start_place group) s (start_row modes.InTableBody group t s)
start_in_table_body facts groups.Caption t s was ready =
    past_table_body_falls facts (start_place groups.Caption) modes.InTableBody s ready was less_4_5
start_in_table_body facts groups.Cell t s was ready =
    row_made_falls facts (start_place groups.Cell) modes.InTableBody s ready was less_2_3
start_in_table_body facts groups.Column t s was ready =
    past_table_body_falls facts (start_place groups.Column) modes.InTableBody s ready was less_4_5
start_in_table_body facts groups.ColumnGroup t s was ready =
    past_table_body_falls facts (start_place groups.ColumnGroup) modes.InTableBody s ready was less_4_5
start_in_table_body facts groups.Form t s was ready = form_falls (start_place groups.Form) t s
start_in_table_body facts groups.Input t s was ready = input_falls (start_place groups.Input) t s
start_in_table_body facts groups.Row t s was ready = tt
start_in_table_body facts groups.Script t s was ready = tt
start_in_table_body facts groups.Section t s was ready =
    past_table_body_falls facts (start_place groups.Section) modes.InTableBody s ready was less_4_5
start_in_table_body facts groups.Style t s was ready = tt
start_in_table_body facts groups.Table t s was ready = table_start_falls (start_place groups.Table) s usual_bound
start_in_table_body facts groups.Template t s was ready = tt
start_in_table_body facts group t s was ready = fostered_start_falls (start_place group) group t s

pub start_in_row : Facts → (group : TagGroup) (t : Tag) (s : State) → s.mode ≡ modes.InRow → Ready s →
    FallsAt (start_place group) s (start_row modes.InRow group t s)
start_in_row facts groups.Caption t s was ready =
    past_row_falls facts (start_place groups.Caption) modes.InRow s ready was less_5_6
start_in_row facts groups.Cell t s was ready = tt
start_in_row facts groups.Column t s was ready =
    past_row_falls facts (start_place groups.Column) modes.InRow s ready was less_5_6
start_in_row facts groups.ColumnGroup t s was ready =
    past_row_falls facts (start_place groups.ColumnGroup) modes.InRow s ready was less_5_6
start_in_row facts groups.Form t s was ready = form_falls (start_place groups.Form) t s
start_in_row facts groups.Input t s was ready = input_falls (start_place groups.Input) t s
start_in_row facts groups.Row t s was ready =
    past_row_falls facts (start_place groups.Row) modes.InRow s ready was less_3_6
start_in_row facts groups.Script t s was ready = tt
start_in_row facts groups.Section t s was ready =
    past_row_falls facts (start_place groups.Section) modes.InRow s ready was less_5_6
start_in_row facts groups.Style t s was ready = tt
start_in_row facts groups.Table t s was ready = table_start_falls (start_place groups.Table) s usual_bound
start_in_row facts groups.Template t s was ready = tt
start_in_row facts group t s was ready = fostered_start_falls (start_place group) group t s

pub start_in_cell : Facts → (group : TagGroup) (t : Tag) (s : State) → s.mode ≡ modes.InCell → Ready s →
    FallsAt (start_place group) s (start_row modes.InCell group t s)
start_in_cell facts groups.Caption t s was ready =
    past_cell_falls facts (start_place groups.Caption) modes.InCell s ready was less_6_7
start_in_cell facts groups.Cell t s was ready =
    past_cell_falls facts (start_place groups.Cell) modes.InCell s ready was less_2_7
start_in_cell facts groups.Column t s was ready =
    past_cell_falls facts (start_place groups.Column) modes.InCell s ready was less_6_7
start_in_cell facts groups.ColumnGroup t s was ready =
    past_cell_falls facts (start_place groups.ColumnGroup) modes.InCell s ready was less_6_7
start_in_cell facts groups.Row t s was ready =
    past_cell_falls facts (start_place groups.Row) modes.InCell s ready was less_6_7
start_in_cell facts groups.Section t s was ready =
    past_cell_falls facts (start_place groups.Section) modes.InCell s ready was less_6_7
start_in_cell facts group t s was ready = body_start_falls (start_place group) group t s

pub start_in_template : Facts → (group : TagGroup) (t : Tag) (s : State) → s.mode ≡ modes.InTemplate → Ready s →
    FallsAt (start_place group) s (start_row modes.InTemplate group t s)
start_in_template facts groups.Base t s was ready = tt
start_in_template facts groups.Caption t s was ready =
    becomes_falls facts (start_place groups.Caption) modes.InTemplate modes.InTable s ready was refl less_4_8
start_in_template facts groups.Cell t s was ready =
    becomes_falls facts (start_place groups.Cell) modes.InTemplate modes.InRow s ready was refl less_2_8
start_in_template facts groups.Column t s was ready =
    becomes_falls facts (start_place groups.Column) modes.InTemplate modes.InColumnGroup s ready was refl less_3_8
start_in_template facts groups.ColumnGroup t s was ready =
    becomes_falls facts (start_place groups.ColumnGroup) modes.InTemplate modes.InTable s ready was refl less_4_8
start_in_template facts groups.Link t s was ready = tt
start_in_template facts groups.Meta t s was ready = meta_falls (start_place groups.Meta) at_place t s
start_in_template facts groups.Noframes t s was ready = tt
start_in_template facts groups.Row t s was ready =
    becomes_falls facts (start_place groups.Row) modes.InTemplate modes.InTableBody s ready was refl less_3_8
start_in_template facts groups.Script t s was ready = tt
start_in_template facts groups.Section t s was ready =
    becomes_falls facts (start_place groups.Section) modes.InTemplate modes.InTable s ready was refl less_4_8
start_in_template facts groups.Style t s was ready = tt
start_in_template facts groups.Template t s was ready = tt
start_in_template facts groups.Title t s was ready = tt
start_in_template facts group t s was ready =
    becomes_falls facts (start_place group) modes.InTemplate modes.InBody s ready was refl less_3_8

pub start_after_body : Facts → (group : TagGroup) (t : Tag) (s : State) → s.mode ≡ modes.AfterBody → Ready s →
    FallsAt (start_place group) s (start_row modes.AfterBody group t s)
start_after_body facts groups.Html t s was ready = html_falls (start_place groups.Html) t s
start_after_body facts group t s was ready =
    body_again_falls facts (start_place group) modes.AfterBody s ready was less_3_4

pub start_in_frameset : Facts → (group : TagGroup) (t : Tag) (s : State) → s.mode ≡ modes.InFrameset → Ready s →
    FallsAt (start_place group) s (start_row modes.InFrameset group t s)
start_in_frameset facts groups.Html t s was ready = html_falls (start_place groups.Html) t s
start_in_frameset facts group t s was ready = tt

pub start_after_frameset : Facts → (group : TagGroup) (t : Tag) (s : State) → s.mode ≡ modes.AfterFrameset → Ready s →
    FallsAt (start_place group) s (start_row modes.AfterFrameset group t s)
start_after_frameset facts groups.Html t s was ready = html_falls (start_place groups.Html) t s
start_after_frameset facts group t s was ready = tt

pub start_after_after_body : Facts → (group : TagGroup) (t : Tag) (s : State) → s.mode ≡ modes.AfterAfterBody →
    Ready s →
    FallsAt (start_place group) s (start_row modes.AfterAfterBody group t s)
start_after_after_body facts groups.Html t s was ready = html_falls (start_place groups.Html) t s
start_after_after_body facts group t s was ready =
    body_again_falls facts (start_place group) modes.AfterAfterBody s ready was less_3_5

pub start_after_after_frameset : Facts → (group : TagGroup) (t : Tag) (s : State) →
    s.mode ≡ modes.AfterAfterFrameset → Ready s →
    FallsAt (start_place group) s (start_row modes.AfterAfterFrameset group t s)
start_after_after_frameset facts groups.Html t s was ready = html_falls (start_place groups.Html) t s
start_after_after_frameset facts group t s was ready = tt

pub start_falls : Facts → (mode : InsertionMode) (group : TagGroup) (t : Tag) (s : State) → s.mode ≡ mode → Ready s →
    FallsAt (start_place group) s (start_row mode group t s)
start_falls facts modes.Initial group t s was ready = start_initial facts group t s was ready
start_falls facts modes.BeforeHtml group t s was ready = start_before_html facts group t s was ready
start_falls facts modes.BeforeHead group t s was ready = start_before_head facts group t s was ready
start_falls facts modes.InHead group t s was ready = start_in_head facts group t s was ready
start_falls facts modes.InHeadNoscript group t s was ready = start_in_head_noscript facts group t s was ready
start_falls facts modes.AfterHead group t s was ready = start_after_head facts group t s was ready
start_falls facts modes.InBody group t s was ready = start_in_body facts group t s was ready
start_falls facts modes.Text group t s was ready = start_text facts group t s was ready
start_falls facts modes.InTable group t s was ready = start_in_table facts group t s was ready
start_falls facts modes.InTableText group t s was ready = start_in_table_text facts group t s was ready
start_falls facts modes.InCaption group t s was ready = start_in_caption facts group t s was ready
start_falls facts modes.InColumnGroup group t s was ready = start_in_column_group facts group t s was ready
start_falls facts modes.InTableBody group t s was ready = start_in_table_body facts group t s was ready
start_falls facts modes.InRow group t s was ready = start_in_row facts group t s was ready
start_falls facts modes.InCell group t s was ready = start_in_cell facts group t s was ready
start_falls facts modes.InTemplate group t s was ready = start_in_template facts group t s was ready
start_falls facts modes.AfterBody group t s was ready = start_after_body facts group t s was ready
start_falls facts modes.InFrameset group t s was ready = start_in_frameset facts group t s was ready
start_falls facts modes.AfterFrameset group t s was ready = start_after_frameset facts group t s was ready
start_falls facts modes.AfterAfterBody group t s was ready = start_after_after_body facts group t s was ready
start_falls facts modes.AfterAfterFrameset group t s was ready = start_after_after_frameset facts group t s was ready
