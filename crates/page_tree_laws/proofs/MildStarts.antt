-- Start tags in the usual modes: rows do mild actions alone, but for the columns of a table (WHATWG HTML, 13.2.6.4).
-- A clause on any other group is checked group by group.
use Rattle.std.proofs.Common.{◌≡◌, true, false, codes, refl}
use Rattle.html_lexemes.specs.declared.token.Tag.{Tag}
use Rattle.tree_names.specs.ElementSets.{table_cells, table_sections}
use Rattle.tree_names.specs.Wanted.{one}
use Rattle.tree_names.specs.declared.group.TagGroup.{TagGroup}
use Rattle.tree_names.specs.declared.group.TagGroup.TheVariants as groups
use Rattle.rules_table.specs.Actions.{at_place, into_head, is_known}
use Rattle.rules_table.specs.Asking.{has_template, in_table_scope}
use Rattle.rules_table.specs.InBody.{in_body_start}
use Rattle.rules_table.specs.InCaption.{past_caption}
use Rattle.rules_table.specs.InCell.{past_cell}
use Rattle.rules_table.specs.InHead.{in_head_start}
use Rattle.rules_table.specs.InRow.{is_in_row, past_row}
use Rattle.rules_table.specs.InTable.{in_table_start}
use Rattle.rules_table.specs.InTableBody.{past_table_body}
use Rattle.rules_table.specs.Initial.{initial_other, without_doctype}
use Rattle.rules_table.specs.Rows.{ignored}
use Rattle.rules_table.specs.State.{State}
use Rattle.rules_table.specs.Table.{start_row}
use Rattle.rules_table.specs.declared.target.Target.{Target}
use Rattle.tree_predicates.specs.Attributes.{is_hidden}
use Rattle.tree_predicates.specs.declared.modes.InsertionMode.{InsertionMode}
use Rattle.tree_predicates.specs.declared.modes.InsertionMode.TheVariants as modes
use Rattle.page_tree_laws.proofs.MildRows.{IsPlainGroup, body_start_mild, html_mild, list_if, meta_mild, mild_fostered}
use Rattle.page_tree_laws.proofs.MildRows.{mild_if, noscript_mild}
use Rattle.page_tree_laws.proofs.PlainStates.{IsMildRow}
use Rattle.page_tree_laws.proofs.UsualModes.{AreMild, is_usual}

-- columns apart
abbrev pub IsNoColumn : TagGroup → Type 0
IsNoColumn groups.Column = ⊥
IsNoColumn groups.ColumnGroup = ⊥
IsNoColumn _ = Unit {0}

pub without_doctype_mild : (s : State) → AreMild (without_doctype s)
without_doctype_mild s = list_if s.options.iframe_srcdoc _ _ (refl, tt) (tt, (refl, tt))

pub initial_mild : (s : State) → IsMildRow (initial_other s)
initial_mild s = without_doctype_mild s

before_html_mild : (group : TagGroup) (t : Tag) (s : State) → IsPlainGroup group t.name →
    IsMildRow (start_row modes.BeforeHtml group t s)
before_html_mild groups.Html t s is = (is, (refl, tt))
before_html_mild group t s is = (refl, (refl, tt))

before_head_mild : (group : TagGroup) (t : Tag) (s : State) → IsPlainGroup group t.name →
    IsMildRow (start_row modes.BeforeHead group t s)
before_head_mild groups.Html t s is = html_mild t s
before_head_mild groups.Head t s is = (is, (tt, (refl, tt)))
before_head_mild group t s is = (refl, (tt, (refl, tt)))

in_head_mild : (at : Target) (group : TagGroup) (t : Tag) (s : State) → IsPlainGroup group t.name →
    IsMildRow (in_head_start at group t s)
in_head_mild at groups.Html t s is = html_mild t s
in_head_mild at groups.Base t s is = (tt, tt)
in_head_mild at groups.Link t s is = (tt, tt)
in_head_mild at groups.Meta t s is = meta_mild at t s
in_head_mild at groups.Title t s is = (is, tt)
in_head_mild at groups.Noscript t s is = noscript_mild s.options.scripting_enabled at t is
in_head_mild at groups.Noframes t s is = (is, tt)
in_head_mild at groups.Style t s is = (is, tt)
in_head_mild at groups.Script t s is = (is, tt)
in_head_mild at groups.Template t s is = absurd is
in_head_mild at groups.Head t s is = tt
in_head_mild at group t s is = (tt, (refl, tt))

in_noscript_mild : (group : TagGroup) (t : Tag) (s : State) → IsPlainGroup group t.name →
    IsMildRow (start_row modes.InHeadNoscript group t s)
in_noscript_mild groups.Html t s is = html_mild t s
in_noscript_mild groups.Link t s is = (tt, tt)
in_noscript_mild groups.Meta t s is = meta_mild at_place t s
in_noscript_mild groups.Noframes t s is = (is, tt)
in_noscript_mild groups.Style t s is = (is, tt)
in_noscript_mild groups.Head t s is = tt
in_noscript_mild groups.Noscript t s is = tt
in_noscript_mild group t s is = (tt, (refl, tt))

after_head_mild : (group : TagGroup) (t : Tag) (s : State) → IsPlainGroup group t.name →
    IsMildRow (start_row modes.AfterHead group t s)
after_head_mild groups.Html t s is = html_mild t s
after_head_mild groups.Body t s is = (is, (tt, (refl, tt)))
after_head_mild groups.Frameset t s is = absurd is
after_head_mild groups.Base t s is = (tt, tt)
after_head_mild groups.Link t s is = (tt, tt)
after_head_mild groups.Meta t s is = meta_mild into_head t s
after_head_mild groups.Noframes t s is = (is, tt)
after_head_mild groups.Script t s is = (is, tt)
after_head_mild groups.Style t s is = (is, tt)
after_head_mild groups.Template t s is = absurd is
after_head_mild groups.Title t s is = (is, tt)
after_head_mild groups.Head t s is = tt
after_head_mild group t s is = (refl, (refl, tt))

pub in_table_mild : (group : TagGroup) (t : Tag) (s : State) → IsPlainGroup group t.name → IsNoColumn group →
    IsMildRow (in_table_start group t s)
in_table_mild groups.Caption t s is apart = (tt, (tt, (is, (refl, tt))))
in_table_mild groups.ColumnGroup t s is apart = absurd apart
in_table_mild groups.Column t s is apart = absurd apart
in_table_mild groups.Section t s is apart = (tt, (is, (refl, tt)))
in_table_mild groups.Cell t s is apart = (tt, (refl, (refl, tt)))
in_table_mild groups.Row t s is apart = (tt, (refl, (refl, tt)))
in_table_mild groups.Table t s is apart = mild_if (in_table_scope (one (codes "table")) s) _ ignored (tt, (tt, tt)) tt
in_table_mild groups.Style t s is apart = (is, tt)
in_table_mild groups.Script t s is apart = (is, tt)
in_table_mild groups.Template t s is apart = absurd is
in_table_mild groups.Input t s is apart = mild_if (is_hidden t.attrs) _ _ (tt, tt)
    (mild_fostered (in_body_start groups.Input t s) (body_start_mild groups.Input t s is))
in_table_mild groups.Form t s is apart = mild_if (has_template s) ignored _ tt
    (mild_if (is_known s.form) ignored _ tt (is, (tt, (tt, tt))))
in_table_mild group t s is apart = mild_fostered (in_body_start group t s) (body_start_mild group t s is)

pub past_caption_mild : (s : State) → IsMildRow (past_caption s)
past_caption_mild s =
    mild_if (in_table_scope (one (codes "caption")) s) _ ignored (tt, (tt, (tt, (refl, tt)))) tt

pub past_body_mild : (s : State) → IsMildRow (past_table_body s)
past_body_mild s = mild_if (in_table_scope table_sections s) _ ignored (tt, (tt, (refl, tt))) tt

pub past_row_mild : (s : State) → IsMildRow (past_row s)
past_row_mild s = mild_if (is_in_row s) _ ignored (tt, (tt, (refl, tt))) tt

pub past_cell_mild : (s : State) → IsMildRow (past_cell s)
past_cell_mild s = mild_if (in_table_scope table_cells s) _ ignored (tt, (tt, (tt, (refl, tt)))) tt

in_caption_mild : (group : TagGroup) (t : Tag) (s : State) → IsPlainGroup group t.name →
    IsMildRow (start_row modes.InCaption group t s)
in_caption_mild groups.Caption t s is = past_caption_mild s
in_caption_mild groups.Column t s is = past_caption_mild s
in_caption_mild groups.ColumnGroup t s is = past_caption_mild s
in_caption_mild groups.Section t s is = past_caption_mild s
in_caption_mild groups.Cell t s is = past_caption_mild s
in_caption_mild groups.Row t s is = past_caption_mild s
in_caption_mild group t s is = body_start_mild group t s is

in_body_of_table_mild : (group : TagGroup) (t : Tag) (s : State) → IsPlainGroup group t.name →
    IsMildRow (start_row modes.InTableBody group t s)
in_body_of_table_mild groups.Row t s is = (tt, (is, (refl, tt)))
in_body_of_table_mild groups.Cell t s is = (tt, (refl, (refl, tt)))
in_body_of_table_mild groups.Caption t s is = past_body_mild s
in_body_of_table_mild groups.Column t s is = past_body_mild s
in_body_of_table_mild groups.ColumnGroup t s is = past_body_mild s
in_body_of_table_mild groups.Section t s is = past_body_mild s
in_body_of_table_mild group t s is = in_table_mild group t s is tt

in_row_mild : (group : TagGroup) (t : Tag) (s : State) → IsPlainGroup group t.name →
    IsMildRow (start_row modes.InRow group t s)
in_row_mild groups.Cell t s is = (tt, (is, (refl, (tt, tt))))
in_row_mild groups.Caption t s is = past_row_mild s
in_row_mild groups.Column t s is = past_row_mild s
in_row_mild groups.ColumnGroup t s is = past_row_mild s
in_row_mild groups.Section t s is = past_row_mild s
in_row_mild groups.Row t s is = past_row_mild s
in_row_mild group t s is = in_table_mild group t s is tt

in_cell_mild : (group : TagGroup) (t : Tag) (s : State) → IsPlainGroup group t.name →
    IsMildRow (start_row modes.InCell group t s)
in_cell_mild groups.Caption t s is = past_cell_mild s
in_cell_mild groups.Column t s is = past_cell_mild s
in_cell_mild groups.ColumnGroup t s is = past_cell_mild s
in_cell_mild groups.Section t s is = past_cell_mild s
in_cell_mild groups.Cell t s is = past_cell_mild s
in_cell_mild groups.Row t s is = past_cell_mild s
in_cell_mild group t s is = body_start_mild group t s is

after_body_mild : (group : TagGroup) (t : Tag) (s : State) → IsMildRow (start_row modes.AfterBody group t s)
after_body_mild groups.Html t s = html_mild t s
after_body_mild group t s = (refl, tt)

after_after_body_mild : (group : TagGroup) (t : Tag) (s : State) →
    IsMildRow (start_row modes.AfterAfterBody group t s)
after_after_body_mild groups.Html t s = html_mild t s
after_after_body_mild group t s = (refl, tt)

-- a usual mode, where no column is emitted in a table
abbrev pub IsNoColumnIn : InsertionMode → TagGroup → Type 0
IsNoColumnIn modes.InTable group = IsNoColumn group
IsNoColumnIn _ group = Unit {0}

none : {A : Type 0} → false ≡ true → A
none e = absurd (cc)

pub start_mild : (mode : InsertionMode) (group : TagGroup) (t : Tag) (s : State) → is_usual mode ≡ true →
    IsPlainGroup group t.name → IsNoColumnIn mode group → IsMildRow (start_row mode group t s)
start_mild modes.Initial group t s usual is apart = initial_mild s
start_mild modes.BeforeHtml group t s usual is apart = before_html_mild group t s is
start_mild modes.BeforeHead group t s usual is apart = before_head_mild group t s is
start_mild modes.InHead group t s usual is apart = in_head_mild at_place group t s is
start_mild modes.InHeadNoscript group t s usual is apart = in_noscript_mild group t s is
start_mild modes.AfterHead group t s usual is apart = after_head_mild group t s is
start_mild modes.InBody group t s usual is apart = body_start_mild group t s is
start_mild modes.Text group t s usual is apart = tt
start_mild modes.InTable group t s usual is apart = in_table_mild group t s is apart
start_mild modes.InTableText group t s usual is apart = none usual
start_mild modes.InCaption group t s usual is apart = in_caption_mild group t s is
start_mild modes.InColumnGroup group t s usual is apart = none usual
start_mild modes.InTableBody group t s usual is apart = in_body_of_table_mild group t s is
start_mild modes.InRow group t s usual is apart = in_row_mild group t s is
start_mild modes.InCell group t s usual is apart = in_cell_mild group t s is
start_mild modes.InTemplate group t s usual is apart = none usual
start_mild modes.AfterBody group t s usual is apart = after_body_mild group t s
start_mild modes.InFrameset group t s usual is apart = none usual
start_mild modes.AfterFrameset group t s usual is apart = none usual
start_mild modes.AfterAfterBody group t s usual is apart = after_after_body_mild group t s
start_mild modes.AfterAfterFrameset group t s usual is apart = none usual
