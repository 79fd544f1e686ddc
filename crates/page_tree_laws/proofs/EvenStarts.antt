-- Start tags in the body, in tables and in templates: their rows neither open nor close a template, where none is
-- emitted (WHATWG HTML, 13.2.6.4.7 to 13.2.6.4.16). A clause on any other group is checked group by group.
use Rattle.std.proofs.Common.{◌≡◌, ℕ, Bool, true, false, List, [], ◌∷◌, codes, refl}
use Rattle.html_lexemes.specs.declared.token.Tag.{Tag}
use Rattle.tree_names.specs.ElementSets.{table_cells, table_sections}
use Rattle.tree_names.specs.Wanted.{one}
use Rattle.page_tree_laws.proofs.EvenRows.{AreEven, IsEvenGroup, IsEvenRow, body_start_even, even_append, even_fostered}
use Rattle.page_tree_laws.proofs.EvenRows.{even_if, html_even, is_no_template, list_even_if, meta_even}
use Rattle.page_tree_laws.proofs.FittingHeads.{none}
use Rattle.page_tree_laws.proofs.FittingTexts.{is_build_mode}
use Rattle.tree_names.specs.declared.group.TagGroup.{TagGroup}
use Rattle.tree_names.specs.declared.group.TagGroup.TheVariants as groups
use Rattle.rules_table.specs.Actions.{at_place, forget_pending, foster, go_back, is_known, reconstruct, refuse_frameset}
use Rattle.rules_table.specs.Actions.{say}
use Rattle.rules_table.specs.Asking.{all_are, has_template, in_table_scope}
use Rattle.rules_table.specs.InBody.{in_body_start}
use Rattle.rules_table.specs.InCaption.{in_caption_start, past_caption}
use Rattle.rules_table.specs.InCell.{in_cell_start, past_cell}
use Rattle.rules_table.specs.InColumnGroup.{in_column_group_start, is_in_column_group, past_column_group}
use Rattle.rules_table.specs.InRow.{in_row_start, is_in_row, past_row}
use Rattle.rules_table.specs.InTable.{form_in_table, in_table_start, in_table_text_other, pending_said}
use Rattle.rules_table.specs.InTableBody.{in_table_body_start, past_table_body}
use Rattle.rules_table.specs.InTemplate.{in_template_start}
use Rattle.rules_table.specs.Rows.{ignored, is_white_space}
use Rattle.rules_table.specs.State.{State}
use Rattle.rules_table.specs.Table.{start_row}
use Rattle.tree_predicates.specs.Attributes.{is_hidden}
use Rattle.tree_predicates.specs.declared.modes.InsertionMode.{InsertionMode}
use Rattle.tree_predicates.specs.declared.modes.InsertionMode.TheVariants as modes

-- start tags that neither open a template nor become another mode in one
abbrev pub is_calm_start : InsertionMode → TagGroup → Bool
is_calm_start modes.InTableText group = true
is_calm_start modes.InTemplate groups.Base = true
is_calm_start modes.InTemplate groups.Link = true
is_calm_start modes.InTemplate groups.Meta = true
is_calm_start modes.InTemplate groups.Noframes = true
is_calm_start modes.InTemplate groups.Script = true
is_calm_start modes.InTemplate groups.Style = true
is_calm_start modes.InTemplate groups.Title = true
is_calm_start modes.InTemplate _ = false
is_calm_start _ group = is_no_template group

-- anything else than text after a table's text
said_even : (cs : List ℕ) → AreEven (pending_said cs)
said_even cs = list_even_if (all_are is_white_space cs) (say cs ∷ [])
    (foster true ∷ reconstruct ∷ say cs ∷ refuse_frameset ∷ foster false ∷ []) (tt, tt)
    (tt, (tt, (tt, (tt, (tt, tt)))))

pub collected_even : (s : State) → IsEvenRow (in_table_text_other s)
collected_even s =
    even_append (pending_said s.pending) (forget_pending ∷ go_back ∷ []) (said_even s.pending) (tt, (tt, tt))

-- what is closed, and the tag taken again
pub past_caption_even : (s : State) → IsEvenRow (past_caption s)
past_caption_even s =
    even_if (in_table_scope (one (codes "caption")) s) _ ignored (tt, (tt, (tt, (tt, tt)))) tt

pub past_body_even : (s : State) → IsEvenRow (past_table_body s)
past_body_even s = even_if (in_table_scope table_sections s) _ ignored (tt, (tt, (tt, tt))) tt

pub past_row_even : (s : State) → IsEvenRow (past_row s)
past_row_even s = even_if (is_in_row s) _ ignored (tt, (tt, (tt, tt))) tt

pub past_cell_even : (s : State) → IsEvenRow (past_cell s)
past_cell_even s = even_if (in_table_scope table_cells s) _ ignored (tt, (tt, (tt, (tt, tt)))) tt

pub past_columns_even : (s : State) → IsEvenRow (past_column_group s)
past_columns_even s = even_if (is_in_column_group s) _ ignored (tt, (tt, tt)) tt

-- start tags in a table and its parts
form_even : (t : Tag) (s : State) → IsEvenGroup groups.Form t.name → IsEvenRow (form_in_table t s)
form_even t s is = even_if (has_template s) ignored _ tt
    (even_if (is_known s.form) ignored _ tt (is, (tt, (tt, tt))))

table_even : (group : TagGroup) (t : Tag) (s : State) → IsEvenGroup group t.name →
    IsEvenRow (in_table_start group t s)
table_even groups.Caption t s is = (tt, (tt, (is, (tt, tt))))
table_even groups.ColumnGroup t s is = (tt, (is, (tt, tt)))
table_even groups.Column t s is = (tt, (refl, (tt, tt)))
table_even groups.Section t s is = (tt, (is, (tt, tt)))
table_even groups.Cell t s is = (tt, (refl, (tt, tt)))
table_even groups.Row t s is = (tt, (refl, (tt, tt)))
table_even groups.Table t s is = even_if (in_table_scope (one (codes "table")) s) _ ignored (tt, (tt, tt)) tt
table_even groups.Style t s is = (is, tt)
table_even groups.Script t s is = (is, tt)
table_even groups.Template t s is = absurd is
table_even groups.Input t s is = even_if (is_hidden t.attrs) _ _ (tt, tt)
    (even_fostered (in_body_start groups.Input t s) (body_start_even groups.Input t s is))
table_even groups.Form t s is = form_even t s is
table_even group t s is = even_fostered (in_body_start group t s) (body_start_even group t s is)

caption_even : (group : TagGroup) (t : Tag) (s : State) → IsEvenGroup group t.name →
    IsEvenRow (in_caption_start group t s)
caption_even groups.Caption t s is = past_caption_even s
caption_even groups.Column t s is = past_caption_even s
caption_even groups.ColumnGroup t s is = past_caption_even s
caption_even groups.Section t s is = past_caption_even s
caption_even groups.Cell t s is = past_caption_even s
caption_even groups.Row t s is = past_caption_even s
caption_even group t s is = body_start_even group t s is

columns_even : (group : TagGroup) (t : Tag) (s : State) → IsEvenGroup group t.name →
    IsEvenRow (in_column_group_start group t s)
columns_even groups.Html t s is = html_even t s
columns_even groups.Column t s is = (tt, tt)
columns_even groups.Template t s is = absurd is
columns_even group t s is = past_columns_even s

body_of_table_even : (group : TagGroup) (t : Tag) (s : State) → IsEvenGroup group t.name →
    IsEvenRow (in_table_body_start group t s)
body_of_table_even groups.Row t s is = (tt, (is, (tt, tt)))
body_of_table_even groups.Cell t s is = (tt, (refl, (tt, tt)))
body_of_table_even groups.Caption t s is = past_body_even s
body_of_table_even groups.Column t s is = past_body_even s
body_of_table_even groups.ColumnGroup t s is = past_body_even s
body_of_table_even groups.Section t s is = past_body_even s
body_of_table_even group t s is = table_even group t s is

row_even : (group : TagGroup) (t : Tag) (s : State) → IsEvenGroup group t.name → IsEvenRow (in_row_start group t s)
row_even groups.Cell t s is = (tt, (is, (tt, (tt, tt))))
row_even groups.Caption t s is = past_row_even s
row_even groups.Column t s is = past_row_even s
row_even groups.ColumnGroup t s is = past_row_even s
row_even groups.Section t s is = past_row_even s
row_even groups.Row t s is = past_row_even s
row_even group t s is = table_even group t s is

cell_even : (group : TagGroup) (t : Tag) (s : State) → IsEvenGroup group t.name → IsEvenRow (in_cell_start group t s)
cell_even groups.Caption t s is = past_cell_even s
cell_even groups.Column t s is = past_cell_even s
cell_even groups.ColumnGroup t s is = past_cell_even s
cell_even groups.Section t s is = past_cell_even s
cell_even groups.Cell t s is = past_cell_even s
cell_even groups.Row t s is = past_cell_even s
cell_even group t s is = body_start_even group t s is

-- of start tags in a template those that are taken as in the head
template_even : (group : TagGroup) (t : Tag) (s : State) → is_calm_start modes.InTemplate group ≡ true →
    IsEvenGroup group t.name → IsEvenRow (in_template_start group t s)
template_even groups.Base t s calm is = (tt, tt)
template_even groups.Link t s calm is = (tt, tt)
template_even groups.Meta t s calm is = meta_even at_place t s
template_even groups.Noframes t s calm is = (is, tt)
template_even groups.Script t s calm is = (is, tt)
template_even groups.Style t s calm is = (is, tt)
template_even groups.Title t s calm is = (is, tt)
template_even group t s calm is = none calm

calm_no_template : (group : TagGroup) → is_calm_start modes.InTemplate group ≡ true → is_no_template group ≡ true
calm_no_template groups.Template calm = none calm
calm_no_template group calm = refl

-- a start tag in any of these modes
pub start_even : (mode : InsertionMode) → is_build_mode mode ≡ true → (group : TagGroup) (t : Tag) (s : State) →
    is_calm_start mode group ≡ true → (is_no_template group ≡ true → IsEvenGroup group t.name) →
    IsEvenRow (start_row mode group t s)
start_even modes.InBody is group t s calm named = body_start_even group t s (named calm)
start_even modes.InTable is group t s calm named = table_even group t s (named calm)
start_even modes.InTableText is group t s calm named = collected_even s
start_even modes.InCaption is group t s calm named = caption_even group t s (named calm)
start_even modes.InColumnGroup is group t s calm named = columns_even group t s (named calm)
start_even modes.InTableBody is group t s calm named = body_of_table_even group t s (named calm)
start_even modes.InRow is group t s calm named = row_even group t s (named calm)
start_even modes.InCell is group t s calm named = cell_even group t s (named calm)
start_even modes.InTemplate is group t s calm named =
    template_even group t s calm (named (calm_no_template group calm))
start_even mode is group t s calm named = none is
