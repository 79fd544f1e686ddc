-- Text, comments, doctypes, end tags and the end of the page: rows that neither open nor close a template (WHATWG HTML,
-- 13.2.6.4.7 to 13.2.6.4.16); and the rule for a mark. A clause on any other group is checked group by group.
use Rattle.std.proofs.Common.{◌≡◌, if◌then◌else◌, [], ◌∷◌, Bool, List, codes, false, refl, true, ℕ}
use Rattle.html_lexemes.specs.declared.token.Doctype.{Doctype}
use Rattle.html_lexemes.specs.declared.token.Tag.{Tag}
use Rattle.tree_names.specs.Wanted.{one}
use Rattle.page_tree_laws.proofs.EvenRows.{AreEven, IsEvenRow, body_end_even, even_append, even_fostered, even_if}
use Rattle.page_tree_laws.proofs.EvenRows.{even_named, is_no_template}
use Rattle.page_tree_laws.proofs.EvenStarts.{collected_even, is_calm_start, past_body_even, past_caption_even}
use Rattle.page_tree_laws.proofs.EvenStarts.{past_cell_even, past_columns_even, past_row_even, start_even}
use Rattle.page_tree_laws.proofs.FittingHeads.{none}
use Rattle.page_tree_laws.proofs.FittingTexts.{is_build_mode}
use Rattle.tree_names.specs.Groups.{tag_group}
use Rattle.tree_names.specs.declared.group.TagGroup.{TagGroup}
use Rattle.tree_names.specs.declared.group.TagGroup.TheVariants as groups
use Rattle.rules_table.specs.Actions.{say}
use Rattle.rules_table.specs.Asking.{collects_text, in_table_scope}
use Rattle.rules_table.specs.InBody.{in_body_text}
use Rattle.rules_table.specs.InBodyEnds.{in_body_end}
use Rattle.rules_table.specs.InCell.{outer_end, past_cell}
use Rattle.rules_table.specs.InColumnGroup.{in_column_group_end, in_column_group_text, is_in_column_group}
use Rattle.rules_table.specs.InRow.{is_in_row, past_row}
use Rattle.rules_table.specs.InTable.{in_table_end, in_table_text_row}
use Rattle.rules_table.specs.Rows.{TextRow, dropped, for_character, for_null, ignored, is_white_space, kept, said_after}
use Rattle.rules_table.specs.Rows.{then_again}
use Rattle.rules_table.specs.State.{TreeToken, State, character, comment, doctype, end_of_file, finish, null, start}
use Rattle.rules_table.specs.Table.{comment_row, doctype_row, end_of_file_row, end_row, row, text_row}
use Rattle.tree_predicates.specs.declared.modes.InsertionMode.{InsertionMode}
use Rattle.tree_predicates.specs.declared.modes.InsertionMode.TheVariants as modes

-- what a mode makes of text
abbrev pub IsEvenText : TextRow → Type 0
IsEvenText (said_after actions) = AreEven actions
IsEvenText (then_again actions) = AreEven actions
IsEvenText _ = Unit {0}

pub character_even : (c : ℕ) (r : TextRow) → IsEvenText r → IsEvenRow (for_character c r)
character_even c dropped are = tt
character_even c (said_after actions) are = even_append actions (say (c ∷ []) ∷ []) are (tt, tt)
character_even c kept are = (tt, tt)
character_even c (then_again actions) are = are

null_even : (r : TextRow) → IsEvenText r → IsEvenRow (for_null r)
null_even dropped are = tt
null_even (said_after actions) are = tt
null_even kept are = tt
null_even (then_again actions) are = are

text_if : (b : Bool) (x y : TextRow) → IsEvenText x → IsEvenText y → IsEvenText (if b then x else y)
text_if true x y f g = f
text_if false x y f g = g

body_text : (is_space : Bool) → IsEvenText (in_body_text is_space)
body_text true = (tt, tt)
body_text false = (tt, (tt, tt))

table_text : (is_space : Bool) (s : State) → IsEvenText (in_table_text_row is_space s)
table_text is_space s = text_if (collects_text s) _ (in_body_text is_space) (tt, (tt, (tt, tt))) (body_text is_space)

columns_text : (is_space : Bool) (s : State) → IsEvenText (in_column_group_text is_space s)
columns_text true s = tt
columns_text false s = text_if (is_in_column_group s) _ dropped (tt, (tt, tt)) tt

text_even : (mode : InsertionMode) → is_build_mode mode ≡ true → (is_space : Bool) (s : State) →
    IsEvenText (text_row mode is_space s)
text_even modes.InBody is is_space s = body_text is_space
text_even modes.InTable is is_space s = table_text is_space s
text_even modes.InTableText is is_space s = tt
text_even modes.InCaption is is_space s = body_text is_space
text_even modes.InColumnGroup is is_space s = columns_text is_space s
text_even modes.InTableBody is is_space s = table_text is_space s
text_even modes.InRow is is_space s = table_text is_space s
text_even modes.InCell is is_space s = body_text is_space
text_even modes.InTemplate is is_space s = body_text is_space
text_even mode is is_space s = none is

-- comments and doctypes
comment_even : (mode : InsertionMode) → is_build_mode mode ≡ true → (cs : List ℕ) (s : State) →
    IsEvenRow (comment_row mode cs s)
comment_even modes.InTableText is cs s = collected_even s
comment_even modes.Initial is cs s = none is
comment_even modes.BeforeHtml is cs s = none is
comment_even modes.AfterBody is cs s = none is
comment_even modes.AfterAfterBody is cs s = none is
comment_even modes.AfterAfterFrameset is cs s = none is
comment_even mode is cs s = (tt, tt)

doctype_even : (mode : InsertionMode) → is_build_mode mode ≡ true → (d : Doctype) (s : State) →
    IsEvenRow (doctype_row mode d s)
doctype_even modes.InTableText is d s = collected_even s
doctype_even modes.Initial is d s = none is
doctype_even mode is d s = tt

-- end tags
table_even : (group : TagGroup) (t : Tag) (s : State) → is_no_template group ≡ true →
    IsEvenRow (in_table_end group t s)
table_even groups.Table t s is = even_if (in_table_scope (one (codes "table")) s) _ ignored (tt, (tt, tt)) tt
table_even groups.Body t s is = tt
table_even groups.Caption t s is = tt
table_even groups.Column t s is = tt
table_even groups.ColumnGroup t s is = tt
table_even groups.Html t s is = tt
table_even groups.Section t s is = tt
table_even groups.Cell t s is = tt
table_even groups.Row t s is = tt
table_even groups.Template t s is = none is
table_even group t s is = even_fostered (in_body_end group t s) (body_end_even group t s is)

caption_even : (group : TagGroup) (t : Tag) (s : State) → is_no_template group ≡ true →
    IsEvenRow (end_row modes.InCaption group t s)
caption_even groups.Caption t s is =
    even_if (in_table_scope (one (codes "caption")) s) _ ignored (tt, (tt, (tt, (tt, tt)))) tt
caption_even groups.Table t s is = past_caption_even s
caption_even groups.Body t s is = tt
caption_even groups.Column t s is = tt
caption_even groups.ColumnGroup t s is = tt
caption_even groups.Html t s is = tt
caption_even groups.Section t s is = tt
caption_even groups.Cell t s is = tt
caption_even groups.Row t s is = tt
caption_even group t s is = body_end_even group t s is

columns_even : (group : TagGroup) (s : State) → is_no_template group ≡ true → IsEvenRow (in_column_group_end group s)
columns_even groups.ColumnGroup s is = even_if (is_in_column_group s) _ ignored (tt, (tt, tt)) tt
columns_even groups.Column s is = tt
columns_even groups.Template s is = none is
columns_even group s is = past_columns_even s

body_of_table_even : (group : TagGroup) (t : Tag) (s : State) → is_no_template group ≡ true →
    IsEvenRow (end_row modes.InTableBody group t s)
body_of_table_even groups.Section t s is =
    even_if (in_table_scope (one t.name) s) _ ignored (tt, (tt, (tt, tt))) tt
body_of_table_even groups.Table t s is = past_body_even s
body_of_table_even groups.Body t s is = tt
body_of_table_even groups.Caption t s is = tt
body_of_table_even groups.Column t s is = tt
body_of_table_even groups.ColumnGroup t s is = tt
body_of_table_even groups.Html t s is = tt
body_of_table_even groups.Cell t s is = tt
body_of_table_even groups.Row t s is = tt
body_of_table_even group t s is = table_even group t s is

row_end_even : (group : TagGroup) (t : Tag) (s : State) → is_no_template group ≡ true →
    IsEvenRow (end_row modes.InRow group t s)
row_end_even groups.Row t s is = even_if (is_in_row s) _ ignored (tt, (tt, (tt, tt))) tt
row_end_even groups.Table t s is = past_row_even s
row_end_even groups.Section t s is =
    even_if (in_table_scope (one t.name) s) (past_row s) ignored (past_row_even s) tt
row_end_even groups.Body t s is = tt
row_end_even groups.Caption t s is = tt
row_end_even groups.Column t s is = tt
row_end_even groups.ColumnGroup t s is = tt
row_end_even groups.Html t s is = tt
row_end_even groups.Cell t s is = tt
row_end_even group t s is = table_even group t s is

outer_even : (t : Tag) (s : State) → IsEvenRow (outer_end t s)
outer_even t s = even_if (in_table_scope (one t.name) s) (past_cell s) ignored (past_cell_even s) tt

cell_even : (group : TagGroup) (t : Tag) (s : State) → is_no_template group ≡ true →
    IsEvenRow (end_row modes.InCell group t s)
cell_even groups.Cell t s is = even_if (in_table_scope (one t.name) s) _ ignored (tt, (tt, (tt, (tt, tt)))) tt
cell_even groups.Body t s is = tt
cell_even groups.Caption t s is = tt
cell_even groups.Column t s is = tt
cell_even groups.ColumnGroup t s is = tt
cell_even groups.Html t s is = tt
cell_even groups.Table t s is = outer_even t s
cell_even groups.Section t s is = outer_even t s
cell_even groups.Row t s is = outer_even t s
cell_even group t s is = body_end_even group t s is

template_even : (group : TagGroup) (t : Tag) (s : State) → is_no_template group ≡ true →
    IsEvenRow (end_row modes.InTemplate group t s)
template_even groups.Template t s is = none is
template_even group t s is = tt

-- end tags that close no template; after a table's text none does so at once
abbrev pub is_calm_end : InsertionMode → TagGroup → Bool
is_calm_end modes.InTableText group = true
is_calm_end _ group = is_no_template group

end_even : (mode : InsertionMode) → is_build_mode mode ≡ true → (group : TagGroup) (t : Tag) (s : State) →
    is_calm_end mode group ≡ true → IsEvenRow (end_row mode group t s)
end_even modes.InBody is group t s calm = body_end_even group t s calm
end_even modes.InTable is group t s calm = table_even group t s calm
end_even modes.InTableText is group t s calm = collected_even s
end_even modes.InCaption is group t s calm = caption_even group t s calm
end_even modes.InColumnGroup is group t s calm = columns_even group s calm
end_even modes.InTableBody is group t s calm = body_of_table_even group t s calm
end_even modes.InRow is group t s calm = row_end_even group t s calm
end_even modes.InCell is group t s calm = cell_even group t s calm
end_even modes.InTemplate is group t s calm = template_even group t s calm
end_even mode is group t s calm = none is

-- the end of the page closes a template, but after a table's text not at once
abbrev pub is_calm_file : InsertionMode → Bool
is_calm_file modes.InTableText = true
is_calm_file _ = false

file_even : (mode : InsertionMode) (s : State) → is_calm_file mode ≡ true → IsEvenRow (end_of_file_row mode s)
file_even modes.InTableText s calm = collected_even s
file_even mode s calm = none calm

-- marks that neither open nor close a template
abbrev pub IsCalmMark : InsertionMode → TreeToken → Type 0
IsCalmMark mode (start t) = is_calm_start mode (tag_group t.name) ≡ true
IsCalmMark mode (finish t) = is_calm_end mode (tag_group t.name) ≡ true
IsCalmMark mode end_of_file = is_calm_file mode ≡ true
IsCalmMark mode _ = Unit {0}

pub even_row : (mode : InsertionMode) → is_build_mode mode ≡ true → (mark : TreeToken) (s : State) →
    IsCalmMark mode mark → IsEvenRow (row mode mark s)
even_row mode is (character c) s calm =
    character_even c (text_row mode (is_white_space c) s) (text_even mode is (is_white_space c) s)
even_row mode is null s calm = null_even (text_row mode false s) (text_even mode is false s)
even_row mode is (comment cs) s calm = comment_even mode is cs s
even_row mode is (doctype d) s calm = doctype_even mode is d s
even_row mode is (start t) s calm =
    start_even mode is (tag_group t.name) t s calm (even_named t.name (tag_group t.name) refl)
even_row mode is (finish t) s calm = end_even mode is (tag_group t.name) t s calm
even_row mode is end_of_file s calm = file_even mode s calm
