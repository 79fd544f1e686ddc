-- The "in table" and "in table text" insertion modes (WHATWG HTML, 13.2.6.4.9 and 13.2.6.4.10).
use Rattle.std.specs.Prelude.{ℕ, Bool, false, true, List, [], ◌∷◌, ◌++◌, codes, if◌then◌else◌}
use Rattle.html_lexemes.specs.declared.token.Tag.{Tag}
use Rattle.tree_names.specs.declared.group.TagGroup.{TagGroup}
use Rattle.tree_names.specs.declared.group.TagGroup.TheVariants as groups
use Rattle.tree_names.specs.ElementSets.{table_context}
use Rattle.tree_names.specs.Wanted.{one}
use Rattle.rules_table.specs.Actions.{Action, at_place, forget_pending, foster, go_back, go_to, hold_mode, insert}
use Rattle.rules_table.specs.Actions.{insert_named, insert_void, is_known, keep_form, pop, pop_down_to, pop_to}
use Rattle.rules_table.specs.Actions.{put_marker, reconstruct, refuse_frameset, reset, say}
use Rattle.rules_table.specs.Asking.{all_are, collects_text, has_template, in_table_scope}
use Rattle.rules_table.specs.InBody.{in_body_end_of_file, in_body_start, in_body_text}
use Rattle.rules_table.specs.InBodyEnds.{in_body_end}
use Rattle.rules_table.specs.InHead.{in_head_end, in_head_start}
use Rattle.rules_table.specs.Rows.{Row, TextRow, again, done, fostered, ignored, is_white_space, kept, then_again}
use Rattle.rules_table.specs.State.{State}
use Rattle.tree_predicates.specs.Attributes.{is_hidden}
use Rattle.tree_predicates.specs.declared.modes.InsertionMode.TheVariants.{InCaption, InColumnGroup, InTableBody}
use Rattle.tree_predicates.specs.declared.modes.InsertionMode.TheVariants.{InTableText}

-- "clear the stack back to a table context"
abbrev pub clear_to_table : Action
clear_to_table = pop_down_to table_context

-- Text is collected where the current node is a part of a table or a template. Elsewhere it is taken as in the body:
-- what is inserted into another element is not fostered.
abbrev pub in_table_text_row : (is_space : Bool) → State → TextRow
in_table_text_row is_space s = if collects_text s
    then then_again (forget_pending ∷ hold_mode ∷ go_to InTableText ∷ []) else in_body_text is_space

-- the table is closed
abbrev pub table_closed : List Action
table_closed = pop_to (one (codes "table")) ∷ reset ∷ []

-- "input": one that isn't shown stays in the table
abbrev pub input_in_table : Tag → State → Row
input_in_table t s = if is_hidden t.attrs then done (insert_void at_place t ∷ [])
    else fostered (in_body_start groups.Input t s)

-- "form": it is empty, and known
abbrev pub form_in_table : Tag → State → Row
form_in_table t s = if has_template s then ignored else if is_known s.form then ignored
    else done (insert at_place t ∷ keep_form ∷ pop ∷ [])

abbrev pub in_table_start : TagGroup → Tag → State → Row
in_table_start groups.Caption t s = done (clear_to_table ∷ put_marker ∷ insert at_place t ∷ go_to InCaption ∷ [])
in_table_start groups.ColumnGroup t s = done (clear_to_table ∷ insert at_place t ∷ go_to InColumnGroup ∷ [])
in_table_start groups.Column t s =
    again (clear_to_table ∷ insert_named (codes "colgroup") ∷ go_to InColumnGroup ∷ [])
in_table_start groups.Section t s = done (clear_to_table ∷ insert at_place t ∷ go_to InTableBody ∷ [])
in_table_start groups.Cell t s = again (clear_to_table ∷ insert_named (codes "tbody") ∷ go_to InTableBody ∷ [])
in_table_start groups.Row t s = again (clear_to_table ∷ insert_named (codes "tbody") ∷ go_to InTableBody ∷ [])
in_table_start groups.Table t s = if in_table_scope (one (codes "table")) s then again table_closed else ignored
in_table_start groups.Style t s = in_head_start at_place groups.Style t s
in_table_start groups.Script t s = in_head_start at_place groups.Script t s
in_table_start groups.Template t s = in_head_start at_place groups.Template t s
in_table_start groups.Input t s = input_in_table t s
in_table_start groups.Form t s = form_in_table t s
in_table_start group t s = fostered (in_body_start group t s)

abbrev pub in_table_end : TagGroup → Tag → State → Row
in_table_end groups.Table t s = if in_table_scope (one (codes "table")) s then done table_closed else ignored
in_table_end groups.Body t s = ignored
in_table_end groups.Caption t s = ignored
in_table_end groups.Column t s = ignored
in_table_end groups.ColumnGroup t s = ignored
in_table_end groups.Html t s = ignored
in_table_end groups.Section t s = ignored
in_table_end groups.Cell t s = ignored
in_table_end groups.Row t s = ignored
in_table_end groups.Template t s = in_head_end groups.Template s
in_table_end group t s = fostered (in_body_end group t s)

abbrev pub in_table_end_of_file : State → Row
in_table_end_of_file s = in_body_end_of_file s

-- text of a table is collected, but for NUL
abbrev pub in_table_text_text : TextRow
in_table_text_text = kept

-- anything else: white space is inserted, other text as in the body, with foster parenting
abbrev pub pending_said : List ℕ → List Action
pending_said cs = if all_are is_white_space cs then say cs ∷ []
    else foster true ∷ reconstruct ∷ say cs ∷ refuse_frameset ∷ foster false ∷ []

abbrev pub in_table_text_other : State → Row
in_table_text_other s = again (pending_said s.pending ++ forget_pending ∷ go_back ∷ [])
