-- Where the rule hands a mark on, its rank falls (WHATWG HTML, 13.2.6).
use Rattle.std.proofs.Common.{◌≡◌, ℕ, ◌≤◌, Bool, true, false, if◌then◌else◌, List, [], ◌∷◌, refl, arith, is_some}
use Rattle.html_lexemes.specs.declared.token.Doctype.{Doctype}
use Rattle.html_tree_state.specs.Foreign.{named_foreign}
use Rattle.tree_names.specs.Groups.{tag_group}
use Rattle.rules_table_laws.proofs.ActionLemmas.{Facts}
use Rattle.rules_table_laws.proofs.EndFalls.{end_falls}
use Rattle.rules_table_laws.proofs.FallForms.{FallsAt, TextFalls, after_break_out, at_once, mode_stays, of_character}
use Rattle.rules_table_laws.proofs.FallForms.{of_null, once_if, text_if}
use Rattle.rules_table_laws.proofs.LessLemmas.{less_0_4, less_0_5, less_0_6, less_11_12, less_12_13, less_3_4, less_3_5}
use Rattle.rules_table_laws.proofs.LessLemmas.{less_3_8, less_4_5, less_8_9, less_9_10, less_9_11}
use Rattle.rules_table_laws.proofs.PartFalls.{body_again_falls, body_made_falls, column_group_closed_falls}
use Rattle.rules_table_laws.proofs.PartFalls.{end_in_template_falls, head_closed_falls, head_made_falls}
use Rattle.rules_table_laws.proofs.PartFalls.{html_made_falls, noscript_closed_falls, pending_falls}
use Rattle.rules_table_laws.proofs.PartFalls.{text_collected_falls, text_ended_falls, without_doctype_falls}
use Rattle.rules_table_laws.proofs.PlaceBounds.{below_table_text, below_text, usual_back, usual_bound}
use Rattle.rules_table_laws.proofs.StartFalls.{start_falls}
use Rattle.rules_table_laws.specs.Falls.{Falls}
use Rattle.rules_table.specs.Actions.{act, break_out, close_foreign, forget_pending, go_to, hold_mode}
use Rattle.rules_table.specs.Asking.{collects_text}
use Rattle.rules_table.specs.ForeignContent.{foreign_start, foreign_text, is_by_mode}
use Rattle.rules_table.specs.InBody.{in_body_text}
use Rattle.rules_table.specs.InColumnGroup.{column_group_closed, is_in_column_group}
use Rattle.rules_table.specs.Initial.{initial_doctype}
use Rattle.rules_table.specs.Rank.{character_place, place, usual_place}
use Rattle.rules_table.specs.Rows.{Row, again, asks, done, dropped, is_white_space, then_again}
use Rattle.rules_table.specs.Rule.{broken_out_row, foreign_end, foreign_row, rule}
use Rattle.rules_table.specs.Settling.{Ready}
use Rattle.rules_table.specs.State.{TreeToken, State, character, comment, doctype, end_of_file, finish, null, start}
use Rattle.rules_table.specs.Table.{comment_row, doctype_row, end_of_file_row, row, text_row}
use Rattle.tree_predicates.specs.Foreign.{breaks_out}
use Rattle.tree_predicates.specs.declared.modes.InsertionMode.{InsertionMode}
use Rattle.tree_predicates.specs.declared.modes.InsertionMode.TheVariants as modes

character_bound : (mode : InsertionMode) → character_place mode ≤ 15
character_bound modes.Initial = omega arith
character_bound modes.BeforeHtml = omega arith
character_bound modes.BeforeHead = omega arith
character_bound modes.InHead = omega arith
character_bound modes.InHeadNoscript = omega arith
character_bound modes.AfterHead = omega arith
character_bound modes.InBody = omega arith
character_bound modes.Text = omega arith
character_bound modes.InTable = omega arith
character_bound modes.InTableText = omega arith
character_bound modes.InCaption = omega arith
character_bound modes.InColumnGroup = omega arith
character_bound modes.InTableBody = omega arith
character_bound modes.InRow = omega arith
character_bound modes.InCell = omega arith
character_bound modes.InTemplate = omega arith
character_bound modes.AfterBody = omega arith
character_bound modes.InFrameset = omega arith
character_bound modes.AfterFrameset = omega arith
character_bound modes.AfterAfterBody = omega arith
character_bound modes.AfterAfterFrameset = omega arith

text_falls : Facts → (mode : InsertionMode) (is_space : Bool) (s : State) → s.mode ≡ mode → Ready s →
    TextFalls character_place s (text_row mode is_space s)
text_falls facts modes.Initial true s was ready = tt
text_falls facts modes.Initial false s was ready =
    without_doctype_falls facts character_place modes.Initial s ready was less_12_13
text_falls facts modes.BeforeHtml true s was ready = tt
text_falls facts modes.BeforeHtml false s was ready =
    html_made_falls facts character_place modes.BeforeHtml s ready was less_11_12
text_falls facts modes.BeforeHead true s was ready = tt
text_falls facts modes.BeforeHead false s was ready =
    head_made_falls facts character_place modes.BeforeHead s ready was less_9_11
text_falls facts modes.InHead true s was ready = tt
text_falls facts modes.InHead false s was ready =
    head_closed_falls facts character_place modes.InHead s ready was less_8_9
text_falls facts modes.InHeadNoscript true s was ready = tt
text_falls facts modes.InHeadNoscript false s was ready =
    noscript_closed_falls facts character_place modes.InHeadNoscript s ready was less_9_10
text_falls facts modes.AfterHead true s was ready = tt
text_falls facts modes.AfterHead false s was ready =
    body_made_falls facts character_place modes.AfterHead s ready was less_3_8
text_falls facts modes.InBody true s was ready = tt
text_falls facts modes.InBody false s was ready = tt
text_falls facts modes.Text true s was ready = tt
text_falls facts modes.Text false s was ready = tt
text_falls facts modes.InTable true s was ready =
    text_if character_place s (collects_text s)
    (then_again (forget_pending ∷ hold_mode ∷ go_to modes.InTableText ∷ [])) (in_body_text true)
    (text_collected_falls facts character_place modes.InTable s ready was less_0_4) tt
text_falls facts modes.InTable false s was ready =
    text_if character_place s (collects_text s)
    (then_again (forget_pending ∷ hold_mode ∷ go_to modes.InTableText ∷ [])) (in_body_text false)
    (text_collected_falls facts character_place modes.InTable s ready was less_0_4) tt
text_falls facts modes.InTableText true s was ready = tt
text_falls facts modes.InTableText false s was ready = tt
text_falls facts modes.InCaption true s was ready = tt
text_falls facts modes.InCaption false s was ready = tt
text_falls facts modes.InColumnGroup true s was ready = tt
text_falls facts modes.InColumnGroup false s was ready =
    text_if character_place s (is_in_column_group s) (then_again column_group_closed) dropped
    (column_group_closed_falls facts character_place modes.InColumnGroup s ready was less_4_5) tt
text_falls facts modes.InTableBody true s was ready =
    text_if character_place s (collects_text s)
    (then_again (forget_pending ∷ hold_mode ∷ go_to modes.InTableText ∷ [])) (in_body_text true)
    (text_collected_falls facts character_place modes.InTableBody s ready was less_0_5) tt
text_falls facts modes.InTableBody false s was ready =
    text_if character_place s (collects_text s)
    (then_again (forget_pending ∷ hold_mode ∷ go_to modes.InTableText ∷ [])) (in_body_text false)
    (text_collected_falls facts character_place modes.InTableBody s ready was less_0_5) tt
text_falls facts modes.InRow true s was ready =
    text_if character_place s (collects_text s)
    (then_again (forget_pending ∷ hold_mode ∷ go_to modes.InTableText ∷ [])) (in_body_text true)
    (text_collected_falls facts character_place modes.InRow s ready was less_0_6) tt
text_falls facts modes.InRow false s was ready =
    text_if character_place s (collects_text s)
    (then_again (forget_pending ∷ hold_mode ∷ go_to modes.InTableText ∷ [])) (in_body_text false)
    (text_collected_falls facts character_place modes.InRow s ready was less_0_6) tt
text_falls facts modes.InCell true s was ready = tt
text_falls facts modes.InCell false s was ready = tt
text_falls facts modes.InTemplate true s was ready = tt
text_falls facts modes.InTemplate false s was ready = tt
text_falls facts modes.AfterBody true s was ready = tt
text_falls facts modes.AfterBody false s was ready =
    body_again_falls facts character_place modes.AfterBody s ready was less_3_4
text_falls facts modes.InFrameset true s was ready = tt
text_falls facts modes.InFrameset false s was ready = tt
text_falls facts modes.AfterFrameset true s was ready = tt
text_falls facts modes.AfterFrameset false s was ready = tt
text_falls facts modes.AfterAfterBody true s was ready = tt
text_falls facts modes.AfterAfterBody false s was ready =
    body_again_falls facts character_place modes.AfterAfterBody s ready was less_3_5
text_falls facts modes.AfterAfterFrameset true s was ready = tt
text_falls facts modes.AfterAfterFrameset false s was ready = tt

comment_falls : Facts → (mode : InsertionMode) (cs : List ℕ) (s : State) → s.mode ≡ mode → Ready s →
    FallsAt usual_place s (comment_row mode cs s)
comment_falls facts modes.Initial cs s was ready = tt
comment_falls facts modes.BeforeHtml cs s was ready = tt
comment_falls facts modes.BeforeHead cs s was ready = tt
comment_falls facts modes.InHead cs s was ready = tt
comment_falls facts modes.InHeadNoscript cs s was ready = tt
comment_falls facts modes.AfterHead cs s was ready = tt
comment_falls facts modes.InBody cs s was ready = tt
comment_falls facts modes.Text cs s was ready = tt
comment_falls facts modes.InTable cs s was ready = tt
comment_falls facts modes.InTableText cs s was ready =
    pending_falls facts usual_place modes.InTableText s ready was (below_table_text _ (usual_back s.original))
comment_falls facts modes.InCaption cs s was ready = tt
comment_falls facts modes.InColumnGroup cs s was ready = tt
comment_falls facts modes.InTableBody cs s was ready = tt
comment_falls facts modes.InRow cs s was ready = tt
comment_falls facts modes.InCell cs s was ready = tt
comment_falls facts modes.InTemplate cs s was ready = tt
comment_falls facts modes.AfterBody cs s was ready = tt
comment_falls facts modes.InFrameset cs s was ready = tt
comment_falls facts modes.AfterFrameset cs s was ready = tt
comment_falls facts modes.AfterAfterBody cs s was ready = tt
comment_falls facts modes.AfterAfterFrameset cs s was ready = tt

doctype_falls : Facts → (mode : InsertionMode) (d : Doctype) (s : State) → s.mode ≡ mode → Ready s →
    FallsAt usual_place s (doctype_row mode d s)
doctype_falls facts modes.Initial d s was ready =
    at_once usual_place s (initial_doctype d s) (once_if s.options.drop_doctype _ _ tt tt)
doctype_falls facts modes.BeforeHtml d s was ready = tt
doctype_falls facts modes.BeforeHead d s was ready = tt
doctype_falls facts modes.InHead d s was ready = tt
doctype_falls facts modes.InHeadNoscript d s was ready = tt
doctype_falls facts modes.AfterHead d s was ready = tt
doctype_falls facts modes.InBody d s was ready = tt
doctype_falls facts modes.Text d s was ready = tt
doctype_falls facts modes.InTable d s was ready = tt
doctype_falls facts modes.InTableText d s was ready =
    pending_falls facts usual_place modes.InTableText s ready was (below_table_text _ (usual_back s.original))
doctype_falls facts modes.InCaption d s was ready = tt
doctype_falls facts modes.InColumnGroup d s was ready = tt
doctype_falls facts modes.InTableBody d s was ready = tt
doctype_falls facts modes.InRow d s was ready = tt
doctype_falls facts modes.InCell d s was ready = tt
doctype_falls facts modes.InTemplate d s was ready = tt
doctype_falls facts modes.AfterBody d s was ready = tt
doctype_falls facts modes.InFrameset d s was ready = tt
doctype_falls facts modes.AfterFrameset d s was ready = tt
doctype_falls facts modes.AfterAfterBody d s was ready = tt
doctype_falls facts modes.AfterAfterFrameset d s was ready = tt

end_of_file_falls : Facts → (mode : InsertionMode) (s : State) → s.mode ≡ mode → Ready s →
    FallsAt usual_place s (end_of_file_row mode s)
end_of_file_falls facts modes.Initial s was ready =
    without_doctype_falls facts usual_place modes.Initial s ready was less_12_13
end_of_file_falls facts modes.BeforeHtml s was ready =
    html_made_falls facts usual_place modes.BeforeHtml s ready was less_11_12
end_of_file_falls facts modes.BeforeHead s was ready =
    head_made_falls facts usual_place modes.BeforeHead s ready was less_9_11
end_of_file_falls facts modes.InHead s was ready = head_closed_falls facts usual_place modes.InHead s ready was less_8_9
end_of_file_falls facts modes.InHeadNoscript s was ready =
    noscript_closed_falls facts usual_place modes.InHeadNoscript s ready was less_9_10
end_of_file_falls facts modes.AfterHead s was ready =
    body_made_falls facts usual_place modes.AfterHead s ready was less_3_8
end_of_file_falls facts modes.InBody s was ready = end_in_template_falls usual_place s usual_bound
end_of_file_falls facts modes.Text s was ready =
    text_ended_falls facts usual_place modes.Text s ready was (below_text _ (usual_back s.original))
end_of_file_falls facts modes.InTable s was ready = end_in_template_falls usual_place s usual_bound
end_of_file_falls facts modes.InTableText s was ready =
    pending_falls facts usual_place modes.InTableText s ready was (below_table_text _ (usual_back s.original))
end_of_file_falls facts modes.InCaption s was ready = end_in_template_falls usual_place s usual_bound
end_of_file_falls facts modes.InColumnGroup s was ready = end_in_template_falls usual_place s usual_bound
end_of_file_falls facts modes.InTableBody s was ready = end_in_template_falls usual_place s usual_bound
end_of_file_falls facts modes.InRow s was ready = end_in_template_falls usual_place s usual_bound
end_of_file_falls facts modes.InCell s was ready = end_in_template_falls usual_place s usual_bound
end_of_file_falls facts modes.InTemplate s was ready = end_in_template_falls usual_place s usual_bound
end_of_file_falls facts modes.AfterBody s was ready = tt
end_of_file_falls facts modes.InFrameset s was ready = tt
end_of_file_falls facts modes.AfterFrameset s was ready = tt
end_of_file_falls facts modes.AfterAfterBody s was ready = tt
end_of_file_falls facts modes.AfterAfterFrameset s was ready = tt

row_falls : Facts → (mark : TreeToken) (mode : InsertionMode) (s : State) → s.mode ≡ mode → Ready s →
    FallsAt (place mark) s (row mode mark s)
row_falls facts (character c) mode s was ready = of_character character_place s c
    (text_row mode (is_white_space c) s) (text_falls facts mode (is_white_space c) s was ready)
row_falls facts null mode s was ready = of_null character_place s (text_row mode false s)
    (text_falls facts mode false s was ready)
row_falls facts (comment cs) mode s was ready = comment_falls facts mode cs s was ready
row_falls facts (doctype d) mode s was ready = doctype_falls facts mode d s was ready
row_falls facts (start t) mode s was ready = start_falls facts mode (tag_group t.name) t s was ready
row_falls facts (finish t) mode s was ready = end_falls facts mode (tag_group t.name) t s was ready
row_falls facts end_of_file mode s was ready = end_of_file_falls facts mode s was ready

broken_out_falls : Facts → (mark : TreeToken) (s : State) → Ready s → FallsAt (place mark) s (broken_out_row mark s)
broken_out_falls facts mark s ready = after_break_out (place mark) s (row s.mode mark (act break_out s)) ready
    (row_falls facts mark s.mode (act break_out s) (mode_stays s) (facts.actions_keep break_out s ready))

either_falls : (p : InsertionMode → ℕ) (s : State) (b : Bool) (x y : Row) → FallsAt p s x → FallsAt p s y →
    FallsAt p s (if b then x else y)
either_falls p s true x y f g = f
either_falls p s false x y f g = g

foreign_text_falls : (is_space : Bool) (s : State) → TextFalls character_place s (foreign_text is_space)
foreign_text_falls true s = tt
foreign_text_falls false s = tt

foreign_falls : Facts → (mark : TreeToken) (s : State) → Ready s → FallsAt (place mark) s (foreign_row mark s)
foreign_falls facts (character c) s ready = of_character character_place s c (foreign_text (is_white_space c))
    (foreign_text_falls (is_white_space c) s)
foreign_falls facts null s ready = tt
foreign_falls facts (comment cs) s ready = tt
foreign_falls facts (doctype d) s ready = tt
foreign_falls facts (start t) s ready = either_falls (place (start t)) s (breaks_out t) (broken_out_row (start t) s)
    (foreign_start t s) (broken_out_falls facts (start t) s ready) tt
foreign_falls facts (finish t) s ready = either_falls (place (finish t)) s (breaks_out t)
    (broken_out_row (finish t) s) (foreign_end t s) (broken_out_falls facts (finish t) s ready)
    (either_falls (place (finish t)) s (is_some (named_foreign t.name s.tree.forest s.tree.stack))
    (done (close_foreign t.name ∷ [])) (row s.mode (finish t) s) tt
    (row_falls facts (finish t) s.mode s refl ready))
foreign_falls facts end_of_file s ready = row_falls facts end_of_file s.mode s refl ready

to_falls : (mark : TreeToken) (s : State) (r : Row) → FallsAt (place mark) s r → Falls mark s r
to_falls mark s (done actions) falls = tt
to_falls mark s (asks ask actions) falls = tt
to_falls mark s (again actions) falls = falls

pub rule_falls : Facts → (mark : TreeToken) (s : State) → Ready s → Falls mark s (rule mark s)
rule_falls facts mark s ready = to_falls mark s (rule mark s) (either_falls (place mark) s (is_by_mode mark s)
    (row s.mode mark s) (foreign_row mark s) (row_falls facts mark s.mode s refl ready)
    (foreign_falls facts mark s ready))
