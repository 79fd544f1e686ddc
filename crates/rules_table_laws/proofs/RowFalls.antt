-- Rows that several modes share: each hands nothing on, or its rank falls (WHATWG HTML, 13.2.6.4).
use Rattle.std.proofs.Common.{◌≡◌, ℕ, ◌≤◌, ◌<◌, if◌then◌else◌, List, [], ◌∷◌, codes}
use Rattle.html_lexemes.specs.declared.token.Tag.{Tag}
use Rattle.tree_names.specs.ElementSets.{table_cells, table_sections}
use Rattle.tree_names.specs.Sets.{Elements}
use Rattle.tree_names.specs.Wanted.{one}
use Rattle.tree_names.specs.declared.group.TagGroup.{TagGroup}
use Rattle.rules_table_laws.proofs.ActionLemmas.{Facts}
use Rattle.rules_table_laws.proofs.FallForms.{FallsAt, IsTakenAtOnce, at_once, falls_if, once_fostered, once_if}
use Rattle.rules_table_laws.proofs.OnceLemmas.{IsNotHtml, body_end_once, body_start_once, html_once, meta_once}
use Rattle.rules_table_laws.proofs.OnceLemmas.{noscript_once, template_once}
use Rattle.rules_table_laws.proofs.PartFalls.{caption_closed_falls, cell_closed_falls, column_group_closed_falls}
use Rattle.rules_table_laws.proofs.PartFalls.{past_body_falls, row_closed_falls, section_closed_falls}
use Rattle.rules_table_laws.proofs.PartFalls.{table_closed_falls}
use Rattle.rules_table.specs.Actions.{Action, go_to, is_known}
use Rattle.rules_table.specs.Asking.{has_template, in_scope, in_table_scope}
use Rattle.rules_table.specs.Framesets.{frameset_closed, is_frameset}
use Rattle.rules_table.specs.HtmlTag.{html_start}
use Rattle.rules_table.specs.InBody.{in_body_start}
use Rattle.rules_table.specs.InBodyEnds.{html_end, in_body_end}
use Rattle.rules_table.specs.InCaption.{caption_closed, past_caption}
use Rattle.rules_table.specs.InCell.{cell_closed, outer_end, past_cell}
use Rattle.rules_table.specs.InColumnGroup.{column_group_closed, is_in_column_group, past_column_group}
use Rattle.rules_table.specs.InHead.{in_head_start, template_end}
use Rattle.rules_table.specs.InRow.{is_in_row, past_row, row_closed}
use Rattle.rules_table.specs.InTable.{form_in_table, input_in_table, table_closed}
use Rattle.rules_table.specs.InTableBody.{past_table_body, section_closed}
use Rattle.rules_table.specs.Rows.{again, done, fostered, ignored}
use Rattle.rules_table.specs.Settling.{Ready}
use Rattle.rules_table.specs.State.{State}
use Rattle.rules_table.specs.declared.target.Target.{Target}
use Rattle.tree_predicates.specs.Attributes.{is_hidden}
use Rattle.tree_predicates.specs.declared.modes.InsertionMode.{InsertionMode}
use Rattle.tree_names.specs.declared.group.TagGroup.TheVariants as groups
use Rattle.tree_predicates.specs.declared.modes.InsertionMode.TheVariants as modes

pub html_falls : (p : InsertionMode → ℕ) (t : Tag) (s : State) → FallsAt p s (html_start t s)
html_falls p t s = at_once p s (html_start t s) (html_once t s)

pub meta_falls : (p : InsertionMode → ℕ) (at : Target) (t : Tag) (s : State) →
    FallsAt p s (in_head_start at groups.Meta t s)
meta_falls p at t s = at_once p s (in_head_start at groups.Meta t s) (meta_once at t)

pub noscript_falls : (p : InsertionMode → ℕ) (at : Target) (t : Tag) (s : State) →
    FallsAt p s (in_head_start at groups.Noscript t s)
noscript_falls p at t s =
    at_once p s (in_head_start at groups.Noscript t s) (noscript_once s.options.scripting_enabled at t)

pub template_falls : (p : InsertionMode → ℕ) (s : State) → FallsAt p s (template_end s)
template_falls p s = at_once p s (template_end s) (template_once s)

pub body_start_falls : (p : InsertionMode → ℕ) (group : TagGroup) (t : Tag) (s : State) →
    FallsAt p s (in_body_start group t s)
body_start_falls p group t s = at_once p s (in_body_start group t s) (body_start_once group t s)

pub fostered_start_falls : (p : InsertionMode → ℕ) (group : TagGroup) (t : Tag) (s : State) →
    FallsAt p s (fostered (in_body_start group t s))
fostered_start_falls p group t s = at_once p s (fostered (in_body_start group t s))
    (once_fostered (in_body_start group t s) (body_start_once group t s))

pub body_end_falls : (p : InsertionMode → ℕ) (group : TagGroup) (t : Tag) (s : State) → IsNotHtml group →
    FallsAt p s (in_body_end group t s)
body_end_falls p group t s is = at_once p s (in_body_end group t s) (body_end_once group t s is)

pub fostered_end_falls : (p : InsertionMode → ℕ) (group : TagGroup) (t : Tag) (s : State) → IsNotHtml group →
    FallsAt p s (fostered (in_body_end group t s))
fostered_end_falls p group t s is = at_once p s (fostered (in_body_end group t s))
    (once_fostered (in_body_end group t s) (body_end_once group t s is))

-- a table in a table
pub table_start_falls : (p : InsertionMode → ℕ) (s : State) → ((mode : InsertionMode) → p mode ≤ 15) →
    FallsAt p s (if in_table_scope (one (codes "table")) s then again table_closed else ignored)
table_start_falls p s bound = falls_if p s (in_table_scope (one (codes "table")) s) (again table_closed) ignored
    (λ is. table_closed_falls p s bound is) tt

pub input_falls : (p : InsertionMode → ℕ) (t : Tag) (s : State) → FallsAt p s (input_in_table t s)
input_falls p t s = at_once p s (input_in_table t s) (once_if (is_hidden t.attrs) _
    (fostered (in_body_start groups.Input t s)) tt
    (once_fostered (in_body_start groups.Input t s) (body_start_once groups.Input t s)))

pub form_falls : (p : InsertionMode → ℕ) (t : Tag) (s : State) → FallsAt p s (form_in_table t s)
form_falls p t s = at_once p s (form_in_table t s)
    (once_if (has_template s) _ _ tt (once_if (is_known s.form) _ _ tt tt))

-- what is done where some element is in table scope, or else ignored
pub done_in_scope : (p : InsertionMode → ℕ) (set : Elements) (actions : List Action) (s : State) →
    FallsAt p s (if in_table_scope set s then done actions else ignored)
done_in_scope p set actions s = at_once p s (if in_table_scope set s then done actions else ignored)
    (once_if (in_table_scope set s) (done actions) ignored tt tt)

-- what closes a part of a table that is in scope
pub past_table_body_falls : Facts → (p : InsertionMode → ℕ) (old : InsertionMode) (s : State) → Ready s → s.mode ≡ old →
    p modes.InTable < p old → FallsAt p s (past_table_body s)
past_table_body_falls facts p old s ready was less =
    falls_if p s (in_table_scope table_sections s) (again section_closed) ignored
    (λ is. section_closed_falls facts p old s ready was less) tt

pub past_row_falls : Facts → (p : InsertionMode → ℕ) (old : InsertionMode) (s : State) → Ready s → s.mode ≡ old →
    p modes.InTableBody < p old → FallsAt p s (past_row s)
past_row_falls facts p old s ready was less = falls_if p s (is_in_row s) (again row_closed) ignored
    (λ is. row_closed_falls facts p old s ready was less) tt

pub past_cell_falls : Facts → (p : InsertionMode → ℕ) (old : InsertionMode) (s : State) → Ready s → s.mode ≡ old →
    p modes.InRow < p old → FallsAt p s (past_cell s)
past_cell_falls facts p old s ready was less =
    falls_if p s (in_table_scope table_cells s) (again (cell_closed table_cells)) ignored
    (λ is. cell_closed_falls facts p old s ready was less) tt

pub outer_end_falls : Facts → (p : InsertionMode → ℕ) (old : InsertionMode) (t : Tag) (s : State) → Ready s →
    s.mode ≡ old →
    p modes.InRow < p old → FallsAt p s (outer_end t s)
outer_end_falls facts p old t s ready was less =
    falls_if p s (in_table_scope (one t.name) s) (past_cell s) ignored
    (λ is. past_cell_falls facts p old s ready was less) tt

pub past_caption_falls : Facts → (p : InsertionMode → ℕ) (old : InsertionMode) (s : State) → Ready s → s.mode ≡ old →
    p modes.InTable < p old → FallsAt p s (past_caption s)
past_caption_falls facts p old s ready was less =
    falls_if p s (in_table_scope (one (codes "caption")) s) (again caption_closed) ignored
    (λ is. caption_closed_falls facts p old s ready was less) tt

pub past_column_group_falls : Facts → (p : InsertionMode → ℕ) (old : InsertionMode) (s : State) → Ready s →
    s.mode ≡ old →
    p modes.InTable < p old → FallsAt p s (past_column_group s)
past_column_group_falls facts p old s ready was less =
    falls_if p s (is_in_column_group s) (again column_group_closed) ignored
    (λ is. column_group_closed_falls facts p old s ready was less) tt

pub body_ended_falls : Facts → (p : InsertionMode → ℕ) (old : InsertionMode) (s : State) → Ready s → s.mode ≡ old →
    p modes.AfterBody < p old → FallsAt p s (html_end s)
body_ended_falls facts p old s ready was less = falls_if p s (in_scope (one (codes "body")) s)
    (again (go_to modes.AfterBody ∷ [])) ignored (λ is. past_body_falls facts p old s ready was less) tt

pub section_in_row_falls : Facts → (p : InsertionMode → ℕ) (old : InsertionMode) (t : Tag) (s : State) → Ready s →
    s.mode ≡ old → p modes.InTableBody < p old →
    FallsAt p s (if in_table_scope (one t.name) s then past_row s else ignored)
section_in_row_falls facts p old t s ready was less = falls_if p s (in_table_scope (one t.name) s) (past_row s) ignored
    (λ is. past_row_falls facts p old s ready was less) tt

frameset_closed_once : (ns : List ℕ) (s : State) → IsTakenAtOnce (frameset_closed ns s)
frameset_closed_once [] s = tt
frameset_closed_once (n ∷ []) s = tt
frameset_closed_once (n ∷ m ∷ ns) s = once_if (is_known s.context) _ _ tt
    (once_if (is_frameset (m ∷ ns) s) _ _ tt tt)

pub frameset_end_falls : (p : InsertionMode → ℕ) (s : State) → FallsAt p s (frameset_closed s.tree.stack s)
frameset_end_falls p s = at_once p s (frameset_closed s.tree.stack s) (frameset_closed_once s.tree.stack s)
