-- The rows that hand a mark on, and that its rank falls (WHATWG HTML, 13.2.6.4): over any places of modes.
use Rattle.std.proofs.Common.{◌≡◌, ℕ, ◌≤◌, ◌<◌, Bool, true, false, if◌then◌else◌, List, [], ◌∷◌, ◌++◌, codes, refl}
use Rattle.tree_names.specs.ElementSets.{table_cells, table_scope_barriers}
use Rattle.tree_names.specs.Wanted.{one}
use Rattle.rules_table_laws.proofs.ActionLemmas.{Facts, all_low, low_clear_to_marker, low_forget_pending, low_foster}
use Rattle.rules_table_laws.proofs.ActionLemmas.{low_go_back, low_go_to, low_hold_mode, low_imply_but, low_insert_named}
use Rattle.rules_table_laws.proofs.ActionLemmas.{low_keep_head, low_pop, low_pop_down_to, low_pop_template_mode}
use Rattle.rules_table_laws.proofs.ActionLemmas.{low_pop_to, low_push_template_mode, low_reconstruct}
use Rattle.rules_table_laws.proofs.ActionLemmas.{low_refuse_frameset, low_say, low_set_quirks}
use Rattle.rules_table_laws.proofs.CountLemmas.{closed_fewer, open_in_scope, table_is_part, template_is_part}
use Rattle.rules_table_laws.proofs.FallForms.{FallsAt, closes, falls_if, goes, rank_at}
use Rattle.rules_table.specs.Actions.{act, act_all, but_text, clear_to_marker, forget_pending, foster, go_back, go_to}
use Rattle.rules_table.specs.Actions.{hold_mode, insert_named, out_of_text, pop, pop_template_mode, pop_to}
use Rattle.rules_table.specs.Actions.{push_template_mode, reconstruct, refuse_frameset, reset, say, set_quirks}
use Rattle.rules_table.specs.AfterBody.{body_again}
use Rattle.rules_table.specs.AfterHead.{body_made}
use Rattle.rules_table.specs.Asking.{all_are, has_template, in_table_scope}
use Rattle.rules_table.specs.BeforeHead.{head_made}
use Rattle.rules_table.specs.BeforeHtml.{html_made}
use Rattle.rules_table.specs.InBody.{in_template_end_of_file}
use Rattle.rules_table.specs.InBodyBlocks.{none}
use Rattle.rules_table.specs.InCaption.{caption_closed}
use Rattle.rules_table.specs.InCell.{cell_closed}
use Rattle.rules_table.specs.InColumnGroup.{column_group_closed}
use Rattle.rules_table.specs.InHead.{head_closed}
use Rattle.rules_table.specs.InHeadNoscript.{noscript_closed}
use Rattle.rules_table.specs.InRow.{row_closed}
use Rattle.rules_table.specs.InTable.{clear_to_table, in_table_text_other, table_closed}
use Rattle.rules_table.specs.InTableBody.{clear_to_body, section_closed}
use Rattle.rules_table.specs.Initial.{without_doctype}
use Rattle.rules_table.specs.Rows.{again, is_white_space, stopped}
use Rattle.rules_table.specs.Settling.{Ready}
use Rattle.rules_table.specs.State.{State}
use Rattle.tree_predicates.specs.declared.modes.InsertionMode.{InsertionMode}
use Rattle.tree_predicates.specs.declared.modes.InsertionMode.TheVariants as modes
use Rattle.tree_forest.specs.declared.sink.QuirksMode.TheVariants.{Quirks}

without_by : (b : Bool) (facts : Facts) (p : InsertionMode → ℕ) (old : InsertionMode) (s : State) → Ready s →
    s.mode ≡ old → p modes.BeforeHtml < p old →
    rank_at p (act_all (if b then go_to modes.BeforeHtml ∷ [] else set_quirks Quirks ∷ go_to modes.BeforeHtml ∷ []) s)
    < rank_at p s
unfolding act
without_by true facts p old s ready was less =
    let actions = go_to modes.BeforeHtml ∷ [] in
    goes p s (act_all actions s) old modes.BeforeHtml
    (all_low facts.actions_keep actions (low_go_to modes.BeforeHtml, tt) s ready) was refl less
without_by false facts p old s ready was less =
    let actions = set_quirks Quirks ∷ go_to modes.BeforeHtml ∷ [] in
    goes p s (act_all actions s) old modes.BeforeHtml
    (all_low facts.actions_keep actions (low_set_quirks Quirks, (low_go_to modes.BeforeHtml, tt)) s ready) was refl less

pub without_doctype_falls : Facts → (p : InsertionMode → ℕ) (old : InsertionMode) (s : State) → Ready s →
    s.mode ≡ old → p modes.BeforeHtml < p old → rank_at p (act_all (without_doctype s) s) < rank_at p s
without_doctype_falls facts p old s ready was less =
    without_by s.options.iframe_srcdoc facts p old s ready was less

pub html_made_falls : Facts → (p : InsertionMode → ℕ) (old : InsertionMode) (s : State) → Ready s → s.mode ≡ old →
    p modes.BeforeHead < p old → rank_at p (act_all html_made s) < rank_at p s
unfolding act
html_made_falls facts p old s ready was less = goes p s (act_all html_made s) old modes.BeforeHead
    (all_low facts.actions_keep html_made
    (low_insert_named facts (codes "html") refl, (low_go_to modes.BeforeHead, tt)) s ready) was refl less

pub head_made_falls : Facts → (p : InsertionMode → ℕ) (old : InsertionMode) (s : State) → Ready s → s.mode ≡ old →
    p modes.InHead < p old → rank_at p (act_all head_made s) < rank_at p s
unfolding act
head_made_falls facts p old s ready was less = goes p s (act_all head_made s) old modes.InHead
    (all_low facts.actions_keep head_made
    (low_insert_named facts (codes "head") refl, (low_keep_head, (low_go_to modes.InHead, tt))) s ready) was refl less

pub head_closed_falls : Facts → (p : InsertionMode → ℕ) (old : InsertionMode) (s : State) → Ready s → s.mode ≡ old →
    p modes.AfterHead < p old → rank_at p (act_all head_closed s) < rank_at p s
unfolding act
head_closed_falls facts p old s ready was less = goes p s (act_all head_closed s) old modes.AfterHead
    (all_low facts.actions_keep head_closed (low_pop, (low_go_to modes.AfterHead, tt)) s ready) was refl less

pub noscript_closed_falls : Facts → (p : InsertionMode → ℕ) (old : InsertionMode) (s : State) → Ready s → s.mode ≡ old →
    p modes.InHead < p old → rank_at p (act_all noscript_closed s) < rank_at p s
unfolding act
noscript_closed_falls facts p old s ready was less = goes p s (act_all noscript_closed s) old modes.InHead
    (all_low facts.actions_keep noscript_closed (low_pop, (low_go_to modes.InHead, tt)) s ready) was refl less

pub body_made_falls : Facts → (p : InsertionMode → ℕ) (old : InsertionMode) (s : State) → Ready s → s.mode ≡ old →
    p modes.InBody < p old → rank_at p (act_all body_made s) < rank_at p s
unfolding act
body_made_falls facts p old s ready was less = goes p s (act_all body_made s) old modes.InBody
    (all_low facts.actions_keep body_made (low_insert_named facts (codes "body") refl, (low_go_to modes.InBody, tt)) s
    ready) was refl less

pub body_again_falls : Facts → (p : InsertionMode → ℕ) (old : InsertionMode) (s : State) → Ready s → s.mode ≡ old →
    p modes.InBody < p old → rank_at p (act_all body_again s) < rank_at p s
unfolding act
body_again_falls facts p old s ready was less = goes p s (act_all body_again s) old modes.InBody
    (all_low facts.actions_keep body_again (low_go_to modes.InBody, tt) s ready) was refl less

pub past_body_falls : Facts → (p : InsertionMode → ℕ) (old : InsertionMode) (s : State) → Ready s → s.mode ≡ old →
    p modes.AfterBody < p old → rank_at p (act_all (go_to modes.AfterBody ∷ []) s) < rank_at p s
unfolding act
past_body_falls facts p old s ready was less = goes p s (act_all (go_to modes.AfterBody ∷ []) s) old modes.AfterBody
    (all_low facts.actions_keep (go_to modes.AfterBody ∷ []) (low_go_to modes.AfterBody, tt) s ready) was refl less

pub column_group_made_falls : Facts → (p : InsertionMode → ℕ) (old : InsertionMode) (s : State) → Ready s →
    s.mode ≡ old →
    p modes.InColumnGroup < p old →
    rank_at p (act_all (clear_to_table ∷ insert_named (codes "colgroup") ∷ go_to modes.InColumnGroup ∷ []) s) <
    rank_at p s
unfolding act
column_group_made_falls facts p old s ready was less =
    goes p s (act_all (clear_to_table ∷ insert_named (codes "colgroup") ∷ go_to modes.InColumnGroup ∷ []) s) old
    modes.InColumnGroup
    (all_low facts.actions_keep (clear_to_table ∷ insert_named (codes "colgroup") ∷ go_to modes.InColumnGroup ∷ [])
    (low_pop_down_to _, (low_insert_named facts (codes "colgroup") refl, (low_go_to modes.InColumnGroup, tt))) s
    ready) was refl less

pub section_made_falls : Facts → (p : InsertionMode → ℕ) (old : InsertionMode) (s : State) → Ready s → s.mode ≡ old →
    p modes.InTableBody < p old →
    rank_at p (act_all (clear_to_table ∷ insert_named (codes "tbody") ∷ go_to modes.InTableBody ∷ []) s) < rank_at p s
unfolding act
section_made_falls facts p old s ready was less =
    goes p s (act_all (clear_to_table ∷ insert_named (codes "tbody") ∷ go_to modes.InTableBody ∷ []) s) old
    modes.InTableBody
    (all_low facts.actions_keep (clear_to_table ∷ insert_named (codes "tbody") ∷ go_to modes.InTableBody ∷ [])
    (low_pop_down_to _, (low_insert_named facts (codes "tbody") refl, (low_go_to modes.InTableBody, tt))) s ready) was
    refl less

pub row_made_falls : Facts → (p : InsertionMode → ℕ) (old : InsertionMode) (s : State) → Ready s → s.mode ≡ old →
    p modes.InRow < p old → rank_at p (act_all (clear_to_body ∷ insert_named (codes "tr") ∷ go_to modes.InRow ∷ []) s)
    < rank_at p s
unfolding act
row_made_falls facts p old s ready was less =
    goes p s (act_all (clear_to_body ∷ insert_named (codes "tr") ∷ go_to modes.InRow ∷ []) s) old modes.InRow
    (all_low facts.actions_keep (clear_to_body ∷ insert_named (codes "tr") ∷ go_to modes.InRow ∷ [])
    (low_pop_down_to _, (low_insert_named facts (codes "tr") refl, (low_go_to modes.InRow, tt))) s ready) was refl
    less

pub text_collected_falls : Facts → (p : InsertionMode → ℕ) (old : InsertionMode) (s : State) → Ready s → s.mode ≡ old →
    p modes.InTableText < p old →
    rank_at p (act_all (forget_pending ∷ hold_mode ∷ go_to modes.InTableText ∷ []) s) < rank_at p s
unfolding act
text_collected_falls facts p old s ready was less =
    goes p s (act_all (forget_pending ∷ hold_mode ∷ go_to modes.InTableText ∷ []) s) old modes.InTableText
    (all_low facts.actions_keep (forget_pending ∷ hold_mode ∷ go_to modes.InTableText ∷ [])
    (low_forget_pending, (low_hold_mode, (low_go_to modes.InTableText, tt))) s ready) was refl less

pub section_closed_falls : Facts → (p : InsertionMode → ℕ) (old : InsertionMode) (s : State) → Ready s → s.mode ≡ old →
    p modes.InTable < p old → rank_at p (act_all section_closed s) < rank_at p s
unfolding act
section_closed_falls facts p old s ready was less = goes p s (act_all section_closed s) old modes.InTable
    (all_low facts.actions_keep section_closed (low_pop_down_to _, (low_pop, (low_go_to modes.InTable, tt))) s ready)
    was refl less

pub row_closed_falls : Facts → (p : InsertionMode → ℕ) (old : InsertionMode) (s : State) → Ready s → s.mode ≡ old →
    p modes.InTableBody < p old → rank_at p (act_all row_closed s) < rank_at p s
unfolding act
row_closed_falls facts p old s ready was less = goes p s (act_all row_closed s) old modes.InTableBody
    (all_low facts.actions_keep row_closed (low_pop_down_to _, (low_pop, (low_go_to modes.InTableBody, tt))) s ready)
    was refl less

pub cell_closed_falls : Facts → (p : InsertionMode → ℕ) (old : InsertionMode) (s : State) → Ready s → s.mode ≡ old →
    p modes.InRow < p old → rank_at p (act_all (cell_closed table_cells) s) < rank_at p s
unfolding act
cell_closed_falls facts p old s ready was less = goes p s (act_all (cell_closed table_cells) s) old modes.InRow
    (all_low facts.actions_keep (cell_closed table_cells)
    (low_imply_but none, (low_pop_to table_cells, (low_clear_to_marker, (low_go_to modes.InRow, tt)))) s ready) was
    refl less

pub caption_closed_falls : Facts → (p : InsertionMode → ℕ) (old : InsertionMode) (s : State) → Ready s → s.mode ≡ old →
    p modes.InTable < p old → rank_at p (act_all caption_closed s) < rank_at p s
unfolding act
caption_closed_falls facts p old s ready was less = goes p s (act_all caption_closed s) old modes.InTable
    (all_low facts.actions_keep caption_closed
    (low_imply_but none, (low_pop_to (one (codes "caption")), (low_clear_to_marker, (low_go_to modes.InTable, tt)))) s
    ready) was refl less

pub column_group_closed_falls : Facts → (p : InsertionMode → ℕ) (old : InsertionMode) (s : State) → Ready s →
    s.mode ≡ old →
    p modes.InTable < p old → rank_at p (act_all column_group_closed s) < rank_at p s
unfolding act
column_group_closed_falls facts p old s ready was less = goes p s (act_all column_group_closed s) old modes.InTable
    (all_low facts.actions_keep column_group_closed (low_pop, (low_go_to modes.InTable, tt)) s ready) was refl less

-- the contents of a template
pub becomes_falls : Facts → (p : InsertionMode → ℕ) (old new : InsertionMode) (s : State) → Ready s → s.mode ≡ old →
    but_text new ≡ new → p new < p old →
    rank_at p (act_all (pop_template_mode ∷ push_template_mode new ∷ go_to new ∷ []) s) < rank_at p s
unfolding act
becomes_falls facts p old new s ready was same less =
    let actions = pop_template_mode ∷ push_template_mode new ∷ go_to new ∷ [] in
    goes p s (act_all actions s) old new (all_low facts.actions_keep actions
    (low_pop_template_mode, (low_push_template_mode new, (low_go_to new, tt))) s ready) was same less

-- what goes back to the mode that stood
pub text_ended_falls : Facts → (p : InsertionMode → ℕ) (old : InsertionMode) (s : State) → Ready s → s.mode ≡ old →
    p (out_of_text s.original) < p old → rank_at p (act_all (pop ∷ go_back ∷ []) s) < rank_at p s
unfolding act
text_ended_falls facts p old s ready was less =
    let actions = pop ∷ go_back ∷ [] in
    goes p s (act_all actions s) old (out_of_text s.original)
    (all_low facts.actions_keep actions (low_pop, (low_go_back, tt)) s ready) was refl less

pending_by : (b : Bool) (cs : List ℕ) (facts : Facts) (p : InsertionMode → ℕ) (old : InsertionMode) (s : State) →
    Ready s → s.mode ≡ old → p (out_of_text s.original) < p old →
    rank_at p (act_all ((if b then say cs ∷ []
    else foster true ∷ reconstruct ∷ say cs ∷ refuse_frameset ∷ foster false ∷ [])
    ++ forget_pending ∷ go_back ∷ []) s) < rank_at p s
unfolding act
pending_by true cs facts p old s ready was less =
    let actions = say cs ∷ forget_pending ∷ go_back ∷ [] in
    goes p s (act_all actions s) old (out_of_text s.original) (all_low facts.actions_keep actions
    (low_say facts cs, (low_forget_pending, (low_go_back, tt))) s ready) was refl less
pending_by false cs facts p old s ready was less =
    let actions = foster true ∷ reconstruct ∷ say cs ∷ refuse_frameset ∷ foster false ∷ forget_pending ∷ go_back ∷ [] in
    goes p s (act_all actions s) old (out_of_text s.original) (all_low facts.actions_keep actions (
      low_foster true,
      (
        low_reconstruct facts,
        (
          low_say facts cs,
          (
            low_refuse_frameset,
            (
              low_foster false,
              (low_forget_pending, (low_go_back, tt)),
            ),
          ),
        ),
      ),
    ) s ready) was refl less

pub pending_falls : Facts → (p : InsertionMode → ℕ) (old : InsertionMode) (s : State) → Ready s → s.mode ≡ old →
    p (out_of_text s.original) < p old → FallsAt p s (in_table_text_other s)
pending_falls facts p old s ready was less =
    pending_by (all_are is_white_space s.pending) s.pending facts p old s ready was less

-- what closes a table or a template
pub table_closed_falls : (p : InsertionMode → ℕ) (s : State) → ((mode : InsertionMode) → p mode ≤ 15) →
    in_table_scope (one (codes "table")) s ≡ true → rank_at p (act_all table_closed s) < rank_at p s
unfolding act
table_closed_falls p s bound is = closes p s (act_all table_closed s)
    (closed_fewer (one (codes "table")) s.tree.forest s.tree.stack table_is_part
    (open_in_scope (one (codes "table")) table_scope_barriers s.tree.forest s.tree.stack is))
    (bound (act_all table_closed s).mode)

template_closed_falls : (p : InsertionMode → ℕ) (s : State) → ((mode : InsertionMode) → p mode ≤ 15) →
    has_template s ≡ true →
    rank_at p (act_all (pop_to (one (codes "template")) ∷ clear_to_marker ∷ pop_template_mode ∷ reset ∷ []) s)
    < rank_at p s
unfolding act
template_closed_falls p s bound is =
    let actions = pop_to (one (codes "template")) ∷ clear_to_marker ∷ pop_template_mode ∷ reset ∷ [] in
    closes p s (act_all actions s)
    (closed_fewer (one (codes "template")) s.tree.forest s.tree.stack template_is_part is)
    (bound (act_all actions s).mode)

pub end_in_template_falls : (p : InsertionMode → ℕ) (s : State) → ((mode : InsertionMode) → p mode ≤ 15) →
    FallsAt p s (in_template_end_of_file s)
end_in_template_falls p s bound = falls_if p s (has_template s)
    (again (pop_to (one (codes "template")) ∷ clear_to_marker ∷ pop_template_mode ∷ reset ∷ [])) stopped
    (template_closed_falls p s bound) tt
