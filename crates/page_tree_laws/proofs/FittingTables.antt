-- Tags in tables, their captions and groups of columns: their rows fit (WHATWG HTML, 13.2.6.4.9 to 13.2.6.4.12). A
-- clause on any other group is checked group by group.
use Rattle.std.proofs.Common.{◌≡◌, if◌then◌else◌, [], ◌∷◌, Bool, List, None, Option, Some, codes, false, inl, refl}
use Rattle.std.proofs.Common.{subst, true, ℕ}
use Rattle.tree_forest.specs.Forest.{Holds}
use Rattle.html_lexemes.specs.declared.token.Tag.{Tag}
use Rattle.tree_names.specs.ElementSets.{table_context, table_scope_barriers}
use Rattle.tree_names.specs.Sets.{html_elements, is_one_of}
use Rattle.tree_names.specs.Wanted.{one}
use Rattle.page_tree_laws.proofs.ClearedStacks.{stops_at_base}
use Rattle.page_tree_laws.proofs.Fits.{CanBuild, Closes, FitAll, Fits, FitsRow, FitsText, MayReset}
use Rattle.page_tree_laws.proofs.FittingCases.{builds_on, fits_if, fostered_fits, text_if}
use Rattle.page_tree_laws.proofs.FittingEnds.{body_end_fits}
use Rattle.page_tree_laws.proofs.FittingHeads.{grants, head_start_fits, html_fits, template_fits}
use Rattle.page_tree_laws.proofs.FittingStarts.{body_start_fits}
use Rattle.page_tree_laws.proofs.FittingSteps.{BuildFacts, above_base, group_unbarred, new_free, pops_after}
use Rattle.page_tree_laws.proofs.FittingSteps.{pops_current, unbarred}
use Rattle.page_tree_laws.proofs.GroupNames.{all_pass, fails, unimplied_words}
use Rattle.page_tree_laws.proofs.Guards.{Guard, HasFree, IsKept, StopsAtBase, base_names}
use Rattle.tree_names.specs.Groups.{tag_group}
use Rattle.tree_names.specs.declared.group.TagGroup.{TagGroup}
use Rattle.tree_names.specs.declared.group.TagGroup.TheVariants as groups
use Rattle.rules_table.specs.Actions.{act, at_place, foster, imply_but, insert, is_known, keep_form, pop, pop_to, reset}
use Rattle.rules_table.specs.Asking.{has_template, in_table_scope}
use Rattle.rules_table.specs.InBody.{in_body_start}
use Rattle.rules_table.specs.InBodyBlocks.{none}
use Rattle.rules_table.specs.InBodyEnds.{form_pointer_end, in_body_end}
use Rattle.rules_table.specs.InCaption.{in_caption_end, in_caption_start, past_caption}
use Rattle.rules_table.specs.InColumnGroup.{column_group_closed, in_column_group_end, in_column_group_start}
use Rattle.rules_table.specs.InColumnGroup.{in_column_group_text, is_in_column_group, past_column_group}
use Rattle.rules_table.specs.InTable.{form_in_table, in_table_end, in_table_start, table_closed}
use Rattle.rules_table.specs.Rows.{Row, again, done, dropped, fostered, ignored, then_again}
use Rattle.rules_table.specs.State.{State}
use Rattle.tree_predicates.specs.Attributes.{is_hidden}

-- the rows of the body are the same where foster parenting is turned on
same_start : (group : TagGroup) (t : Tag) (s : State) →
    in_body_start group t (act (foster true) s) ≡ in_body_start group t s
unfolding act
same_start groups.Html t s = refl
same_start group t s = refl

same_pointer : (form : Option ℕ) (s : State) → form_pointer_end form (act (foster true) s) ≡ form_pointer_end form s
unfolding act
same_pointer None s = refl
same_pointer (Some n) s = refl

else_same : (b : Bool) (x y z : Row) → y ≡ z → (if b then x else y) ≡ (if b then x else z)
else_same true x y z e = refl
else_same false x y z e = e

same_end : (group : TagGroup) (t : Tag) (s : State) →
    in_body_end group t (act (foster true) s) ≡ in_body_end group t s
unfolding act
same_end groups.Form t s = else_same (has_template s) _ (form_pointer_end s.form (act (foster true) s))
    (form_pointer_end s.form s) (same_pointer s.form s)
same_end group t s = refl

pub start_fits : (g : Guard) → BuildFacts g → (group : TagGroup) (t : Tag) (s : State) → tag_group t.name ≡ group →
    CanBuild g s → FitsRow g s (in_body_start group t s)
start_fits g facts group t s e can =
    body_start_fits g facts.rows group t s e can.goes_on (grants g s group facts.template can)

pub end_fits : (g : Guard) → BuildFacts g → (group : TagGroup) (t : Tag) (s : State) → tag_group t.name ≡ group →
    CanBuild g s → Closes g s group → FitsRow g s (in_body_end group t s)
end_fits g facts group t s e can close = body_end_fits g facts.rows facts.top group t s e can.goes_on close

fostered_start : (g : Guard) → BuildFacts g → (group : TagGroup) (t : Tag) (s : State) → tag_group t.name ≡ group →
    CanBuild g s → FitsRow g s (fostered (in_body_start group t s))
fostered_start g facts group t s e can = fostered_fits g s (in_body_start group t s) can.tables.fosters
    (subst (FitsRow g (act (foster true) s)) (same_start group t s)
    (start_fits g facts group t (act (foster true) s) e (builds_on g s can)))

-- what closes a template does so where foster parenting is turned on
closes_on : (g : Guard) (s : State) (group : TagGroup) → Closes g s group → Closes g (act (foster true) s) group
unfolding act
closes_on g s groups.Template close = close
closes_on g s group close = tt

fostered_end : (g : Guard) → BuildFacts g → (group : TagGroup) (t : Tag) (s : State) → tag_group t.name ≡ group →
    CanBuild g s → Closes g s group → FitsRow g s (fostered (in_body_end group t s))
fostered_end g facts group t s e can close = fostered_fits g s (in_body_end group t s) can.tables.fosters
    (subst (FitsRow g (act (foster true) s)) (same_end group t s)
    (end_fits g facts group t (act (foster true) s) e (builds_on g s can) (closes_on g s group close)))

-- what is in table scope is free
pub table_scope_free : (g : Guard) → BuildFacts g → (words : List (List ℕ)) (s : State) → CanBuild g s →
    all_pass (fails (is_one_of base_names)) words ≡ true → in_table_scope (html_elements words) s ≡ true →
    HasFree g (html_elements words) s.tree.forest s.tree.stack
table_scope_free g facts words s can all is = facts.rows.stack.scope_has_free table_scope_barriers
    (html_elements words) s.tree can.goes_on.held.tree (above_base g facts.rows words all) is

table_stops : (g : Guard) → BuildFacts g → (s : State) → CanBuild g s → StopsAtBase g table_context
table_stops g facts s can =
    stops_at_base g facts.rows.guard can.tables.fosters table_context.html refl refl

-- a table is closed
closed_resets : (g : Guard) (s : State) → MayReset g s.template_modes →
    Fits g reset (act (pop_to (one (codes "table"))) s)
unfolding act
closed_resets g s may = may

table_closed_fits : (g : Guard) → BuildFacts g → (s : State) → CanBuild g s →
    in_table_scope (one (codes "table")) s ≡ true → FitAll g table_closed s
table_closed_fits g facts s can is =
    (table_scope_free g facts (codes "table" ∷ []) s can refl is, (closed_resets g s can.resets, tt))

-- "form" in a table is inserted and popped
form_current : (g : Guard) (t : Tag) (s : State) → ((n : ℕ) → IsKept g n → Holds n s.tree.forest) →
    Fits g keep_form (act (insert at_place t) s)
unfolding act
form_current g t s held = new_free g s.tree.forest held

form_popped : (g : Guard) (t : Tag) (s : State) → ((n : ℕ) → IsKept g n → Holds n s.tree.forest) →
    Fits g pop (act keep_form (act (insert at_place t) s))
unfolding act
form_popped g t s held = inl (new_free g s.tree.forest held)

form_fits : (g : Guard) → BuildFacts g → (t : Tag) (s : State) → tag_group t.name ≡ groups.Form → CanBuild g s →
    FitsRow g s (form_in_table t s)
form_fits g facts t s e can =
    let held : (n : ℕ) → IsKept g n → Holds n s.tree.forest = can.goes_on.held.tree.nodes.held in
    fits_if g s (has_template s) ignored _ (λ is. tt) (λ is. fits_if g s (is_known s.form) ignored _ (λ known. tt)
    (λ known. (
      group_unbarred g facts.rows t groups.Form e refl,
      (
        form_current g t s held,
        (
          form_popped g t s held,
          tt,
        ),
      ),
    )))

pub table_start_fits : (g : Guard) → BuildFacts g → (group : TagGroup) (t : Tag) (s : State) →
    tag_group t.name ≡ group → CanBuild g s → FitsRow g s (in_table_start group t s)
table_start_fits g facts groups.Caption t s e can = (
  table_stops g facts s can,
  (tt, (group_unbarred g facts.rows t groups.Caption e refl, (can.tables.in_caption, tt))),
)
table_start_fits g facts groups.ColumnGroup t s e can = (
  table_stops g facts s can,
  (group_unbarred g facts.rows t groups.ColumnGroup e refl, (can.tables.in_column_group, tt)),
)
table_start_fits g facts groups.Column t s e can = (
  table_stops g facts s can,
  (unbarred g facts.rows (codes "colgroup") refl, (can.tables.in_column_group, tt)),
)
table_start_fits g facts groups.Section t s e can = (
  table_stops g facts s can,
  (group_unbarred g facts.rows t groups.Section e refl, (can.tables.in_table_body, tt)),
)
table_start_fits g facts groups.Cell t s e can = (
  table_stops g facts s can,
  (unbarred g facts.rows (codes "tbody") refl, (can.tables.in_table_body, tt)),
)
table_start_fits g facts groups.Row t s e can = (
  table_stops g facts s can,
  (unbarred g facts.rows (codes "tbody") refl, (can.tables.in_table_body, tt)),
)
table_start_fits g facts groups.Table t s e can = fits_if g s (in_table_scope (one (codes "table")) s) _ ignored
    (table_closed_fits g facts s can) (λ is. tt)
table_start_fits g facts groups.Style t s e can =
    head_start_fits g facts.rows at_place groups.Style t s e refl tt
table_start_fits g facts groups.Script t s e can =
    head_start_fits g facts.rows at_place groups.Script t s e refl tt
table_start_fits g facts groups.Template t s e can =
    head_start_fits g facts.rows at_place groups.Template t s e refl (facts.template, can.tables.in_template)
table_start_fits g facts groups.Input t s e can = fits_if g s (is_hidden t.attrs) _ _ (λ is. (tt, tt))
    (λ is. fostered_start g facts groups.Input t s e can)
table_start_fits g facts groups.Form t s e can = form_fits g facts t s e can
table_start_fits g facts group t s e can = fostered_start g facts group t s e can

pub table_end_fits : (g : Guard) → BuildFacts g → (group : TagGroup) (t : Tag) (s : State) →
    tag_group t.name ≡ group → CanBuild g s → Closes g s group → FitsRow g s (in_table_end group t s)
table_end_fits g facts groups.Table t s e can close = fits_if g s (in_table_scope (one (codes "table")) s) _ ignored
    (table_closed_fits g facts s can) (λ is. tt)
table_end_fits g facts groups.Body t s e can close = tt
table_end_fits g facts groups.Caption t s e can close = tt
table_end_fits g facts groups.Column t s e can close = tt
table_end_fits g facts groups.ColumnGroup t s e can close = tt
table_end_fits g facts groups.Html t s e can close = tt
table_end_fits g facts groups.Section t s e can close = tt
table_end_fits g facts groups.Cell t s e can close = tt
table_end_fits g facts groups.Row t s e can close = tt
table_end_fits g facts groups.Template t s e can close = template_fits g s close
table_end_fits g facts group t s e can close = fostered_end g facts group t s e can close

-- a caption is closed
caption_closed_fits : (g : Guard) → BuildFacts g → (s : State) → CanBuild g s →
    in_table_scope (one (codes "caption")) s ≡ true → Fits g (pop_to (one (codes "caption"))) (act (imply_but none) s)
caption_closed_fits g facts s can is = pops_after g none (one (codes "caption")) s
    (unimplied_words none (codes "caption" ∷ []) refl) (table_scope_free g facts (codes "caption" ∷ []) s can refl is)

past_caption_fits : (g : Guard) → BuildFacts g → (s : State) → CanBuild g s → FitsRow g s (past_caption s)
past_caption_fits g facts s can = fits_if g s (in_table_scope (one (codes "caption")) s) _ ignored
    (λ is. (tt, (caption_closed_fits g facts s can is, (tt, (can.tables.in_table, tt))))) (λ is. tt)

pub caption_start_fits : (g : Guard) → BuildFacts g → (group : TagGroup) (t : Tag) (s : State) →
    tag_group t.name ≡ group → CanBuild g s → FitsRow g s (in_caption_start group t s)
caption_start_fits g facts groups.Caption t s e can = past_caption_fits g facts s can
caption_start_fits g facts groups.Column t s e can = past_caption_fits g facts s can
caption_start_fits g facts groups.ColumnGroup t s e can = past_caption_fits g facts s can
caption_start_fits g facts groups.Section t s e can = past_caption_fits g facts s can
caption_start_fits g facts groups.Cell t s e can = past_caption_fits g facts s can
caption_start_fits g facts groups.Row t s e can = past_caption_fits g facts s can
caption_start_fits g facts group t s e can = start_fits g facts group t s e can

pub caption_end_fits : (g : Guard) → BuildFacts g → (group : TagGroup) (t : Tag) (s : State) →
    tag_group t.name ≡ group → CanBuild g s → Closes g s group → FitsRow g s (in_caption_end group t s)
caption_end_fits g facts groups.Caption t s e can close = fits_if g s (in_table_scope (one (codes "caption")) s) _
    ignored
    (λ is. (tt, (caption_closed_fits g facts s can is, (tt, (can.tables.in_table, tt))))) (λ is. tt)
caption_end_fits g facts groups.Table t s e can close = past_caption_fits g facts s can
caption_end_fits g facts groups.Body t s e can close = tt
caption_end_fits g facts groups.Column t s e can close = tt
caption_end_fits g facts groups.ColumnGroup t s e can close = tt
caption_end_fits g facts groups.Html t s e can close = tt
caption_end_fits g facts groups.Section t s e can close = tt
caption_end_fits g facts groups.Cell t s e can close = tt
caption_end_fits g facts groups.Row t s e can close = tt
caption_end_fits g facts group t s e can close = end_fits g facts group t s e can close

-- a group of columns is closed, where it is the current node
columns_closed : (g : Guard) → BuildFacts g → (s : State) → CanBuild g s → is_in_column_group s ≡ true →
    FitAll g column_group_closed s
columns_closed g facts s can is = (
  pops_current g (one (codes "colgroup")) s can.goes_on.held.tree
      (above_base g facts.rows (codes "colgroup" ∷ []) refl) is,
  (can.tables.in_table, tt),
)

past_columns : (g : Guard) → BuildFacts g → (s : State) → CanBuild g s → FitsRow g s (past_column_group s)
past_columns g facts s can = fits_if g s (is_in_column_group s) (again column_group_closed) ignored
    (columns_closed g facts s can) (λ is. tt)

pub columns_start_fits : (g : Guard) → BuildFacts g → (group : TagGroup) (t : Tag) (s : State) →
    tag_group t.name ≡ group → CanBuild g s → FitsRow g s (in_column_group_start group t s)
columns_start_fits g facts groups.Html t s e can = html_fits g t s
columns_start_fits g facts groups.Column t s e can = (tt, tt)
columns_start_fits g facts groups.Template t s e can =
    head_start_fits g facts.rows at_place groups.Template t s e refl (facts.template, can.tables.in_template)
columns_start_fits g facts group t s e can = past_columns g facts s can

pub columns_end_fits : (g : Guard) → BuildFacts g → (group : TagGroup) (s : State) → CanBuild g s →
    Closes g s group → FitsRow g s (in_column_group_end group s)
columns_end_fits g facts groups.ColumnGroup s can close = fits_if g s (is_in_column_group s) (done column_group_closed)
    ignored (columns_closed g facts s can) (λ is. tt)
columns_end_fits g facts groups.Column s can close = tt
columns_end_fits g facts groups.Template s can close = template_fits g s close
columns_end_fits g facts group s can close = past_columns g facts s can

pub columns_text_fits : (g : Guard) → BuildFacts g → (is_space : Bool) (s : State) → CanBuild g s →
    FitsText g s (in_column_group_text is_space s)
columns_text_fits g facts true s can = tt
columns_text_fits g facts false s can = text_if g s (is_in_column_group s) (then_again column_group_closed) dropped
    (columns_closed g facts s can) (λ is. tt)
