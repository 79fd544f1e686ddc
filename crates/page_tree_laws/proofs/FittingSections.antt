-- Tags in the sections, rows and cells of tables, and in templates: their rows fit (WHATWG HTML, 13.2.6.4.13 to
-- 13.2.6.4.16). A clause on any other group is checked group by group.
use Rattle.std.proofs.Common.{◌≡◌, true, [], ◌∷◌, codes, refl}
use Rattle.html_lexemes.specs.declared.token.Tag.{Tag}
use Rattle.tree_names.specs.ElementSets.{cell_names, table_body_context, table_cells, table_row_context, table_sections}
use Rattle.tree_names.specs.Sets.{is_one_of}
use Rattle.tree_names.specs.Wanted.{one}
use Rattle.page_tree_laws.proofs.ClearedStacks.{pops_own_section, pops_row, pops_section, stops_at_base}
use Rattle.page_tree_laws.proofs.Fits.{CanBuild, Closes, FitAll, FitsRow}
use Rattle.page_tree_laws.proofs.FittingCases.{fits_if}
use Rattle.page_tree_laws.proofs.FittingEnds.{own_closed}
use Rattle.page_tree_laws.proofs.FittingHeads.{head_start_fits, template_fits}
use Rattle.page_tree_laws.proofs.FittingSteps.{BuildFacts, group_unbarred, pops_after, unbarred}
use Rattle.page_tree_laws.proofs.FittingTables.{end_fits, start_fits, table_end_fits, table_scope_free}
use Rattle.page_tree_laws.proofs.FittingTables.{table_start_fits}
use Rattle.page_tree_laws.proofs.GroupNames.{no_base_name, one_fails, unimplied_words}
use Rattle.page_tree_laws.proofs.Guards.{Guard, HasFree, StopsAtBase, base_names}
use Rattle.tree_names.specs.Groups.{tag_group}
use Rattle.tree_names.specs.declared.group.TagGroup.{TagGroup}
use Rattle.tree_names.specs.declared.group.TagGroup.TheVariants as groups
use Rattle.rules_table.specs.Actions.{at_place}
use Rattle.rules_table.specs.Asking.{in_table_scope}
use Rattle.rules_table.specs.InBodyBlocks.{none}
use Rattle.rules_table.specs.InCell.{cell_closed, in_cell_end, in_cell_start, outer_end, past_cell}
use Rattle.rules_table.specs.InRow.{in_row_end, in_row_start, is_in_row, past_row, row_closed}
use Rattle.rules_table.specs.InTableBody.{in_table_body_end, in_table_body_start, past_table_body, section_closed}
use Rattle.rules_table.specs.InTemplate.{in_template_end, in_template_start}
use Rattle.rules_table.specs.Rows.{again, done, ignored}
use Rattle.rules_table.specs.State.{State}

-- a section is closed
body_stops : (g : Guard) → BuildFacts g → (s : State) → CanBuild g s → StopsAtBase g table_body_context
body_stops g facts s can =
    stops_at_base g facts.rows.guard can.tables.fosters table_body_context.html refl refl

past_body_fits : (g : Guard) → BuildFacts g → (s : State) → CanBuild g s → FitsRow g s (past_table_body s)
past_body_fits g facts s can = fits_if g s (in_table_scope table_sections s) (again section_closed) ignored
    (λ is. (
      body_stops g facts s can,
      (
        pops_section g facts.rows s can.goes_on.held.tree is,
        (can.tables.in_table, tt),
      ),
    )) (λ is. tt)

pub body_of_table_start_fits : (g : Guard) → BuildFacts g → (group : TagGroup) (t : Tag) (s : State) →
    tag_group t.name ≡ group → CanBuild g s → FitsRow g s (in_table_body_start group t s)
body_of_table_start_fits g facts groups.Row t s e can = (
  body_stops g facts s can,
  (group_unbarred g facts.rows t groups.Row e refl, (can.tables.in_row, tt)),
)
body_of_table_start_fits g facts groups.Cell t s e can = (
  body_stops g facts s can,
  (unbarred g facts.rows (codes "tr") refl, (can.tables.in_row, tt)),
)
body_of_table_start_fits g facts groups.Caption t s e can = past_body_fits g facts s can
body_of_table_start_fits g facts groups.Column t s e can = past_body_fits g facts s can
body_of_table_start_fits g facts groups.ColumnGroup t s e can = past_body_fits g facts s can
body_of_table_start_fits g facts groups.Section t s e can = past_body_fits g facts s can
body_of_table_start_fits g facts group t s e can = table_start_fits g facts group t s e can

pub body_of_table_end_fits : (g : Guard) → BuildFacts g → (group : TagGroup) (t : Tag) (s : State) →
    tag_group t.name ≡ group → CanBuild g s → Closes g s group → FitsRow g s (in_table_body_end group t s)
body_of_table_end_fits g facts groups.Section t s e can close = fits_if g s (in_table_scope (one t.name) s)
    (done section_closed) ignored (λ is. (
      body_stops g facts s can,
      (pops_own_section g facts.rows t s e can.goes_on.held.tree is, (can.tables.in_table, tt)),
    )) (λ is. tt)
body_of_table_end_fits g facts groups.Table t s e can close = past_body_fits g facts s can
body_of_table_end_fits g facts groups.Body t s e can close = tt
body_of_table_end_fits g facts groups.Caption t s e can close = tt
body_of_table_end_fits g facts groups.Column t s e can close = tt
body_of_table_end_fits g facts groups.ColumnGroup t s e can close = tt
body_of_table_end_fits g facts groups.Html t s e can close = tt
body_of_table_end_fits g facts groups.Cell t s e can close = tt
body_of_table_end_fits g facts groups.Row t s e can close = tt
body_of_table_end_fits g facts group t s e can close = table_end_fits g facts group t s e can close

-- a row is closed
row_stops : (g : Guard) → BuildFacts g → (s : State) → CanBuild g s → StopsAtBase g table_row_context
row_stops g facts s can =
    stops_at_base g facts.rows.guard can.tables.fosters table_row_context.html refl refl

row_closed_fits : (g : Guard) → BuildFacts g → (s : State) → CanBuild g s → is_in_row s ≡ true →
    FitAll g row_closed s
row_closed_fits g facts s can is = (
  row_stops g facts s can,
  (
    pops_row g facts.rows s can.goes_on.held.tree is,
    (can.tables.in_table_body, tt),
  ),
)

past_row_fits : (g : Guard) → BuildFacts g → (s : State) → CanBuild g s → FitsRow g s (past_row s)
past_row_fits g facts s can = fits_if g s (is_in_row s) (again row_closed) ignored (row_closed_fits g facts s can)
    (λ is. tt)

pub row_start_fits : (g : Guard) → BuildFacts g → (group : TagGroup) (t : Tag) (s : State) →
    tag_group t.name ≡ group → CanBuild g s → FitsRow g s (in_row_start group t s)
row_start_fits g facts groups.Cell t s e can = (
  row_stops g facts s can,
  (group_unbarred g facts.rows t groups.Cell e refl, (can.tables.in_cell, (tt, tt))),
)
row_start_fits g facts groups.Caption t s e can = past_row_fits g facts s can
row_start_fits g facts groups.Column t s e can = past_row_fits g facts s can
row_start_fits g facts groups.ColumnGroup t s e can = past_row_fits g facts s can
row_start_fits g facts groups.Section t s e can = past_row_fits g facts s can
row_start_fits g facts groups.Row t s e can = past_row_fits g facts s can
row_start_fits g facts group t s e can = table_start_fits g facts group t s e can

pub row_end_fits : (g : Guard) → BuildFacts g → (group : TagGroup) (t : Tag) (s : State) →
    tag_group t.name ≡ group → CanBuild g s → Closes g s group → FitsRow g s (in_row_end group t s)
row_end_fits g facts groups.Row t s e can close = fits_if g s (is_in_row s) (done row_closed) ignored
    (row_closed_fits g facts s can) (λ is. tt)
row_end_fits g facts groups.Table t s e can close = past_row_fits g facts s can
row_end_fits g facts groups.Section t s e can close = fits_if g s (in_table_scope (one t.name) s) (past_row s) ignored
    (λ is. past_row_fits g facts s can) (λ is. tt)
row_end_fits g facts groups.Body t s e can close = tt
row_end_fits g facts groups.Caption t s e can close = tt
row_end_fits g facts groups.Column t s e can close = tt
row_end_fits g facts groups.ColumnGroup t s e can close = tt
row_end_fits g facts groups.Html t s e can close = tt
row_end_fits g facts groups.Cell t s e can close = tt
row_end_fits g facts group t s e can close = table_end_fits g facts group t s e can close

-- a cell is closed, where one is free
cell_closed_fits : (g : Guard) → BuildFacts g → (s : State) → CanBuild g s →
    HasFree g table_cells s.tree.forest s.tree.stack → FitAll g (cell_closed table_cells) s
cell_closed_fits g facts s can has = (
  tt,
  (
    pops_after g none table_cells s (unimplied_words none cell_names refl) has,
    (tt, (can.tables.in_row, tt)),
  ),
)

past_cell_fits : (g : Guard) → BuildFacts g → (s : State) → CanBuild g s → FitsRow g s (past_cell s)
past_cell_fits g facts s can = fits_if g s (in_table_scope table_cells s) (again (cell_closed table_cells)) ignored
    (λ is. cell_closed_fits g facts s can (table_scope_free g facts cell_names s can refl is)) (λ is. tt)

pub cell_start_fits : (g : Guard) → BuildFacts g → (group : TagGroup) (t : Tag) (s : State) →
    tag_group t.name ≡ group → CanBuild g s → FitsRow g s (in_cell_start group t s)
cell_start_fits g facts groups.Caption t s e can = past_cell_fits g facts s can
cell_start_fits g facts groups.Column t s e can = past_cell_fits g facts s can
cell_start_fits g facts groups.ColumnGroup t s e can = past_cell_fits g facts s can
cell_start_fits g facts groups.Section t s e can = past_cell_fits g facts s can
cell_start_fits g facts groups.Cell t s e can = past_cell_fits g facts s can
cell_start_fits g facts groups.Row t s e can = past_cell_fits g facts s can
cell_start_fits g facts group t s e can = start_fits g facts group t s e can

-- an end tag of what a cell stands in closes the cell
outer_fits : (g : Guard) → BuildFacts g → (t : Tag) (s : State) → CanBuild g s → FitsRow g s (outer_end t s)
outer_fits g facts t s can = fits_if g s (in_table_scope (one t.name) s) (past_cell s) ignored
    (λ is. past_cell_fits g facts s can) (λ is. tt)

pub cell_end_fits : (g : Guard) → BuildFacts g → (group : TagGroup) (t : Tag) (s : State) →
    tag_group t.name ≡ group → CanBuild g s → Closes g s group → FitsRow g s (in_cell_end group t s)
cell_end_fits g facts groups.Cell t s e can close = fits_if g s (in_table_scope (one t.name) s)
    (done (cell_closed (one t.name))) ignored
    (λ is. (
      tt,
      (
        own_closed g facts.rows t groups.Cell s e refl refl
            (table_scope_free g facts (t.name ∷ []) s can
            (one_fails (is_one_of base_names) t.name (no_base_name t.name groups.Cell e refl)) is),
        (tt, (can.tables.in_row, tt)),
      ),
    )) (λ is. tt)
cell_end_fits g facts groups.Body t s e can close = tt
cell_end_fits g facts groups.Caption t s e can close = tt
cell_end_fits g facts groups.Column t s e can close = tt
cell_end_fits g facts groups.ColumnGroup t s e can close = tt
cell_end_fits g facts groups.Html t s e can close = tt
cell_end_fits g facts groups.Table t s e can close = outer_fits g facts t s can
cell_end_fits g facts groups.Section t s e can close = outer_fits g facts t s can
cell_end_fits g facts groups.Row t s e can close = outer_fits g facts t s can
cell_end_fits g facts group t s e can close = end_fits g facts group t s e can close

-- a template's contents are those of another mode
pub template_start_fits : (g : Guard) → BuildFacts g → (group : TagGroup) (t : Tag) (s : State) →
    tag_group t.name ≡ group → CanBuild g s → FitsRow g s (in_template_start group t s)
template_start_fits g facts groups.Base t s e can = head_start_fits g facts.rows at_place groups.Base t s e refl tt
template_start_fits g facts groups.Link t s e can = head_start_fits g facts.rows at_place groups.Link t s e refl tt
template_start_fits g facts groups.Meta t s e can = head_start_fits g facts.rows at_place groups.Meta t s e refl tt
template_start_fits g facts groups.Noframes t s e can =
    head_start_fits g facts.rows at_place groups.Noframes t s e refl tt
template_start_fits g facts groups.Script t s e can = head_start_fits g facts.rows at_place groups.Script t s e refl tt
template_start_fits g facts groups.Style t s e can = head_start_fits g facts.rows at_place groups.Style t s e refl tt
template_start_fits g facts groups.Template t s e can =
    head_start_fits g facts.rows at_place groups.Template t s e refl (facts.template, can.tables.in_template)
template_start_fits g facts groups.Title t s e can = head_start_fits g facts.rows at_place groups.Title t s e refl tt
template_start_fits g facts groups.Caption t s e can = (tt, (can.tables.in_table, (can.tables.in_table, tt)))
template_start_fits g facts groups.ColumnGroup t s e can = (tt, (can.tables.in_table, (can.tables.in_table, tt)))
template_start_fits g facts groups.Section t s e can = (tt, (can.tables.in_table, (can.tables.in_table, tt)))
template_start_fits g facts groups.Column t s e can =
    (tt, (can.tables.in_column_group, (can.tables.in_column_group, tt)))
template_start_fits g facts groups.Row t s e can = (tt, (can.tables.in_table_body, (can.tables.in_table_body, tt)))
template_start_fits g facts groups.Cell t s e can = (tt, (can.tables.in_row, (can.tables.in_row, tt)))
template_start_fits g facts group t s e can = (tt, (can.tables.in_body, (can.tables.in_body, tt)))

pub template_end_fits : (g : Guard) (group : TagGroup) (s : State) → Closes g s group →
    FitsRow g s (in_template_end group s)
template_end_fits g groups.Template s close = template_fits g s close
template_end_fits g group s close = tt
