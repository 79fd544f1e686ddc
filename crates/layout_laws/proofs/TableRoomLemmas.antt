-- Where characters may overflow, each value of a table is laid out, and so all values are.
use Rattle.std.proofs.Common.{ℕ, Bool, true, false, List, [], ◌∷◌, ◌++◌, Option, None, Some}
use Rattle.std.specs.Prelude.{All, IsSomeAnd, codes, filter, if◌then◌else◌}
use Rattle.std.specs.Option.{option_map, option_to_list}
use Rattle.std.proofs.lemmas.List.Elements.{All-append, All-cons, All-map, All-nil}
use Rattle.block_layout_laws.proofs.OptionLemmas.{given_mapped, given_chained}
use Rattle.block_trait.specs.Calls as calls
use Rattle.block_trait.specs.Renderers.{Marking, Sub}
use Rattle.block_trait.specs.declared.options.RenderOptions.{RenderOptions}
use Rattle.block_laws.specs.RendererLaws.{CallHasRoom, HasRoom}
use Rattle.text_block_renderer.specs.PartLaws.{HaveRoom}
use Rattle.text_block_renderer.specs.Parts.{Parts}
use Rattle.table_grid.specs.declared.columns.Column.{Column}
use Rattle.table_widths.specs.Slots.{Table, has_columns, is_shown}
use Rattle.table_widths.specs.declared.slot.Slot.{Slot}
use Rattle.column_fits.specs.declared.fit.ColumnFit.{ColumnFit}
use Rattle.layout_values.specs.Sizing.{Sizing, within}
use Rattle.render_values.specs.Values.{Values, none, value}
use Rattle.render_values.specs.declared.info.Head.{Head}
use Rattle.render_values.specs.declared.info.RenderInfo.{RenderInfo}
use Rattle.render_values.specs.declared.info.RenderInfo.TheVariants as infos
use Rattle.layout_state.specs.Begins.{following, named}
use Rattle.layout_state.specs.LayoutState.{LayoutState, Step, TablePlace, cells, goes_to, in_turn, outside, rows, says}
use Rattle.layout_values.specs.Lay.{Content, among_cells, among_rows, content_of, holds, in_its_group, in_its_row}
use Rattle.layout_values.specs.Lay.{in_its_slot, laid, laid_at, lay, on_page, shown, styled}
use Rattle.layout_tables.specs.Tables.{border_call, cell_begun, cell_ended, cell_laid, columns_laid, empties_before}
use Rattle.layout_tables.specs.Tables.{empty_slot, empty_slots, end_of_row, fence, from_cell, in_cell, in_slot}
use Rattle.layout_tables.specs.Tables.{is_fenced, renderer_of, row_begun, row_call, row_ended, rows_laid, rows_of}
use Rattle.layout_tables.specs.Tables.{slot_width, start_all, table_begun, table_ended, table_laid, top_border}
use Rattle.layout_laws.proofs.RoomLemmas.{Goes, RoomAt, RoomLaws, Roomy, begins_goes, either_goes, ends_goes}
use Rattle.layout_laws.proofs.RoomLemmas.{following_goes, goes_by, goes_there, goes_through, leading_goes, list_goes}
use Rattle.layout_laws.proofs.RoomLemmas.{named_goes, part_goes, placed_goes, prefix_goes, says_goes, styled_goes}

-- ---- a table

fence_goes : {H A : Type 0} {m : Marking H A} (laws : RoomLaws m) (asked : Bool) → Goes (fence m asked)
fence_goes {m = m} laws asked = either_goes asked
    (in_turn (says m (calls.adds_text (codes "```"))) (says m calls.ends_line)) Some
    (goes_through _ _ (says_goes laws (calls.adds_text (codes "```")) tt) (says_goes laws calls.ends_line tt)) goes_by

border_has : (H A : Type 0) (widths : Option (List ℕ)) → CallHasRoom {H = H} {A = A} (border_call widths)
border_has H A None = tt
border_has H A (Some widths) = tt

top_goes : {H A : Type 0} {m : Marking H A} (laws : RoomLaws m) (options : RenderOptions)
    (widths : Option (List ℕ)) → Goes (top_border m options widths)
top_goes {H} {A} {m} laws options widths = either_goes options.draw_borders (says m (border_call widths)) Some
    (says_goes laws (border_call widths) (border_has H A widths)) goes_by

table_begins : {H A : Type 0} {m : Marking H A} (laws : RoomLaws m) (options : RenderOptions) (fenced : Bool)
    (widths : Option (List ℕ)) (slots : List (List Slot)) → Goes (table_begun m options fenced widths slots)
table_begins laws options fenced widths slots =
    goes_through _ _ (says_goes laws calls.starts_table tt)
    (goes_through _ _ (fence_goes laws fenced)
    (goes_through _ _ (top_goes laws options widths) (goes_there (rows widths slots []) tt)))

table_ends : {H A : Type 0} {m : Marking H A} (laws : RoomLaws m) (fenced : Bool) (place : TablePlace H A)
    → RoomAt place → Goes (table_ended m fenced place)
table_ends laws fenced place at = goes_through (goes_to place) _ (goes_there place at) (fence_goes laws fenced)

rows_go : {H A : Type 0} {m : Marking H A} (laws : RoomLaws m) (t : Table) (widths : Option (List ℕ))
    (inside : Step H A) → Goes inside → Goes (rows_laid m t widths inside)
rows_go {m = m} laws t widths inside goes x room =
    let options = x.parts.current.options in
    let fenced = is_fenced options x.table in
    goes_through (table_begun m options fenced widths (rows_of widths t)) _
    (table_begins laws options fenced widths (rows_of widths t))
    (goes_through inside (table_ended m fenced x.table) goes (table_ends laws fenced x.table room.1)) x room

columns_go : {H A : Type 0} {m : Marking H A} (laws : RoomLaws m) (t : Table) (fits : Option (List ColumnFit))
    (columns : List Column) (inside : Step H A) → Goes inside → Goes (columns_laid m t fits columns inside)
columns_go laws t fits [] inside goes = goes_by
columns_go laws t fits (c ∷ columns) inside goes = λ x room. rows_go laws t _ inside goes x room

table_goes : {H A : Type 0} {m : Marking H A} (laws : RoomLaws m) (t : Table) (fits : Option (List ColumnFit))
    (inside : Step H A) → Goes inside → Goes (table_laid m t fits inside)
unfolding table_laid
table_goes laws t fits inside goes = columns_go laws t fits t.columns inside goes

-- ---- its rows

empties_have : {H A : Type 0} {m : Marking H A} (laws : RoomLaws m) (widths : Option (List ℕ)) (s : Sub H A)
    (slots : List Slot) → HasRoom s → All (λ c. HasRoom c.0) (empty_slots m widths s slots)
empties_have {m = m} laws widths s slots has = All-map (λ c. HasRoom c.0) (empty_slot m widths s) slots
    (λ k d lt. laws.part (slot_width widths s.width _) s has)

row_has : {H A : Type 0} (widths : Option (List ℕ)) (made : List (Sub H A × ℕ)) → All (λ c. HasRoom c.0) made
    → CallHasRoom (row_call widths made)
row_has None made has = All-map HasRoom renderer_of made has
row_has (Some widths) made has = has

end_goes : {H A : Type 0} {m : Marking H A} (laws : RoomLaws m) (place : TablePlace H A) (x : LayoutState H A)
    → RoomAt place → Roomy x → IsSomeAnd (end_of_row m place x) Roomy
end_goes laws (outside in_cell) x at room = room
end_goes laws (rows widths slots fragments) x at room = room
end_goes {m = m} laws (cells widths more fragments slots made) x at room =
    goes_through (goes_to (rows widths more [])) _ (goes_there (rows widths more []) tt)
    (says_goes laws (row_call widths (made ++ empty_slots m widths x.parts.current (filter has_columns slots)))
    (row_has widths (made ++ empty_slots m widths x.parts.current (filter has_columns slots))
    (All-append (λ c. HasRoom c.0) made (empty_slots m widths x.parts.current (filter has_columns slots)) at
    (empties_have laws widths x.parts.current (filter has_columns slots) room.0.current)))) x room

row_ends : {H A : Type 0} {m : Marking H A} (laws : RoomLaws m) → Goes (row_ended m)
unfolding row_ended
row_ends laws x room = end_goes laws x.table x room.1 room

-- ---- its cells

starts_go : {H A : Type 0} {m : Marking H A} (laws : RoomLaws m) (names : List (List ℕ)) → Goes (start_all m names)
starts_go laws [] = goes_by
starts_go laws (name ∷ names) =
    goes_through _ _ (says_goes laws (calls.starts_fragment name) tt) (starts_go laws names)

cell_begins : {H A : Type 0} {m : Marking H A} (laws : RoomLaws m) (width : ℕ) (fragments : List (List ℕ))
    → Goes (cell_begun m width fragments)
unfolding cell_begun in_cell
cell_begins {m = m} laws width fragments x room =
    starts_go laws fragments (in_cell m width x) ((part_goes laws width x room).0, tt)

cell_ends : {H A : Type 0} (outer : Sub H A) (widths : Option (List ℕ)) (more : List (List Slot)) (slots : List Slot)
    (made : List (Sub H A × ℕ)) (taken : ℕ) → HasRoom outer → All (λ c. HasRoom c.0) made
    → Goes (cell_ended outer widths more slots made taken)
unfolding cell_ended
cell_ends {H} {A} outer widths more slots made taken has all x room = (
  record { current = has; below = room.0.below },
  All-append (λ (c : Sub H A × ℕ). HasRoom c.0) made ((x.parts.current, taken) ∷ []) all
      (All-cons (λ (c : Sub H A × ℕ). HasRoom c.0) (x.parts.current, taken) [] room.0.current
      (All-nil (λ (c : Sub H A × ℕ). HasRoom c.0))),
)

slot_goes : {H A : Type 0} {m : Marking H A} (laws : RoomLaws m) (widths : Option (List ℕ)) (more : List (List Slot))
    (fragments : List (List ℕ)) (slots : List Slot) (made : List (Sub H A × ℕ)) (inside : Step H A)
    (x : LayoutState H A)
    → Goes inside → All (λ c. HasRoom c.0) made → Roomy x
    → IsSomeAnd (in_slot m widths more fragments slots made inside x) Roomy
slot_goes laws widths more fragments [] made inside x goes all room = (room.0, all)
slot_goes {m = m} laws widths more fragments (s ∷ slots) made inside x goes all room = by_test (has_columns s)
  where
    by_test : (t : Bool) → IsSomeAnd (if t
        then in_turn (cell_begun m (slot_width widths x.parts.current.width s) fragments)
        (in_turn inside (cell_ended x.parts.current widths more slots made s.rows)) x
        else goes_to (cells widths more [] slots made) x) Roomy
    by_test true = goes_through _ _ (cell_begins laws (slot_width widths x.parts.current.width s) fragments)
        (goes_through _ _ goes (cell_ends x.parts.current widths more slots made s.rows room.0.current all)) x room
    by_test false = (room.0, all)

cell_goes : {H A : Type 0} {m : Marking H A} (laws : RoomLaws m) (widths : Option (List ℕ)) (more : List (List Slot))
    (fragments : List (List ℕ)) (slots : List Slot) (made : List (Sub H A × ℕ)) (inside : Step H A)
    (x : LayoutState H A)
    → Goes inside → All (λ c. HasRoom c.0) made → Roomy x
    → IsSomeAnd (cell_laid m widths more fragments slots made inside x) Roomy
unfolding cell_laid
cell_goes {m = m} laws widths more fragments slots made inside x goes all room =
    slot_goes laws widths more fragments (from_cell slots)
    (made ++ empty_slots m widths x.parts.current (empties_before slots)) inside x goes
    (All-append (λ c. HasRoom c.0) made (empty_slots m widths x.parts.current (empties_before slots)) all
    (empties_have laws widths x.parts.current (empties_before slots) room.0.current)) room

-- ---- a value

holds_goes : {H A : Type 0} {m : Marking H A} (laws : RoomLaws m) (info : RenderInfo) (c : Content)
    (inside : Step H A) → Goes inside → Goes (holds m info c inside)
unfolding holds
holds_goes laws (infos.Heading level) c inside goes =
    λ x room. prefix_goes laws _ _ _ c.least inside x goes room
holds_goes laws infos.Quote c inside goes = λ x room. prefix_goes laws _ _ _ c.least inside x goes room
holds_goes laws infos.Details c inside goes = λ x room. prefix_goes laws _ _ _ c.least inside x goes room
holds_goes laws infos.Bullets c inside goes = λ x room. list_goes _ inside x goes room
holds_goes laws (infos.Numbers first) c inside goes = λ x room. list_goes _ inside x goes room
holds_goes laws infos.Nothing c inside goes = goes
holds_goes laws (infos.Text cs) c inside goes = goes
holds_goes laws (infos.Image source title) c inside goes = goes
holds_goes laws infos.Break c inside goes = goes
holds_goes laws infos.Rule c inside goes = goes
holds_goes laws infos.Container c inside goes = goes
holds_goes laws (infos.Link target) c inside goes = goes
holds_goes laws infos.Emphasis c inside goes = goes
holds_goes laws infos.Strong c inside goes = goes
holds_goes laws infos.Strikeout c inside goes = goes
holds_goes laws infos.Code c inside goes = goes
holds_goes laws infos.Superscript c inside goes = goes
holds_goes laws infos.Block c inside goes = goes
holds_goes laws infos.Division c inside goes = goes
holds_goes laws infos.Preformatted c inside goes = goes
holds_goes laws infos.Descriptions c inside goes = goes
holds_goes laws infos.Term c inside goes = goes
holds_goes laws infos.Table c inside goes = table_goes laws c.table c.fits inside goes
holds_goes laws infos.TableGroup c inside goes = goes
holds_goes laws infos.TableRow c inside goes = goes
holds_goes laws (infos.TableCell columns taken) c inside goes = goes

shown_goes : {H A : Type 0} {m : Marking H A} (laws : RoomLaws m) (head : Head) (c : Content) (inside : Step H A)
    → Goes inside → Goes (shown m head c inside)
shown_goes {m = m} laws head c inside goes = goes_through _ _ (leading_goes laws head)
    (goes_through _ _ (begins_goes laws head.info)
    (goes_through _ _ (holds_goes laws head.info c (in_turn (following m head) inside)
    (goes_through _ _ (following_goes laws head) goes)) (ends_goes laws head.info)))

in_slot_goes : {H A : Type 0} {m : Marking H A} (laws : RoomLaws m) (head : Head) (place : TablePlace H A)
    (inside : Step H A) (x : LayoutState H A) → Goes inside → RoomAt place → Roomy x
    → IsSomeAnd (in_its_slot m head place inside x) Roomy
in_slot_goes laws head (outside in_cell) inside x goes at room = room
in_slot_goes laws head (rows widths slots fragments) inside x goes at room = room
in_slot_goes {m = m} laws head (cells widths more fragments slots made) inside x goes at room =
    cell_goes laws widths more fragments slots made
    (styled m head.style (in_turn (named m head.fragment) inside)) x
    (styled_goes laws head.style (in_turn (named m head.fragment) inside)
    (goes_through _ _ (named_goes laws head.fragment) goes)) at room

in_row_goes : {H A : Type 0} {m : Marking H A} (laws : RoomLaws m) (head : Head) (widths : Option (List ℕ))
    (slots : List (List Slot)) (fragments : List (List ℕ)) (inside : Step H A) → Goes inside
    → Goes (in_its_row m head widths slots fragments inside)
in_row_goes laws head widths [] fragments inside goes = goes_by
in_row_goes {H} {A} {m} laws head widths (slots ∷ more) fragments inside goes = either_goes (is_shown slots)
    (in_turn (row_begun widths more fragments slots head.fragment)
    (styled m head.style (in_turn inside (row_ended m))))
    (goes_to (rows widths more (fragments ++ option_to_list head.fragment)))
    (goes_through (row_begun widths more fragments slots head.fragment) _
    (goes_there (cells widths more (fragments ++ option_to_list head.fragment) slots [])
    (All-nil (λ (c : Sub H A × ℕ). HasRoom c.0)))
    (styled_goes laws head.style (in_turn inside (row_ended m)) (goes_through _ _ goes (row_ends laws))))
    (goes_there (rows widths more (fragments ++ option_to_list head.fragment)) tt)

in_group_goes : {H A : Type 0} {m : Marking H A} (laws : RoomLaws m) (head : Head) (widths : Option (List ℕ))
    (slots : List (List Slot)) (fragments : List (List ℕ)) (inside : Step H A) → Goes inside
    → Goes (in_its_group m head widths slots fragments inside)
in_group_goes laws head widths slots fragments inside goes =
    goes_through (goes_to (rows widths slots (fragments ++ option_to_list head.fragment))) _
    (goes_there (rows widths slots (fragments ++ option_to_list head.fragment)) tt)
    (styled_goes laws head.style inside goes)

among_go : {H A : Type 0} {m : Marking H A} (laws : RoomLaws m) (info : RenderInfo) (head : Head)
    (widths : Option (List ℕ)) (slots : List (List Slot)) (fragments : List (List ℕ)) (inside : Step H A)
    → Goes inside → Goes (among_rows m info head widths slots fragments inside)
among_go laws infos.Nothing head widths slots fragments inside goes = goes_by
among_go laws (infos.Text cs) head widths slots fragments inside goes = goes_by
among_go laws (infos.Image source title) head widths slots fragments inside goes = goes_by
among_go laws infos.Break head widths slots fragments inside goes = goes_by
among_go laws infos.Rule head widths slots fragments inside goes = goes_by
among_go laws infos.Container head widths slots fragments inside goes = goes_by
among_go laws (infos.Link target) head widths slots fragments inside goes = goes_by
among_go laws infos.Emphasis head widths slots fragments inside goes = goes_by
among_go laws infos.Strong head widths slots fragments inside goes = goes_by
among_go laws infos.Strikeout head widths slots fragments inside goes = goes_by
among_go laws infos.Code head widths slots fragments inside goes = goes_by
among_go laws infos.Superscript head widths slots fragments inside goes = goes_by
among_go laws infos.Block head widths slots fragments inside goes = goes_by
among_go laws infos.Division head widths slots fragments inside goes = goes_by
among_go laws (infos.Heading level) head widths slots fragments inside goes = goes_by
among_go laws infos.Quote head widths slots fragments inside goes = goes_by
among_go laws infos.Preformatted head widths slots fragments inside goes = goes_by
among_go laws infos.Bullets head widths slots fragments inside goes = goes_by
among_go laws (infos.Numbers first) head widths slots fragments inside goes = goes_by
among_go laws infos.Descriptions head widths slots fragments inside goes = goes_by
among_go laws infos.Details head widths slots fragments inside goes = goes_by
among_go laws infos.Term head widths slots fragments inside goes = goes_by
among_go laws infos.Table head widths slots fragments inside goes = goes_by
among_go laws infos.TableGroup head widths slots fragments inside goes =
    in_group_goes laws head widths slots fragments inside goes
among_go laws infos.TableRow head widths slots fragments inside goes =
    in_row_goes laws head widths slots fragments inside goes
among_go laws (infos.TableCell columns taken) head widths slots fragments inside goes = goes_by

among_cells_go : {H A : Type 0} {m : Marking H A} (laws : RoomLaws m) (info : RenderInfo) (head : Head)
    (place : TablePlace H A) (inside : Step H A) (x : LayoutState H A) → Goes inside → RoomAt place → Roomy x
    → IsSomeAnd (among_cells m info head place inside x) Roomy
among_cells_go laws infos.Nothing head place inside x goes at room = room
among_cells_go laws (infos.Text cs) head place inside x goes at room = room
among_cells_go laws (infos.Image source title) head place inside x goes at room = room
among_cells_go laws infos.Break head place inside x goes at room = room
among_cells_go laws infos.Rule head place inside x goes at room = room
among_cells_go laws infos.Container head place inside x goes at room = room
among_cells_go laws (infos.Link target) head place inside x goes at room = room
among_cells_go laws infos.Emphasis head place inside x goes at room = room
among_cells_go laws infos.Strong head place inside x goes at room = room
among_cells_go laws infos.Strikeout head place inside x goes at room = room
among_cells_go laws infos.Code head place inside x goes at room = room
among_cells_go laws infos.Superscript head place inside x goes at room = room
among_cells_go laws infos.Block head place inside x goes at room = room
among_cells_go laws infos.Division head place inside x goes at room = room
among_cells_go laws (infos.Heading level) head place inside x goes at room = room
among_cells_go laws infos.Quote head place inside x goes at room = room
among_cells_go laws infos.Preformatted head place inside x goes at room = room
among_cells_go laws infos.Bullets head place inside x goes at room = room
among_cells_go laws (infos.Numbers first) head place inside x goes at room = room
among_cells_go laws infos.Descriptions head place inside x goes at room = room
among_cells_go laws infos.Details head place inside x goes at room = room
among_cells_go laws infos.Term head place inside x goes at room = room
among_cells_go laws infos.Table head place inside x goes at room = room
among_cells_go laws infos.TableGroup head place inside x goes at room = room
among_cells_go laws infos.TableRow head place inside x goes at room = room
among_cells_go laws (infos.TableCell columns taken) head place inside x goes at room =
    in_slot_goes laws head place inside x goes at room

laid_goes : {H A : Type 0} {m : Marking H A} (laws : RoomLaws m) (head : Head) (c : Content) (place : TablePlace H A)
    (inside : Step H A) (x : LayoutState H A) → Goes inside → RoomAt place → Roomy x
    → IsSomeAnd (laid_at m head c place inside x) Roomy
laid_goes {m = m} laws head c (outside in_cell) inside x goes at room =
    placed_goes laws x.around (styled m head.style (shown m head c inside)) x
    (styled_goes laws head.style (shown m head c inside) (shown_goes laws head c inside goes)) room
laid_goes laws head c (rows widths slots fragments) inside x goes at room =
    among_go laws head.info head widths slots fragments inside goes x room
laid_goes laws head c (cells widths more fragments slots made) inside x goes at room =
    among_cells_go laws head.info head (cells widths more fragments slots made) inside x goes at room

-- ---- values

-- no width is too narrow where characters may overflow
pub lay_goes : {H A : Type 0} {m : Marking H A} (laws : RoomLaws m) (w : Sizing) (values : Values)
    → Goes (lay m w values)
lay_goes laws w none x room = room
lay_goes {m = m} laws w (value head inside rest) x room = given_chained Roomy Roomy (lay m w rest)
    (laid m head (content_of w head inside) (lay m (within w head) inside) x) (lay_goes laws w rest)
    (laid_goes laws head (content_of w head inside) x.table (lay m (within w head) inside) x
    (lay_goes laws (within w head) inside) room.1 room)

pub parts_laid : {H A : Type 0} {m : Marking H A} (laws : RoomLaws m) (w : Sizing) (values : Values) (p : Parts H A)
    → HaveRoom p → IsSomeAnd (option_map (λ l. l.parts) (lay m w values (on_page p))) HaveRoom
parts_laid {H} {A} {m} laws w values p room = given_mapped Roomy HaveRoom (λ (l : LayoutState H A). l.parts)
    (lay m w values (on_page p)) (λ l h. h.0) (lay_goes laws w values (on_page p) (room, tt))
