-- Each step makes the same of a page whose renderers keep no annotations: in tables, and so all values do.
use Rattle.std.proofs.Common.{◌≡◌, [], ◌∷◌, ◌++◌, ◌∙◌, Bool, List, None, Option, Some, ap, false, map, refl, sym, true}
use Rattle.std.proofs.Common.{ℕ}
use Rattle.std.specs.Prelude.{codes, filter, if◌then◌else◌}
use Rattle.std.specs.Option.{option_map, option_to_list}
use Rattle.std.proofs.lemmas.List.{map-append}
use Rattle.block_trait.specs.Bare.{bare_of}
use Rattle.block_trait.specs.Calls as calls
use Rattle.block_trait.specs.Calls.{call_of}
use Rattle.block_trait.specs.Renderers.{Marking, Sub}
use Rattle.block_trait.specs.declared.options.RenderOptions.{RenderOptions}
use Rattle.text_block_renderer.specs.Parts.{Parts}
use Rattle.text_decorators.specs.Marks.{header, quote}
use Rattle.table_grid.specs.declared.columns.Column.{Column}
use Rattle.table_widths.specs.Slots.{Table, has_columns, is_shown}
use Rattle.table_widths.specs.declared.slot.Slot.{Slot}
use Rattle.column_fits.specs.declared.fit.ColumnFit.{ColumnFit}
use Rattle.layout_values.specs.Sizing.{Sizing, within}
use Rattle.render_values.specs.Values.{Values, none, value}
use Rattle.render_values.specs.declared.info.Head.{Head}
use Rattle.render_values.specs.declared.info.RenderInfo.{RenderInfo}
use Rattle.render_values.specs.declared.info.RenderInfo.TheVariants as infos
use Rattle.layout_state.specs.Begins.{following, named}
use Rattle.layout_state.specs.Items.{spaces}
use Rattle.layout_state.specs.LayoutState.{LayoutState, Step, TablePlace, cells, goes_to, in_turn, outside, rows, says}
use Rattle.layout_values.specs.Lay.{Content, among_cells, among_rows, content_of, holds, in_its_group, in_its_row}
use Rattle.layout_values.specs.Lay.{in_its_slot, laid, laid_at, laid_parts, lay, on_page, shown, styled}
use Rattle.layout_state.specs.declared.around.ItemMark.TheVariants.{Bullet, Number}
use Rattle.layout_tables.specs.Tables.{border_call, cell_begun, cell_ended, cell_laid, columns_laid, empties_before}
use Rattle.layout_tables.specs.Tables.{empty_slots, end_of_row, fence, from_cell, in_cell, in_slot, is_fenced}
use Rattle.layout_tables.specs.Tables.{renderer_of, row_begun, row_call, row_ended, rows_laid, rows_of, slot_width}
use Rattle.layout_tables.specs.Tables.{start_all, table_begun, table_ended, table_laid, top_border}
use Rattle.layout_laws.specs.BareLaws.{bare_parts}
use Rattle.layout_laws.proofs.BareSteps.{Alike, BareLaws, bare_laying, bare_place, bares, begins_alike, either}
use Rattle.layout_laws.proofs.BareSteps.{ends_alike, following_alike, leading_alike, list_alike, map_alike, mark_alike}
use Rattle.layout_laws.proofs.BareSteps.{named_alike, part_alike, placed_alike, prefix_alike, says_alike, stays}
use Rattle.layout_laws.proofs.BareSteps.{styled_alike, to_alike, turn}

-- ---- a table

fence_alike : {H A : Type 0} {m : Marking H A} (laws : BareLaws m) (asked : Bool) →
    Alike (fence m asked) (fence m asked)
fence_alike {m = m} laws asked =
    let fenced = in_turn (says m (calls.adds_text (codes "```"))) (says m calls.ends_line) in
    either asked fenced fenced Some Some
    (turn _ _ _ _ (says_alike laws (calls.adds_text (codes "```"))) (says_alike laws calls.ends_line)) stays

border_same : {H A : Type 0} (widths : Option (List ℕ)) → border_call {R = Sub H A} widths
    ≡ call_of bare_of (border_call {R = Sub H A} widths)
border_same None = refl
border_same (Some widths) = refl

border_alike : {H A : Type 0} {m : Marking H A} (laws : BareLaws m) (widths : Option (List ℕ))
    → Alike (says m (border_call widths)) (says m (border_call widths))
border_alike {m = m} laws widths = record {
  at = λ l. ap (λ c. says m c (bare_laying l)) (border_same widths) ∙ (says_alike laws (border_call widths)).at l;
}

top_alike : {H A : Type 0} {m : Marking H A} (laws : BareLaws m) (options : RenderOptions) (widths : Option (List ℕ))
    → Alike (top_border m options widths) (top_border m options widths)
top_alike {m = m} laws options widths =
    either options.draw_borders (says m (border_call widths)) (says m (border_call widths)) Some Some
    (border_alike laws widths) stays

table_begins : {H A : Type 0} {m : Marking H A} (laws : BareLaws m) (options : RenderOptions) (fenced : Bool)
    (widths : Option (List ℕ)) (slots : List (List Slot))
    → Alike (table_begun m options fenced widths slots) (table_begun m options fenced widths slots)
table_begins laws options fenced widths slots =
    turn _ _ _ _ (says_alike laws calls.starts_table)
    (turn _ _ _ _ (fence_alike laws fenced)
    (turn _ _ _ _ (top_alike laws options widths) (to_alike (rows widths slots []))))

table_ends : {H A : Type 0} {m : Marking H A} (laws : BareLaws m) (fenced : Bool) (place : TablePlace H A)
    → Alike (table_ended m fenced (bare_place place)) (table_ended m fenced place)
table_ends laws fenced place =
    turn (goes_to (bare_place place)) (goes_to place) _ _ (to_alike place) (fence_alike laws fenced)

fenced_same : {H A : Type 0} (options : RenderOptions) (place : TablePlace H A)
    → is_fenced options (bare_place place) ≡ is_fenced options place
fenced_same options (outside in_cell) = refl
fenced_same options (rows widths slots fragments) = refl
fenced_same options (cells widths more fragments slots made) = refl

rows_alike : {H A : Type 0} {m : Marking H A} (laws : BareLaws m) (t : Table) (widths : Option (List ℕ))
    (f g : Step H A) → Alike f g → Alike (rows_laid m t widths f) (rows_laid m t widths g)
rows_alike {m = m} laws t widths f g same = record {
  at = λ l. let options = l.parts.current.options in
      let fenced = is_fenced options l.table in
      let slots = rows_of widths t in
      ap (λ asked. in_turn (table_begun m options asked widths slots)
      (in_turn f (table_ended m asked (bare_place l.table))) (bare_laying l)) (fenced_same options l.table)
      ∙ (turn _ _ _ _ (table_begins laws options fenced widths slots)
      (turn f g _ _ same (table_ends laws fenced l.table))).at l;
}

columns_alike : {H A : Type 0} {m : Marking H A} (laws : BareLaws m) (t : Table) (fits : Option (List ColumnFit))
    (columns : List Column) (f g : Step H A) → Alike f g
    → Alike (columns_laid m t fits columns f) (columns_laid m t fits columns g)
columns_alike laws t fits [] f g same = stays
columns_alike laws t fits (c ∷ columns) f g same = record { at = λ l. (rows_alike laws t _ f g same).at l }

table_alike : {H A : Type 0} {m : Marking H A} (laws : BareLaws m) (t : Table) (fits : Option (List ColumnFit))
    (f g : Step H A) → Alike f g → Alike (table_laid m t fits f) (table_laid m t fits g)
unfolding table_laid
table_alike laws t fits f g same = columns_alike laws t fits t.columns f g same

-- ---- its rows

empties_same : {H A : Type 0} (m : Marking H A) (widths : Option (List ℕ)) (s : Sub H A) (slots : List Slot)
    → empty_slots m widths (bare_of s) slots ≡ bares (empty_slots m widths s slots)
empties_same m widths s [] = refl
empties_same m widths s (slot ∷ slots) =
    ap (λ cs. bares (empty_slots m widths s (slot ∷ [])) ++ cs) (empties_same m widths s slots)

made_same : {H A : Type 0} (m : Marking H A) (widths : Option (List ℕ)) (s : Sub H A) (slots : List Slot)
    (made : List (Sub H A × ℕ)) → bares made ++ empty_slots m widths (bare_of s) slots
    ≡ bares (made ++ empty_slots m widths s slots)
made_same m widths s slots made =
    ap (λ cs. bares made ++ cs) (empties_same m widths s slots)
    ∙ sym (map-append (λ c. (bare_of c.0, c.1)) made (empty_slots m widths s slots))

renderers_same : {H A : Type 0} (made : List (Sub H A × ℕ))
    → map renderer_of (bares made) ≡ map bare_of (map renderer_of made)
renderers_same [] = refl
renderers_same (c ∷ made) = ap (λ ss. bare_of c.0 ∷ ss) (renderers_same made)

row_same : {H A : Type 0} (widths : Option (List ℕ)) (made : List (Sub H A × ℕ))
    → row_call widths (bares made) ≡ call_of bare_of (row_call widths made)
row_same None made = ap (λ ss. calls.adds_rows_below ss) (renderers_same made)
row_same (Some widths) made = refl

row_says : {H A : Type 0} {m : Marking H A} (laws : BareLaws m) (widths : Option (List ℕ)) (slots : List Slot)
    (made : List (Sub H A × ℕ)) (s : Sub H A)
    → Alike (says m (row_call widths (bares made ++ empty_slots m widths (bare_of s) slots)))
    (says m (row_call widths (made ++ empty_slots m widths s slots)))
row_says {m = m} laws widths slots made s = record {
  at = λ l. let all = made ++ empty_slots m widths s slots in
      ap (λ cs. says m (row_call widths cs) (bare_laying l)) (made_same m widths s slots made)
      ∙ ap (λ c. says m c (bare_laying l)) (row_same widths all) ∙ (says_alike laws (row_call widths all)).at l;
}

end_alike : {H A : Type 0} {m : Marking H A} (laws : BareLaws m) (place : TablePlace H A)
    → Alike (end_of_row m (bare_place place)) (end_of_row m place)
end_alike laws (outside in_cell) = record { at = λ l. refl }
end_alike laws (rows widths slots fragments) = record { at = λ l. refl }
end_alike laws (cells widths more fragments slots made) = record {
  at = λ l. (turn _ _ _ _ (to_alike (rows widths more []))
      (row_says laws widths (filter has_columns slots) made l.parts.current)).at l;
}

row_ends : {H A : Type 0} {m : Marking H A} (laws : BareLaws m) → Alike (row_ended m) (row_ended m)
unfolding row_ended
row_ends laws = record { at = λ l. (end_alike laws l.table).at l }

-- ---- its cells

starts_alike : {H A : Type 0} {m : Marking H A} (laws : BareLaws m) (names : List (List ℕ))
    → Alike (start_all m names) (start_all m names)
starts_alike laws [] = stays
starts_alike laws (name ∷ names) =
    turn _ _ _ _ (says_alike laws (calls.starts_fragment name)) (starts_alike laws names)

cell_begins : {H A : Type 0} {m : Marking H A} (laws : BareLaws m) (width : ℕ) (fragments : List (List ℕ))
    → Alike (cell_begun m width fragments) (cell_begun m width fragments)
unfolding cell_begun in_cell
cell_begins {m = m} laws width fragments = record {
  at = λ l. ap (λ x. start_all m fragments (record x { table = outside true })) (part_alike m width l)
      ∙ (starts_alike laws fragments).at (in_cell m width l);
}

cell_ends : {H A : Type 0} (outer : Sub H A) (widths : Option (List ℕ)) (more : List (List Slot)) (slots : List Slot)
    (made : List (Sub H A × ℕ)) (taken : ℕ)
    → Alike (cell_ended (bare_of outer) widths more slots (bares made) taken)
    (cell_ended outer widths more slots made taken)
unfolding cell_ended
cell_ends outer widths more slots made taken = record {
  at = λ l. ap (λ cs. Some (record (bare_laying l) {
    parts = record (bare_parts l.parts) { current = bare_of outer };
    table = cells widths more [] slots cs;
  }))
      (sym (map-append (λ c. (bare_of c.0, c.1)) made ((l.parts.current, taken) ∷ [])));
}

chosen : {H A : Type 0} (t : Bool) (x y p q : Option (LayoutState H A)) → x ≡ option_map bare_laying y
    → p ≡ option_map bare_laying q → (if t then x else p) ≡ option_map bare_laying (if t then y else q)
chosen true x y p q one other = one
chosen false x y p q one other = other

slot_alike : {H A : Type 0} {m : Marking H A} (laws : BareLaws m) (widths : Option (List ℕ)) (more : List (List Slot))
    (fragments : List (List ℕ)) (slots : List Slot) (made : List (Sub H A × ℕ)) (f g : Step H A) → Alike f g
    → Alike (in_slot m widths more fragments slots (bares made) f) (in_slot m widths more fragments slots made g)
slot_alike laws widths more fragments [] made f g same = record { at = λ l. refl }
slot_alike {m = m} laws widths more fragments (s ∷ slots) made f g same = record {
  at = λ l. let outer = l.parts.current in
      chosen (has_columns s) _ _ _ _
      ((turn _ _ _ _ (cell_begins laws (slot_width widths outer.width s) fragments)
      (turn f g _ _ same (cell_ends outer widths more slots made s.rows))).at l)
      ((to_alike (cells widths more [] slots made)).at l);
}

cell_alike : {H A : Type 0} {m : Marking H A} (laws : BareLaws m) (widths : Option (List ℕ)) (more : List (List Slot))
    (fragments : List (List ℕ)) (slots : List Slot) (made : List (Sub H A × ℕ)) (f g : Step H A) → Alike f g
    → Alike (cell_laid m widths more fragments slots (bares made) f) (cell_laid m widths more fragments slots made g)
unfolding cell_laid
cell_alike {m = m} laws widths more fragments slots made f g same = record {
  at = λ l. let empties = empties_before slots in
      ap (λ cs. in_slot m widths more fragments (from_cell slots) cs f (bare_laying l))
      (made_same m widths l.parts.current empties made)
      ∙ (slot_alike laws widths more fragments (from_cell slots)
      (made ++ empty_slots m widths l.parts.current empties) f g same).at l;
}

-- ---- a value

holds_alike : {H A : Type 0} {m : Marking H A} (laws : BareLaws m) (info : RenderInfo) (c : Content) (f g : Step H A)
    → Alike f g → Alike (holds m info c f) (holds m info c g)
unfolding holds
holds_alike laws (infos.Heading level) c f g same = mark_alike laws (header level) c.least f g same
holds_alike laws infos.Quote c f g same = mark_alike laws quote c.least f g same
holds_alike laws infos.Details c f g same = prefix_alike laws 2 (spaces 2) (spaces 2) c.least f g same
holds_alike {m = m} laws infos.Bullets c f g same = list_alike m Bullet c.items c.least f g same
holds_alike {m = m} laws (infos.Numbers first) c f g same = list_alike m (Number first) c.items c.least f g same
holds_alike laws infos.Table c f g same = table_alike laws c.table c.fits f g same
holds_alike laws infos.Nothing c f g same = same
holds_alike laws (infos.Text cs) c f g same = same
holds_alike laws (infos.Image source title) c f g same = same
holds_alike laws infos.Break c f g same = same
holds_alike laws infos.Rule c f g same = same
holds_alike laws infos.Container c f g same = same
holds_alike laws (infos.Link target) c f g same = same
holds_alike laws infos.Emphasis c f g same = same
holds_alike laws infos.Strong c f g same = same
holds_alike laws infos.Strikeout c f g same = same
holds_alike laws infos.Code c f g same = same
holds_alike laws infos.Superscript c f g same = same
holds_alike laws infos.Block c f g same = same
holds_alike laws infos.Division c f g same = same
holds_alike laws infos.Preformatted c f g same = same
holds_alike laws infos.Descriptions c f g same = same
holds_alike laws infos.Term c f g same = same
holds_alike laws infos.TableGroup c f g same = same
holds_alike laws infos.TableRow c f g same = same
holds_alike laws (infos.TableCell columns taken) c f g same = same

shown_alike : {H A : Type 0} {m : Marking H A} (laws : BareLaws m) (head : Head) (c : Content) (f g : Step H A)
    → Alike f g → Alike (shown m head c f) (shown m head c g)
shown_alike {m = m} laws head c f g same =
    turn _ _ _ _ (leading_alike laws head)
    (turn _ _ _ _ (begins_alike laws head.info)
    (turn _ _ _ _ (holds_alike laws head.info c (in_turn (following m head) f) (in_turn (following m head) g)
    (turn _ _ f g (following_alike laws head) same)) (ends_alike laws head.info)))

in_slot_alike : {H A : Type 0} {m : Marking H A} (laws : BareLaws m) (head : Head) (place : TablePlace H A)
    (f g : Step H A) → Alike f g → Alike (in_its_slot m head (bare_place place) f) (in_its_slot m head place g)
in_slot_alike laws head (outside in_cell) f g same = stays
in_slot_alike laws head (rows widths slots fragments) f g same = stays
in_slot_alike {m = m} laws head (cells widths more fragments slots made) f g same =
    cell_alike laws widths more fragments slots made (styled m head.style (in_turn (named m head.fragment) f))
    (styled m head.style (in_turn (named m head.fragment) g))
    (styled_alike laws head.style (in_turn (named m head.fragment) f) (in_turn (named m head.fragment) g)
    (turn _ _ f g (named_alike laws head.fragment) same))

in_row_alike : {H A : Type 0} {m : Marking H A} (laws : BareLaws m) (head : Head) (widths : Option (List ℕ))
    (slots : List (List Slot)) (fragments : List (List ℕ)) (f g : Step H A) → Alike f g
    → Alike (in_its_row m head widths slots fragments f) (in_its_row m head widths slots fragments g)
in_row_alike laws head widths [] fragments f g same = stays
in_row_alike {m = m} laws head widths (slots ∷ more) fragments f g same =
    let begun = row_begun widths more fragments slots head.fragment in
    either (is_shown slots) (in_turn begun (styled m head.style (in_turn f (row_ended m))))
    (in_turn begun (styled m head.style (in_turn g (row_ended m))))
    (goes_to (rows widths more (fragments ++ option_to_list head.fragment)))
    (goes_to (rows widths more (fragments ++ option_to_list head.fragment)))
    (turn begun begun _ _ (to_alike (cells widths more (fragments ++ option_to_list head.fragment) slots []))
    (styled_alike laws head.style (in_turn f (row_ended m)) (in_turn g (row_ended m))
    (turn f g (row_ended m) (row_ended m) same (row_ends laws))))
    (to_alike (rows widths more (fragments ++ option_to_list head.fragment)))

in_group_alike : {H A : Type 0} {m : Marking H A} (laws : BareLaws m) (head : Head) (widths : Option (List ℕ))
    (slots : List (List Slot)) (fragments : List (List ℕ)) (f g : Step H A) → Alike f g
    → Alike (in_its_group m head widths slots fragments f) (in_its_group m head widths slots fragments g)
in_group_alike {m = m} laws head widths slots fragments f g same =
    let begun = goes_to (rows widths slots (fragments ++ option_to_list head.fragment)) in
    turn begun begun _ _ (to_alike (rows widths slots (fragments ++ option_to_list head.fragment)))
    (styled_alike laws head.style f g same)

among_alike : {H A : Type 0} {m : Marking H A} (laws : BareLaws m) (info : RenderInfo) (head : Head)
    (widths : Option (List ℕ)) (slots : List (List Slot)) (fragments : List (List ℕ)) (f g : Step H A) → Alike f g
    → Alike (among_rows m info head widths slots fragments f) (among_rows m info head widths slots fragments g)
among_alike laws infos.TableGroup head widths slots fragments f g same =
    in_group_alike laws head widths slots fragments f g same
among_alike laws infos.TableRow head widths slots fragments f g same =
    in_row_alike laws head widths slots fragments f g same
among_alike laws infos.Nothing head widths slots fragments f g same = stays
among_alike laws (infos.Text cs) head widths slots fragments f g same = stays
among_alike laws (infos.Image source title) head widths slots fragments f g same = stays
among_alike laws infos.Break head widths slots fragments f g same = stays
among_alike laws infos.Rule head widths slots fragments f g same = stays
among_alike laws infos.Container head widths slots fragments f g same = stays
among_alike laws (infos.Link target) head widths slots fragments f g same = stays
among_alike laws infos.Emphasis head widths slots fragments f g same = stays
among_alike laws infos.Strong head widths slots fragments f g same = stays
among_alike laws infos.Strikeout head widths slots fragments f g same = stays
among_alike laws infos.Code head widths slots fragments f g same = stays
among_alike laws infos.Superscript head widths slots fragments f g same = stays
among_alike laws infos.Block head widths slots fragments f g same = stays
among_alike laws infos.Division head widths slots fragments f g same = stays
among_alike laws (infos.Heading level) head widths slots fragments f g same = stays
among_alike laws infos.Quote head widths slots fragments f g same = stays
among_alike laws infos.Preformatted head widths slots fragments f g same = stays
among_alike laws infos.Bullets head widths slots fragments f g same = stays
among_alike laws (infos.Numbers first) head widths slots fragments f g same = stays
among_alike laws infos.Descriptions head widths slots fragments f g same = stays
among_alike laws infos.Details head widths slots fragments f g same = stays
among_alike laws infos.Term head widths slots fragments f g same = stays
among_alike laws infos.Table head widths slots fragments f g same = stays
among_alike laws (infos.TableCell columns taken) head widths slots fragments f g same = stays

among_cells_alike : {H A : Type 0} {m : Marking H A} (laws : BareLaws m) (info : RenderInfo) (head : Head)
    (place : TablePlace H A) (f g : Step H A) → Alike f g
    → Alike (among_cells m info head (bare_place place) f) (among_cells m info head place g)
among_cells_alike laws (infos.TableCell columns taken) head place f g same = in_slot_alike laws head place f g same
among_cells_alike laws infos.Nothing head place f g same = stays
among_cells_alike laws (infos.Text cs) head place f g same = stays
among_cells_alike laws (infos.Image source title) head place f g same = stays
among_cells_alike laws infos.Break head place f g same = stays
among_cells_alike laws infos.Rule head place f g same = stays
among_cells_alike laws infos.Container head place f g same = stays
among_cells_alike laws (infos.Link target) head place f g same = stays
among_cells_alike laws infos.Emphasis head place f g same = stays
among_cells_alike laws infos.Strong head place f g same = stays
among_cells_alike laws infos.Strikeout head place f g same = stays
among_cells_alike laws infos.Code head place f g same = stays
among_cells_alike laws infos.Superscript head place f g same = stays
among_cells_alike laws infos.Block head place f g same = stays
among_cells_alike laws infos.Division head place f g same = stays
among_cells_alike laws (infos.Heading level) head place f g same = stays
among_cells_alike laws infos.Quote head place f g same = stays
among_cells_alike laws infos.Preformatted head place f g same = stays
among_cells_alike laws infos.Bullets head place f g same = stays
among_cells_alike laws (infos.Numbers first) head place f g same = stays
among_cells_alike laws infos.Descriptions head place f g same = stays
among_cells_alike laws infos.Details head place f g same = stays
among_cells_alike laws infos.Term head place f g same = stays
among_cells_alike laws infos.Table head place f g same = stays
among_cells_alike laws infos.TableGroup head place f g same = stays
among_cells_alike laws infos.TableRow head place f g same = stays

laid_alike : {H A : Type 0} {m : Marking H A} (laws : BareLaws m) (head : Head) (c : Content) (place : TablePlace H A)
    (f g : Step H A) → Alike f g → Alike (laid_at m head c (bare_place place) f) (laid_at m head c place g)
laid_alike {m = m} laws head c (outside in_cell) f g same = record {
  at = λ l. (placed_alike laws l.around _ _
      (styled_alike laws head.style _ _ (shown_alike laws head c f g same))).at l;
}
laid_alike laws head c (rows widths slots fragments) f g same =
    among_alike laws head.info head widths slots fragments f g same
laid_alike laws head c (cells widths more fragments slots made) f g same =
    among_cells_alike laws head.info head (cells widths more fragments slots made) f g same

-- ---- values

lay_alike : {H A : Type 0} {m : Marking H A} (laws : BareLaws m) (w : Sizing) (values : Values)
    → Alike (lay m w values) (lay m w values)
lay_alike laws w none = stays
lay_alike {m = m} laws w (value head inside rest) =
    let here = laid m head (content_of w head inside) (lay m (within w head) inside) in
    turn here here (lay m w rest) (lay m w rest)
    (record {
      at = λ l. (laid_alike laws head (content_of w head inside) l.table _ _
          (lay_alike laws (within w head) inside)).at l;
    })
    (lay_alike laws w rest)

pub parts_alike : {H A : Type 0} {m : Marking H A} (laws : BareLaws m) (w : Sizing) (values : Values) (p : Parts H A)
    → laid_parts m w values (bare_parts p) ≡ option_map bare_parts (laid_parts m w values p)
parts_alike {m = m} laws w values p =
    ap (option_map (λ l. l.parts)) ((lay_alike laws w values).at (on_page p))
    ∙ map_alike (λ l. l.parts) (λ l. l.parts) bare_laying bare_parts (λ l. refl) (lay m w values (on_page p))
