-- How the values of a render tree are laid out.
use Rattle.std.specs.Prelude.{ℕ, false, List, [], ◌∷◌, ◌++◌, Option, Some, if◌then◌else◌}
use Rattle.std.specs.Option.{option_map, option_to_list}
use Rattle.block_trait.specs.Renderers.{Marking}
use Rattle.text_lines.specs.Columns.{text_columns}
use Rattle.text_block_renderer.specs.Parts.{Parts}
use Rattle.text_decorators.specs.Marks.{Mark, header, quote}
use Rattle.layout_state.specs.Begins.{begins, ends, following, leading, named, style_begins, style_ends}
use Rattle.layout_state.specs.Items.{item_columns, item_mark, last_mark, next_mark, padded, spaces}
use Rattle.layout_state.specs.LayoutState.{LayoutState, Step, TablePlace, after_prefix, cells, goes_on, goes_to}
use Rattle.layout_state.specs.LayoutState.{in_turn, mark_of, outside, rows}
use Rattle.layout_state.specs.declared.around.Around.{Around}
use Rattle.layout_state.specs.declared.around.Around.TheVariants.{Flow, Items}
use Rattle.layout_state.specs.declared.around.ItemMark.{ItemMark}
use Rattle.layout_state.specs.declared.around.ItemMark.TheVariants.{Bullet, Number}
use Rattle.column_fits.specs.declared.fit.ColumnFit.{ColumnFit}
use Rattle.render_sizes.specs.Extents.{Measure, extent_of, number, table_in}
use Rattle.render_values.specs.Values.{Values, none, value}
use Rattle.render_values.specs.declared.info.Head.{Head}
use Rattle.render_values.specs.declared.info.RenderInfo.{RenderInfo}
use Rattle.render_values.specs.declared.info.RenderInfo.TheVariants as infos
use Rattle.render_values.specs.declared.style.RenderStyle.{RenderStyle}
use Rattle.layout_values.specs.Sizing.{Sizing, fits_in, within}
use Rattle.layout_tables.specs.Tables.{cell_laid, row_begun, row_ended, table_laid}
use Rattle.table_widths.specs.Slots.{Table, is_shown, no_table}
use Rattle.table_widths.specs.declared.slot.Slot.{Slot}

-- ---- lists

-- Each value in it is an item, with that mark first.
abbrev pub listed : {H A : Type 0} → Marking H A → ItemMark → (items least : ℕ) → Step H A → Step H A
listed m first items least inside l = in_turn
    (goes_on (Items first (item_columns m first (last_mark first items) l) least)) (in_turn inside (goes_on Flow)) l

-- An item stands after its mark, which is filled up with spaces, and its further lines after spaces.
abbrev pub item_laid : {H A : Type 0} → Marking H A → ItemMark → (columns least : ℕ) → Step H A → Step H A
item_laid m mark columns least inside l = in_turn
    (after_prefix m columns (padded columns (mark_of m (item_mark mark) l)) (spaces columns) least inside)
    (goes_on (Items (next_mark mark) columns least)) l

-- a value where it stands: in a list it is an item
abbrev pub placed : {H A : Type 0} → Marking H A → Around → Step H A → Step H A
placed m Flow inside = inside
placed m (Items mark columns least) inside = item_laid m mark columns least inside

-- ---- values

-- what is to be known of what stands in a value: how many values it is, how many columns the value asks for, the table
-- that they are where it is one, and what each of its columns asks for, where columns are fitted
pub record Content : Type 0 where
  pub items : ℕ
  pub least : ℕ
  pub table : Table
  pub fits : Option (List ColumnFit)

abbrev pub table_of : Measure → RenderInfo → (inside : Values) → Table
table_of w infos.Table inside = table_in w inside
table_of w _ inside = no_table

-- what stands in a value: in some it is laid out in a part, after a prefix, and in lists as items
abbrev pub after_mark : {H A : Type 0} → Marking H A → Mark → (least : ℕ) → Step H A → Step H A
after_mark m kind least inside l =
    after_prefix m (text_columns (mark_of m kind l)) (mark_of m kind l) (mark_of m kind l) least inside l

unfoldable pub holds : {H A : Type 0} → Marking H A → RenderInfo → Content → Step H A → Step H A
holds m (infos.Heading level) c inside = after_mark m (header level) c.least inside
holds m infos.Quote c inside = after_mark m quote c.least inside
holds m infos.Details c inside = after_prefix m 2 (spaces 2) (spaces 2) c.least inside
holds m infos.Bullets c inside = listed m Bullet c.items c.least inside
holds m (infos.Numbers first) c inside = listed m (Number first) c.items c.least inside
holds m infos.Table c inside = table_laid m c.table c.fits inside
holds m _ c inside = inside

abbrev pub shown : {H A : Type 0} → Marking H A → Head → Content → Step H A → Step H A
shown m head c inside = in_turn (leading m head) (in_turn (begins m head.info)
    (in_turn (holds m head.info c (in_turn (following m head) inside)) (ends m head.info)))

-- ---- styles

abbrev pub styled : {H A : Type 0} → Marking H A → RenderStyle → Step H A → Step H A
styled m style inside = in_turn (style_begins m style) (in_turn inside (style_ends m style))

-- outside of tables
abbrev pub laid_outside : {H A : Type 0} → Marking H A → Head → Content → Step H A → Step H A
laid_outside m head c inside l = placed m l.around (styled m head.style (shown m head c inside)) l

-- ---- parts of tables

-- A cell is laid out in the next slot of its row, in a renderer of its own.
abbrev pub in_its_slot : {H A : Type 0} → Marking H A → Head → TablePlace H A → Step H A → Step H A
in_its_slot m head (cells widths more fragments slots made) inside = cell_laid m widths more fragments slots made
    (styled m head.style (in_turn (named m head.fragment) inside))
in_its_slot m head _ inside = Some

-- A row is laid out where it is shown. Fragments that start in another go on to the next row.
abbrev pub in_its_row : {H A : Type 0} → Marking H A → Head → (widths : Option (List ℕ)) → List (List Slot)
    → (fragments : List (List ℕ)) → Step H A → Step H A
in_its_row m head widths [] fragments inside = Some
in_its_row m head widths (slots ∷ more) fragments inside =
    if is_shown slots then in_turn (row_begun widths more fragments slots head.fragment)
    (styled m head.style (in_turn inside (row_ended m)))
    else goes_to (rows widths more (fragments ++ option_to_list head.fragment))

-- The fragment of a group of rows starts in its first row that is shown.
abbrev pub in_its_group : {H A : Type 0} → Marking H A → Head → (widths : Option (List ℕ)) → List (List Slot)
    → (fragments : List (List ℕ)) → Step H A → Step H A
in_its_group m head widths slots fragments inside = in_turn
    (goes_to (rows widths slots (fragments ++ option_to_list head.fragment))) (styled m head.style inside)

-- Among rows stand groups and rows, among cells cells; nothing else is laid out there.
abbrev pub among_rows : {H A : Type 0} → Marking H A → RenderInfo → Head → (widths : Option (List ℕ))
    → List (List Slot) → (fragments : List (List ℕ)) → Step H A → Step H A
among_rows m infos.TableGroup head widths slots fragments inside = in_its_group m head widths slots fragments inside
among_rows m infos.TableRow head widths slots fragments inside = in_its_row m head widths slots fragments inside
among_rows m _ head widths slots fragments inside = Some

abbrev pub among_cells : {H A : Type 0} → Marking H A → RenderInfo → Head → TablePlace H A → Step H A → Step H A
among_cells m (infos.TableCell columns taken) head place inside = in_its_slot m head place inside
among_cells m _ head place inside = Some

abbrev pub laid_at : {H A : Type 0} → Marking H A → Head → Content → TablePlace H A → Step H A → Step H A
laid_at m head c (outside in_cell) inside = laid_outside m head c inside
laid_at m head c (rows widths slots fragments) inside = among_rows m head.info head widths slots fragments inside
laid_at m head c (cells widths more fragments slots made) inside =
    among_cells m head.info head (cells widths more fragments slots made) inside

-- ---- all values

-- a value with what stands in it
abbrev pub laid : {H A : Type 0} → Marking H A → Head → Content → Step H A → Step H A
laid m head c inside l = laid_at m head c l.table inside l

-- what is to be known of what stands in a value; `w` says how many columns values ask for
abbrev pub content_of : (w : Sizing) → Head → (inside : Values) → Content
content_of w head inside = record {
  items = number inside;
  least = (extent_of w.measure head inside).least;
  table = table_of w.measure head.info inside;
  fits = fits_in w head inside;
}

-- Values one after another, each with what stands in it.
abbrev pub lay : {H A : Type 0} → Marking H A → (w : Sizing) → Values → Step H A
lay m w none l = Some l
lay m w (value head inside rest) l =
    in_turn (laid m head (content_of w head inside) (lay m (within w head) inside)) (lay m w rest) l

-- in renderers of a page, outside of all lists and tables
abbrev pub on_page : {H A : Type 0} → Parts H A → LayoutState H A
on_page p = record { parts = p; around = Flow; table = outside false }

abbrev pub laid_parts : {H A : Type 0} → Marking H A → (w : Sizing) → Values → Parts H A → Option (Parts H A)
laid_parts m w values p = option_map (λ l. l.parts) (lay m w values (on_page p))
