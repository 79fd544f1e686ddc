-- What contracts see of a page that is laid out.
use Rattle.std.specs.Prelude.{◌≡◌, ◌+◌, ◌*◌, ◌-◌, ◌≤◌, ◌++◌, if◌then◌else◌, [], ◌∷◌, All, Bool, List, None, Option}
use Rattle.std.specs.Prelude.{Some, chars, false, length, map, nat_lt, string_bytes, true, ℕ}
use Rattle.std.specs.Option.{option_and_then, option_map}
use Rattle.text_decorators.specs.Marks.{DecoratorView}
use Rattle.block_renderer.specs.Seen.{IsTagging, has_failed, marking, sub_of}
use Rattle.block_trait.specs.Renderers.{Marking}
use Rattle.render_sizes.specs.Asked.{AreMeasured}
use Rattle.column_fits.specs.declared.fit.ColumnFit.{ColumnFit}
use Rattle.render_sizes.specs.declared.extent.Extent.{Extent}
use Rattle.render_values.specs.Arena.{IsFlat, values_of}
use Rattle.render_values.specs.declared.node.RenderNode.{RenderNode}
use Rattle.render_values.specs.declared.info.Head.{Head}
use Rattle.render_values.specs.declared.info.RenderInfo.{RenderInfo}
use Rattle.render_values.specs.declared.info.RenderInfo.TheVariants as infos
use Rattle.layout_values.specs.Sizing.{Sizing, all_fits, in_mode}
use Rattle.text_pieces.specs.declared.white_space.WhiteSpace.{WhiteSpace}
use Rattle.layout_values.specs.Lay.{Content, laid, laid_outside, lay}
use Rattle.layout_values.specs.declared.content.Content.{Content as CodeContent}
use Rattle.layout_state.specs.LayoutState.{LayoutState, Step}
use Rattle.table_fits.specs.Walk.{segment}
use Rattle.layout_values.specs.Continuation.{Continuation, cell_ends, info_at, item_ends, list_ends, look_ends}
use Rattle.layout_values.specs.Continuation.{part_ends, rest, row_ends, table_ends, unwound, value_ends}
use Rattle.layout_state.specs.Seen.{laying_of, made_of, place_of, slots_left, widths_seen}
use Rattle.table_widths.specs.Tables.{rows_left, table_seen}
use Rattle.layout_state.specs.declared.laying.LayoutState.{LayoutState as CodeLaying}
use Rattle.layout_values.specs.declared.waiting.OpenCell.{OpenCell}
use Rattle.layout_values.specs.declared.waiting.OpenItem.{OpenItem}
use Rattle.layout_values.specs.declared.waiting.OpenPart.{OpenPart}
use Rattle.layout_values.specs.declared.waiting.OpenTable.{OpenTable}
use Rattle.layout_values.specs.declared.waiting.Continuation.{Continuation as CodeWaiting}
use Rattle.layout_values.specs.declared.waiting.Continuation.TheVariants.{CellEnds, ItemEnds, ListEnds, LookEnds}
use Rattle.layout_values.specs.declared.waiting.Continuation.TheVariants.{PartEnds, Rest, RowEnds, TableEnds, ValueEnds}

-- ---- what waits

abbrev pub open_part_of : {D T H A : Type 0} → (T → A) → (D → H) → OpenPart D T → Continuation H A
open_part_of seen held part =
    part_ends (sub_of seen held part.outer) (chars (string_bytes part.first)) (chars (string_bytes part.following))

abbrev pub open_item_of : {D T H A : Type 0} → (T → A) → (D → H) → OpenItem D T → Continuation H A
open_item_of seen held item =
    item_ends (sub_of seen held item.outer) (chars (string_bytes item.first)) (chars (string_bytes item.following))
    item.around

abbrev pub open_table_of : {D T H A : Type 0} → (T → A) → (D → H) → OpenTable D T → Continuation H A
open_table_of seen held table = table_ends table.fenced (place_of seen held table.place)

abbrev pub open_cell_of : {D T H A : Type 0} → (T → A) → (D → H) → OpenCell D T → Continuation H A
open_cell_of seen held cell =
    cell_ends (sub_of seen held cell.outer) (widths_seen cell.rows.widths) (rows_left cell.rows.rows)
    (slots_left cell.slots) (made_of seen held cell.made.items) cell.taken

abbrev pub waiting_of : {D T H A : Type 0} → (T → A) → (D → H) → List RenderNode → CodeWaiting D T → Continuation H A
waiting_of seen held nodes (Rest mode from to) = rest mode (values_of (segment nodes from to))
waiting_of seen held nodes (ValueEnds at) = value_ends (info_at nodes at)
waiting_of seen held nodes (LookEnds style) = look_ends style
waiting_of seen held nodes (PartEnds part) = open_part_of seen held part.value
waiting_of seen held nodes (ItemEnds item) = open_item_of seen held item.value
waiting_of seen held nodes ListEnds = list_ends
waiting_of seen held nodes (TableEnds table) = open_table_of seen held table.value
waiting_of seen held nodes RowEnds = row_ends
waiting_of seen held nodes (CellEnds cell) = open_cell_of seen held cell.value

abbrev pub all_waiting : {D T H A : Type 0} → (T → A) → (D → H) → List RenderNode → List (CodeWaiting D T)
    → List (Continuation H A)
all_waiting seen held nodes items = map (waiting_of seen held nodes) items

-- the values of nodes wait, unless there are none
abbrev pub rest_where : {D T : Type 0} → Bool → WhiteSpace → (from to : ℕ) → List (CodeWaiting D T)
rest_where true mode from to = Rest mode from to ∷ []
rest_where false mode from to = []

abbrev pub rest_of : {D T : Type 0} → WhiteSpace → (from to : ℕ) → List (CodeWaiting D T)
rest_of mode from to = rest_where (nat_lt from to) mode from to

abbrev pub maybe : {X : Type 0} → Option X → List X
maybe None = []
maybe (Some x) = x ∷ []

-- what the columns of tables ask for, of the nodes from a place up to another
abbrev pub fits_between : Option (List (List ColumnFit)) → (from to : ℕ) → Option (List (List ColumnFit))
fits_between fits from to = option_map (λ l. segment l from to) fits

-- nodes in a row, with the columns that their values take, or that a layout asks for, and what the columns of their
-- tables ask for
pub record IsSound (nodes : List RenderNode) (sizes : List Extent) (fits : Option (List (List ColumnFit))) (w : Sizing)
    (from to : ℕ) : Type 0 where
  pub within : to ≤ length nodes
  pub flat : IsFlat (segment nodes from to)
  pub sized : AreMeasured w.measure (values_of (segment nodes from to)) (segment sizes from to)
  pub fitted : fits_between fits from to ≡ all_fits w (values_of (segment nodes from to))

-- What waits may be done: no call of a renderer outside was refused, and nodes stand in a row.
abbrev pub IsReady : {D T : Type 0} → List RenderNode → List Extent → Option (List (List ColumnFit)) → Sizing
    → CodeWaiting D T → Type 0
IsReady nodes sizes fits w (Rest mode from to) = IsSound nodes sizes fits (in_mode w mode) from to
IsReady nodes sizes fits w (PartEnds part) = has_failed part.value.outer ≡ false
IsReady nodes sizes fits w (ItemEnds item) = has_failed item.value.outer ≡ false
IsReady nodes sizes fits w (CellEnds cell) = has_failed cell.value.outer ≡ false
IsReady nodes sizes fits w _ = Unit {0}

abbrev pub WorksOutside : {D T : Type 0} → CodeWaiting D T → Type 0
WorksOutside (Rest mode from to) = ⊥
WorksOutside (PartEnds part) = has_failed part.value.outer ≡ false
WorksOutside (ItemEnds item) = has_failed item.value.outer ≡ false
WorksOutside (CellEnds cell) = has_failed cell.value.outer ≡ false
WorksOutside _ = Unit {0}

-- how much there is to do
abbrev pub weight : {D T : Type 0} → CodeWaiting D T → ℕ
weight (Rest mode from to) = 8 * (to - from) + 1
weight _ = 1

abbrev pub load : {D T : Type 0} → List (CodeWaiting D T) → ℕ
load [] = 0
load (x ∷ xs) = weight x + load xs

-- Whatever stands in it, what it is in comes to that alone, and then to what waits.
abbrev pub Opens : {D T H A : Type 0} → (T → A) → DecoratorView D H T
    → (Marking H A → Step H A → Step H A) → List (CodeWaiting D T) → CodeLaying D T → CodeLaying D T → Type 0
Opens seen view f items old new = (tag : _) → IsTagging seen view tag
    → (nodes : List RenderNode) (w : Sizing) (inside : Step _ _)
    → f (marking view tag) inside (laying_of seen view.held old)
    ≡ option_and_then (unwound (marking view tag) w (all_waiting seen view.held nodes items))
    (inside (laying_of seen view.held new))

-- what stands in a value, or nothing of it where that is left out
abbrev pub where_entered : {H A : Type 0} → (entered : Bool) → Step H A → Step H A
where_entered entered inside = if entered then inside else Some

-- the same where what stands in it may be left out
abbrev pub OpensWhere : {D T H A : Type 0} → (T → A) → DecoratorView D H T
    → (Marking H A → Step H A → Step H A) → (entered : Bool) → List (CodeWaiting D T) → CodeLaying D T
    → CodeLaying D T → Type 0
OpensWhere seen view f entered items old new = (tag : _) → IsTagging seen view tag
    → (nodes : List RenderNode) (w : Sizing) (inside : Step _ _)
    → f (marking view tag) inside (laying_of seen view.held old)
    ≡ option_and_then (unwound (marking view tag) w (all_waiting seen view.held nodes items))
    (where_entered entered inside (laying_of seen view.held new))

-- Whatever stands in it, it has no result.
abbrev pub NeverOpens : {D T H A : Type 0} → (T → A) → DecoratorView D H T
    → (Marking H A → Step H A → Step H A) → CodeLaying D T → Type 0
NeverOpens seen view f old = (tag : _) → IsTagging seen view tag
    → (inside : Step _ _) → f (marking view tag) inside (laying_of seen view.held old) ≡ None

-- the same where at most so many wait after others, nodes being those of the tree, and what stands in it may be left
-- out
pub record IsOpened {D T H A : Type 0} (seen : T → A) (view : DecoratorView D H T) (most : ℕ) (nodes : List RenderNode)
    (entered : Bool)
    (f : Marking H A → Step H A → Step H A) (before trailing : List (CodeWaiting D T)) (old new : CodeLaying D T)
    : Type 0 where
  pub items : List (CodeWaiting D T)
  pub pushed : trailing ≡ before ++ items
  pub works : All WorksOutside items
  pub few : length items ≤ most
  pub opens : (tag : _) → IsTagging seen view tag → (w : Sizing) (inside : Step H A)
      → f (marking view tag) inside (laying_of seen view.held old)
      ≡ option_and_then (unwound (marking view tag) w (all_waiting seen view.held nodes items))
      (where_entered entered inside (laying_of seen view.held new))

-- what is to be known of what stands in a value
abbrev pub content_seen : CodeContent → (fits : Option (List ColumnFit)) → Content
content_seen c fits = record { items = c.items; least = c.least; table = table_seen c.table; fits = fits }

-- both are the same as far as a value's layout looks at them
abbrev pub AreAlike : RenderInfo → Content → Content → Type 0
AreAlike (infos.Heading level) c d = c.least ≡ d.least
AreAlike infos.Quote c d = c.least ≡ d.least
AreAlike infos.Details c d = c.least ≡ d.least
AreAlike infos.Bullets c d = (c.items ≡ d.items) × (c.least ≡ d.least)
AreAlike (infos.Numbers first) c d = (c.items ≡ d.items) × (c.least ≡ d.least)
AreAlike infos.Table c d = (c.table ≡ d.table) × (c.fits ≡ d.fits)
AreAlike _ c d = Unit {0}

-- Outside of tables a value is laid out as it is, and nothing was done yet.
abbrev pub StandsOutside : {D T H A : Type 0} → (T → A) → (D → H) → Head → (old new : CodeLaying D T)
    → (before trailing : List (CodeWaiting D T)) → Type 0
StandsOutside {D} {T} {H} {A} seen held head old new before trailing = (trailing ≡ before)
    × ((laying_of seen held new ≡ laying_of seen held old)
    × ((m : Marking H A) (content : Content) (inside : Step H A) → laid m head content inside (laying_of seen held old)
    ≡ laid_outside m head content inside (laying_of seen held old)))

-- ---- the walk

-- what comes of the values of the nodes at a place, where a mode of white space is in force, and of all that waits
abbrev pub left : {D T H A : Type 0} → (T → A) → (D → H) → Marking H A → List RenderNode → Sizing → WhiteSpace
    → (at end : ℕ) → List (CodeWaiting D T) → CodeLaying D T → Option (LayoutState H A)
left seen held m nodes w mode at end items l = option_and_then (unwound m w (all_waiting seen held nodes items))
    (lay m (in_mode w mode) (values_of (segment nodes at end)) (laying_of seen held l))

-- it stays what it is
abbrev pub GoesOn : {D T H A : Type 0} → (T → A) → DecoratorView D H T → List RenderNode → Sizing
    → WhiteSpace → (at end : ℕ) → List (CodeWaiting D T) → CodeLaying D T → (new_mode : WhiteSpace)
    → (new_at new_end : ℕ) → List (CodeWaiting D T) → CodeLaying D T → Type 0
GoesOn seen view nodes w mode at end before old new_mode new_at new_end trailing new =
    (tag : _) → IsTagging seen view tag
    → left seen view.held (marking view tag) nodes w new_mode new_at new_end trailing new
    ≡ left seen view.held (marking view tag) nodes w mode at end before old

abbrev pub NeverGoes : {D T H A : Type 0} → (T → A) → DecoratorView D H T → List RenderNode → Sizing → WhiteSpace
    → (at end : ℕ) → List (CodeWaiting D T) → CodeLaying D T → Type 0
NeverGoes seen view nodes w mode at end before old =
    (tag : _) → IsTagging seen view tag
    → left seen view.held (marking view tag) nodes w mode at end before old ≡ None
