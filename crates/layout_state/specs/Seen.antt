-- What contracts see of a page that is laid out.
use Rattle.std.specs.Prelude.{◌≡◌, ℕ, false, List, [], Option, None, Some, Vec, drop, map}
use Rattle.std.specs.Global.{Global}
use Rattle.std.specs.Option.{option_map}
use Rattle.text_decorators.specs.Marks.{DecoratorView}
use Rattle.block_renderer.specs.Seen.{IsTagging, marking, sub_of}
use Rattle.block_renderer.specs.declared.sub_renderer.SubRenderer.{SubRenderer}
use Rattle.block_trait.specs.Renderers.{Marking, Sub}
use Rattle.table_widths.specs.Tables.{rows_left}
use Rattle.table_widths.specs.declared.slot.Slot.{Slot}
use Rattle.text_block_renderer.specs.SeenParts.{current_has_failed, page_has_failed, parts_of}
use Rattle.layout_state.specs.LayoutState.{LayoutState, Step, TablePlace, cells, outside, rows}
use Rattle.layout_state.specs.declared.laying.LayoutState.{LayoutState as CodeLaying}
use Rattle.layout_state.specs.declared.place.SlotsLeft.{SlotsLeft}
use Rattle.layout_state.specs.declared.place.TablePlace.{TablePlace as CodePlace}
use Rattle.layout_state.specs.declared.place.TablePlace.TheVariants.{Outside, Rows, Cells}

abbrev pub widths_seen : Option (Vec ℕ Global) → Option (List ℕ)
widths_seen widths = option_map (λ w. w.items) widths

-- renderers that stand in a row, each with the rows that it takes
abbrev pub made_of : {D T H A : Type 0} → (T → A) → (D → H) → List (SubRenderer D T × ℕ) → List (Sub H A × ℕ)
made_of seen held made = map (λ c. (sub_of seen held c.0, c.1)) made

abbrev pub slots_left : SlotsLeft → List Slot
slots_left s = drop s.next s.slots.items

abbrev pub place_of : {D T H A : Type 0} → (T → A) → (D → H) → CodePlace D T → TablePlace H A
place_of seen held (Outside in_cell) = outside in_cell
place_of seen held (Rows r) =
    rows (widths_seen r.widths) (rows_left r.rows) r.fragments.items
place_of seen held (Cells r slots made) = cells (widths_seen r.widths) (rows_left r.rows)
    r.fragments.items (slots_left slots) (made_of seen held made.items)

abbrev pub laying_of : {D T H A : Type 0} → (T → A) → (D → H) → CodeLaying D T → LayoutState H A
laying_of seen held l =
    record { parts = parts_of seen held l.text; around = l.around; table = place_of seen held l.table }

-- No call was refused, and no part stands on the page by itself.
abbrev pub IsWorking : {D T H A : Type 0} → (T → A) → (D → H) → CodeLaying D T → Type 0
IsWorking seen held l = (page_has_failed l.text ≡ false)
    × ((current_has_failed l.text ≡ false) × ((parts_of seen held l.text).below ≡ []))

-- However the decorator's annotations are seen, a step leads from one to the other.
abbrev pub Comes : {D T H A : Type 0} → (T → A) → DecoratorView D H T
    → (Marking H A → Step H A) → CodeLaying D T → CodeLaying D T → Type 0
Comes seen view does old new = (tag : _) → IsTagging seen view tag
    → does (marking view tag) (laying_of seen view.held old) ≡ Some (laying_of seen view.held new)

-- However they are seen, it has no result.
abbrev pub Fails : {D T H A : Type 0} → (T → A) → DecoratorView D H T
    → (Marking H A → Step H A) → CodeLaying D T → Type 0
Fails seen view does old = (tag : _) → IsTagging seen view tag
    → does (marking view tag) (laying_of seen view.held old) ≡ None
