-- What contracts see of a table.
use Rattle.std.specs.Prelude.{◌≡◌, List, [], ◌∷◌, Option, None, Some, Vec, drop, map, if◌then◌else◌}
use Rattle.std.specs.declared.alloc.Global.{Global}
use Rattle.table_widths.specs.Slots.{Table, across}
use Rattle.table_widths.specs.declared.left.RowsLeft.{RowsLeft}
use Rattle.table_widths.specs.declared.slot.Slot.{Slot}
use Rattle.table_widths.specs.declared.table.Table.{Table as CodeTable}

abbrev pub rows_seen : List (Vec Slot Global) → List (List Slot)
rows_seen rows = map (λ row. row.items) rows

abbrev pub table_seen : CodeTable → Table
table_seen t = record { columns = t.columns.items; rows = rows_seen t.rows.items }

-- the slots of each row that is still to come
abbrev pub rows_left : RowsLeft → List (List Slot)
rows_left r = if r.is_across then across r.above.items (rows_seen (drop r.next r.rows.items))
    else rows_seen (drop r.next r.rows.items)

-- The next row is the first of those that were to come, if there was one.
abbrev pub IsNext : Option (Vec Slot Global) → (old new : List (List Slot)) → Type 0
IsNext None old new = (old ≡ []) × (new ≡ [])
IsNext (Some slots) old new = old ≡ slots.items ∷ new
