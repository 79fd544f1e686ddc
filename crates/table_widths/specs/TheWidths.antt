-- The widths of a table's columns, as a function: a law says that they are those of the relation.
use Rattle.std.specs.Prelude.{ℕ, ◌+◌, ◌-◌, nat_le, if◌then◌else◌, List, length, map, take, sum_by}
use Rattle.std.specs.List.{position_or_len, range_with_len}
use Rattle.table_widths.specs.declared.column.ColumnShare.{ColumnShare}
use Rattle.table_widths.specs.Widths.{column_at, filled, room_of, separators, share_of, width_at}

-- the least level at which the columns take up the room
unfoldable pub level_of : List ColumnShare → (room : ℕ) → ℕ
level_of columns room = position_or_len (λ level. nat_le room (filled level columns)) (range_with_len 0 room)

abbrev pub width_of_column : List ColumnShare → (level less : ℕ) → ℕ → ℕ
width_of_column columns level less i = width_at level less columns (take i columns) (column_at columns i)

-- the widths of columns lowered to a level, of which so many have one less
abbrev pub lowered : List ColumnShare → (level less : ℕ) → List ℕ
lowered columns level less = map (width_of_column columns level less) (range_with_len 0 (length columns))

abbrev pub cut_widths : List ColumnShare → (room : ℕ) → List ℕ
cut_widths columns room =
    lowered columns (level_of columns room) (filled (level_of columns room) columns - room)

-- the shares where they fit, else these lowered
unfoldable pub widths_of : List ColumnShare → (width : ℕ) → List ℕ
widths_of columns width =
    if nat_le (sum_by share_of columns + separators columns) width then map share_of columns
    else cut_widths columns (room_of columns width)
