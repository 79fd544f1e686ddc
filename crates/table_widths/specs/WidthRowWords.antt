-- Words of the worked rows.
use Rattle.std.specs.Prelude.{ℕ, List, length, map, take}
use Rattle.std.specs.List.{range_with_len}
use Rattle.table_widths.specs.declared.column.ColumnShare.{ColumnShare}
use Rattle.table_widths.specs.Widths.{column_at, width_at}

-- the columns lowered to a level
abbrev pub lowered_to : ℕ → ℕ → List ColumnShare → List ℕ
lowered_to level less columns =
    map (λ i. width_at level less columns (take i columns) (column_at columns i)) (range_with_len 0 (length columns))
