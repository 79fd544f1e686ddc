-- The widths of a table's columns: what the shares give, or the shares lowered to a level.
use Rattle.std.specs.Prelude.{◌≡◌, ◌+◌, ◌-◌, ◌<◌, ◌≤◌, ◌&&◌, if◌then◌else◌, [], ◌∷◌, Bool, List, count_by, get_or}
use Rattle.std.specs.Prelude.{length, map, min, nat_eq, nat_le, nat_lt, sum_by, take, ℕ}
use Rattle.table_widths.specs.declared.column.ColumnShare.{ColumnShare}

-- how far a column can be lowered
abbrev pub slack_of : ColumnShare → ℕ
slack_of c = c.share - c.least

-- what a column takes over its least at a level
abbrev pub part_at : ℕ → ColumnShare → ℕ
part_at level c = min (slack_of c) level

-- what the columns take over their leasts at a level
unfoldable pub filled : ℕ → List ColumnShare → ℕ
filled level columns = sum_by (part_at level) columns

-- the least level at which the columns take up the room
pub record IsLevel (columns : List ColumnShare) (room level : ℕ) : Type 0 where
  pub reaches : room ≤ filled level columns
  pub least : (lower : ℕ) → room ≤ filled lower columns → level ≤ lower

-- the column stands at the level, and is wider there than one with this least
abbrev pub is_wider : ℕ → ℕ → ColumnShare → Bool
is_wider level least c = nat_le level (slack_of c) && nat_lt least c.least

-- the column stands at the level, and is as wide there as one with this least
abbrev pub is_equal : ℕ → ℕ → ColumnShare → Bool
is_equal level least c = nat_le level (slack_of c) && nat_eq least c.least

unfoldable pub wider : ℕ → ℕ → List ColumnShare → ℕ
wider level least columns = count_by (is_wider level least) columns

unfoldable pub equal : ℕ → ℕ → List ColumnShare → ℕ
equal level least columns = count_by (is_equal level least) columns

-- how many of the columns at the level come before this one: the wider ones, and of the equally wide those before its
-- place
abbrev pub rank : ℕ → List ColumnShare → List ColumnShare → ColumnShare → ℕ
rank level all before c = wider level c.least all + equal level c.least before

-- a column's width: of those at the level the first `less` have one less
unfoldable pub width_at : ℕ → ℕ → List ColumnShare → List ColumnShare → ColumnShare → ℕ
width_at level less all before c =
    c.least + part_at level c - (if nat_le level (slack_of c) && nat_lt (rank level all before c) less then 1 else 0)

abbrev pub column_at : List ColumnShare → ℕ → ColumnShare
column_at columns i = get_or columns i (record { least = 0; share = 0 })

-- the widths of columns lowered to a level
pub record IsLowered (columns : List ColumnShare) (level less : ℕ) (widths : List ℕ) : Type 0 where
  pub same : length widths ≡ length columns
  pub each : (i : ℕ) → i < length columns → get_or widths i 0
      ≡ width_at level less columns (take i columns) (column_at columns i)

abbrev pub least_of : ColumnShare → ℕ
least_of c = c.least

abbrev pub share_of : ColumnShare → ℕ
share_of c = c.share

-- one separator between neighbours
abbrev pub separators : List ColumnShare → ℕ
separators columns = length columns - 1

-- what the width leaves to the slacks
abbrev pub room_of : List ColumnShare → ℕ → ℕ
room_of columns width = width - separators columns - sum_by least_of columns

-- the widths of columns whose shares do not fit
pub record IsCut (columns : List ColumnShare) (room : ℕ) (widths : List ℕ) : Type 0 where
  pub level : ℕ
  pub is_level : IsLevel columns room level
  pub is_lowered : IsLowered columns level (filled level columns - room) widths

pub record IsColumnWidths (columns : List ColumnShare) (width : ℕ) (widths : List ℕ) : Type 0 where
  pub fit : sum_by share_of columns + separators columns ≤ width → widths ≡ map share_of columns
  pub cut : width < sum_by share_of columns + separators columns → IsCut columns (room_of columns width) widths

-- a least and a share at each place
unfoldable pub columns_of : List ℕ → List ℕ → List ColumnShare
columns_of [] shares = []
columns_of (l ∷ leasts) [] = []
columns_of (l ∷ leasts) (s ∷ shares) = record { least = l; share = s } ∷ columns_of leasts shares
