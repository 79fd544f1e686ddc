-- Columns that are lowered by one column of text at a time.
use Rattle.std.specs.Prelude.{◌≡◌, ℕ, ◌+◌, ◌-◌, ◌<◌, ◌≤◌, List, length, get_or, map, set, sum_by}
use Rattle.table_widths.specs.declared.column.ColumnShare.{ColumnShare}
use Rattle.table_widths.specs.Widths.{column_at, separators, share_of}

-- what a column's width exceeds its least by
abbrev pub excess_at : List ColumnShare → List ℕ → ℕ → ℕ
excess_at columns widths i = get_or widths i 0 - (column_at columns i).least

-- a column is lowered before another: it exceeds its least more, or as much and is wider, or as wide and to the left
pub record ComesFirst (columns : List ColumnShare) (widths : List ℕ) (i j : ℕ) : Type 0 where
  pub excess : excess_at columns widths j ≤ excess_at columns widths i
  pub width : excess_at columns widths i ≡ excess_at columns widths j → get_or widths j 0 ≤ get_or widths i 0
  pub place : excess_at columns widths i ≡ excess_at columns widths j → get_or widths i 0 ≡ get_or widths j 0 → i ≤ j

-- one column of text is taken, from the first of the columns that exceed their leasts
pub record IsOneTaken (columns : List ColumnShare) (old new : List ℕ) : Type 0 where
  pub place : ℕ
  pub within : place < length old
  pub some : (column_at columns place).least < get_or old place 0
  pub first : (j : ℕ) → j < length old → ComesFirst columns old place j
  pub is : new ≡ set old place (get_or old place 0 - 1)

-- widths from turn to turn, from the shares on
pub record AreTurns (columns : List ColumnShare) (count : ℕ) (turns : ℕ → List ℕ) : Type 0 where
  pub begins : turns 0 ≡ map share_of columns
  pub each : (k : ℕ) → k < count → IsOneTaken columns (turns k) (turns (k + 1))

-- there are such turns
pub record HasTurns (columns : List ColumnShare) (count : ℕ) : Type 0 where
  pub turns : ℕ → List ℕ
  pub are : AreTurns columns count turns

-- what the shares pass the width by
abbrev pub passed_by : List ColumnShare → ℕ → ℕ
passed_by columns width = sum_by share_of columns + separators columns - width
