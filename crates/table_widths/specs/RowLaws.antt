-- Words of the laws of rows.
use Rattle.std.specs.Prelude.{◌≡◌, ℕ, ◌≤◌, All, true, List, [], ◌∷◌, length}
use Rattle.table_widths.specs.Slots.{Table, across, is_shown}
use Rattle.table_widths.specs.declared.slot.Slot.{Slot}

-- From a column on each slot begins where the one before ends.
abbrev pub StandFrom : ℕ → List Slot → Type 0
StandFrom from [] = Unit {0}
StandFrom from (s ∷ slots) = (s.first ≡ from) × ((s.first ≤ s.last) × StandFrom s.last slots)

-- Slots take columns side by side, from the first on, and no more than there are.
pub record IsWhole (count : ℕ) (slots : List Slot) : Type 0 where
  pub stands : StandFrom 0 slots
  pub within : All (λ s. s.last ≤ count) slots

-- So do those of each row that is shown across.
abbrev pub AreWholeRows : Table → Type 0
AreWholeRows t = All (λ slots. is_shown slots ≡ true → IsWhole (length t.columns) slots) (across [] t.rows)
