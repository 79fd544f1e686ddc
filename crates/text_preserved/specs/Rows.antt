-- What contracts see of lines that are being laid.
use Rattle.std.specs.Prelude.{All, map}
use Rattle.text_lines.specs.Tagged.{line_items, IsJoined}
use Rattle.text_preserved.specs.Preserved.{Laying}
use Rattle.text_preserved.specs.declared.laying.Rows.{Rows}

abbrev pub laying_of : {T S : Type 0} → (T → S) → Rows T → Laying S
laying_of seen rows = record {
  done = map (line_items seen) rows.done.items;
  line = line_items seen rows.line;
  tail = line_items seen rows.tail;
  spaces = line_items seen rows.spaces;
  goes_on = rows.goes_on;
}

-- no text of the lines is empty, and none stands next to one with an equal tag
pub record HasJoinedRows {T S : Type 0} (seen : T → S) (rows : Rows T) : Type 0 where
  pub done : All (IsJoined seen) rows.done.items
  pub line : IsJoined seen rows.line
