-- What contracts see of a block of lines.
use Rattle.std.specs.Prelude.{List, IfSome, map}
use Rattle.std.specs.Option.{option_map}
use Rattle.text_pieces.specs.Sources.{names}
use Rattle.text_wrapping.specs.Blocks.{text_of, AreJoinedLines}
use Rattle.text_borders.specs.Across.{CellLine}
use Rattle.text_cells.specs.Cells.{block_lines_of, hanging_of, AreBlockLinesJoined}
pub use Rattle.text_cells.specs.Cells.{AreLinesJoined}
use Rattle.block_layout.specs.Laid.{Running as SeenRunning, Laid}
use Rattle.block_layout.specs.declared.lines.LaidLines.{LaidLines}
use Rattle.block_layout.specs.declared.running.Running.{Running}
use Rattle.block_layout.specs.declared.block.BlockLayout.{BlockLayout}

abbrev pub lines_of : {T S : Type 0} → (T → S) → LaidLines T → List (CellLine S)
lines_of seen lines = block_lines_of seen lines.lines

abbrev pub running_of : {T S : Type 0} → (T → S) → Running T → SeenRunning S
running_of seen running = record {
  mode = running.mode;
  text = text_of seen running.text;
  fill = seen running.fill;
}

abbrev pub laid_of : {T S : Type 0} → (T → S) → BlockLayout T → Laid S
laid_of seen block = record {
  lines = lines_of seen block.lines;
  running = option_map (running_of seen) block.running;
  awaits = block.awaits;
  markers = names block.markers.items;
  hanging = map (hanging_of seen) block.hanging.items;
}

abbrev pub HoldsJoinedLines : {T S : Type 0} → (T → S) → LaidLines T → Type 0
HoldsJoinedLines seen lines = AreBlockLinesJoined seen lines.lines

abbrev pub RunsJoined : {T S : Type 0} → (T → S) → Running T → Type 0
RunsJoined seen running = AreJoinedLines seen running.text

-- The same of a block: its lines, and those of its text that are done. What stands in a border or in a cell that goes
-- on is joined where it is made text.
abbrev pub HasJoinedTexts : {T S : Type 0} → (T → S) → BlockLayout T → Type 0
HasJoinedTexts seen block = HoldsJoinedLines seen block.lines × IfSome block.running (RunsJoined seen)
