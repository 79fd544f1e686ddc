-- Words of the proofs on blocks.
use Rattle.std.proofs.Common.{◌≡◌, Bool, List, Some, ℕ}
use Rattle.std.specs.Prelude.{All}
use Rattle.text_pieces.specs.declared.white_space.WhiteSpace.{WhiteSpace}
use Rattle.text_lines.specs.Tagged.{Item}
use Rattle.text_borders.specs.Borders.{Border}
use Rattle.text_borders.specs.Lines.{BlockLine, border, line_shown}
use Rattle.text_borders.specs.Across.{Cell, CellLine}
use Rattle.block_layout.specs.declared.measure.Measure.{Measure}
use Rattle.block_layout.specs.Laid.{Laid, add_block, add_border, add_empty_line, add_horizontal_border, add_text}
use Rattle.block_layout.specs.Laid.{add_text_lines, break_line, end_block, finished_lines, flush, mark, nothing_laid}
use Rattle.block_layout.specs.Laid.{start_awaited, start_block, start_table}
use Rattle.block_layout.specs.LaidRows.{add_row, add_slashes}
use Rattle.printed_block_laws.specs.Printed.{ArePrinted, IsPrinted, IsPrintedBlock, IsPrintedCell, IsPrintedLine}

-- what the crate below says of blocks
pub record KeepsPrinted (S : Type 0) : Type 0 where
  pub nothing : IsPrintedBlock {S = S} nothing_laid
  pub flushed : (m : Measure) (tag : S) (b new : Laid S) → IsPrintedBlock b → flush m tag b ≡ Some new
      → IsPrintedBlock new
  pub lines_taken : (m : Measure) (tag fill : S) (lines : List (List (Item S))) (b : Laid S) → IsPrintedBlock b
      → All ArePrinted lines → IsPrintedBlock (add_text_lines m tag fill lines b)
  pub empty_line : (m : Measure) (tag : S) (b new : Laid S) → IsPrintedBlock b → add_empty_line m tag b ≡ Some new
      → IsPrintedBlock new
  pub block_started : (m : Measure) (tag : S) (b new : Laid S) → IsPrintedBlock b → start_block m tag b ≡ Some new
      → IsPrintedBlock new
  pub table_started : (m : Measure) (tag : S) (b new : Laid S) → IsPrintedBlock b → start_table m tag b ≡ Some new
      → IsPrintedBlock new
  pub block_ended : (b : Laid S) → IsPrintedBlock b → IsPrintedBlock (end_block b)
  pub awaited : (m : Measure) (tag : S) (b new : Laid S) → IsPrintedBlock b → start_awaited m tag b ≡ Some new
      → IsPrintedBlock new
  pub text_taken : (m : Measure) (tag : S) (mode : WhiteSpace) (cs : List ℕ) (main further : S) (b new : Laid S)
      → IsPrintedBlock b → add_text m tag mode cs main further b ≡ Some new → IsPrintedBlock new
  pub marked : (m : Measure) (tag : S) (name : List ℕ) (b : Laid S) → IsPrintedBlock b
      → IsPrintedBlock (mark m tag name b)
  pub line_broken : (m : Measure) (tag : S) (b new : Laid S) → IsPrintedBlock b → break_line m tag b ≡ Some new
      → IsPrintedBlock new
  pub border_drawn : (m : Measure) (tag : S) (width : ℕ) (b new : Laid S) → IsPrintedBlock b
      → add_horizontal_border m tag width b ≡ Some new → IsPrintedBlock new
  pub border_taken : (new : Border S) (b : Laid S) → IsPrintedBlock b → IsPrintedLine (border new)
      → IsPrintedBlock (add_border new b)
  pub slashes_taken : (tag : S) (width : ℕ) (b : Laid S) → IsPrintedBlock b → IsPrintedBlock (add_slashes width tag b)
  pub block_taken : (other m : Measure) (tag : S) (first following : List ℕ) (lines : List (CellLine S)) (b : Laid S)
      → IsPrintedBlock b → All (λ l. IsPrintedLine l.line) lines → All IsPrinted first → All IsPrinted following
      → IsPrintedBlock (add_block other m tag first following lines b)
  pub row_taken : (m : Measure) (tag : S) (draws collapse : Bool) (cells : List (Cell S)) (b new : Laid S)
      → IsPrintedBlock b → All IsPrintedCell cells → add_row m tag draws collapse cells b ≡ Some new
      → IsPrintedBlock new
  pub lines_given : (m : Measure) (tag : S) (b : Laid S) (lines : List (BlockLine S)) → IsPrintedBlock b
      → finished_lines m tag b ≡ Some lines → All (λ l. ArePrinted (line_shown l)) lines
