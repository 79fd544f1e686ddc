-- What holds no control character.
use Rattle.std.specs.Prelude.{◌≡◌, ℕ, All, IfSome, List, false}
use Rattle.std.specs.Char.{is_control}
use Rattle.text_lines.specs.Tagged.{Item, characters}
use Rattle.text_borders.specs.Across.{Cell}
use Rattle.text_borders.specs.Lines.{BlockLine, border, text}
use Rattle.block_layout.specs.Laid.{Laid}

-- no control of C0 or C1 (Unicode, 23.1)
abbrev pub IsPrinted : ℕ → Type 0
IsPrinted c = is_control c ≡ false

-- the characters of a line; the names of markers are no text
abbrev pub ArePrinted : {S : Type 0} → List (Item S) → Type 0
ArePrinted items = All IsPrinted (characters items)

-- a line of a block: its text, or the texts that stand in its border
abbrev pub IsPrintedLine : {S : Type 0} → BlockLine S → Type 0
IsPrintedLine (text items) = ArePrinted items
IsPrintedLine (border b) = All (λ h. ArePrinted h.items) b.holes

abbrev pub IsPrintedCell : {S : Type 0} → Cell S → Type 0
IsPrintedCell c = All (λ l. IsPrintedLine l.line) c.lines

-- All that a block has laid out: its lines, those of the text that runs, and the cells that go on. What the text that
-- runs holds beside these is not laid out yet, and may be any.
pub record IsPrintedBlock {S : Type 0} (b : Laid S) : Type 0 where
  pub lines : All (λ l. IsPrintedLine l.line) b.lines
  pub running : IfSome b.running (λ r. All ArePrinted r.text.lines)
  pub hanging : All (λ h. IsPrintedCell h.cell) b.hanging
