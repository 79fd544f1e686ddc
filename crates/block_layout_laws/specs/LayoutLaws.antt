-- Words of the laws on blocks of lines.
use Rattle.std.specs.Prelude.{◌≡◌, ◌≤◌, All, true, false, IfSome}
use Rattle.text_wrapping.specs.LawWords.{IsWithin as IsTextWithin}
use Rattle.text_borders.specs.AcrossLaws.{LineFits, CellFits}
use Rattle.block_layout.specs.declared.measure.Measure.{Measure}
use Rattle.block_layout.specs.Laid.{Laid}

-- No character may overflow, and text wraps within the lines.
pub record IsKept (m : Measure) : Type 0 where
  pub no_overflow : m.overflow ≡ false
  pub wraps_within : m.wrap_width ≤ m.width

-- All lines are within the width, the running text within the columns at which it wraps, and the cells that go on keep
-- theirs.
pub record IsWithin {S : Type 0} (m : Measure) (b : Laid S) : Type 0 where
  pub lines : All (λ l. LineFits m.width l.line) b.lines
  pub running : IfSome b.running (λ r. IsTextWithin m.wrap_width r.text)
  pub hanging : All (λ h. CellFits h.cell) b.hanging

-- a character wider than the lines may stand alone, in the text that runs too
pub record AllowsOverflow {S : Type 0} (m : Measure) (b : Laid S) : Type 0 where
  pub measure : m.overflow ≡ true
  pub running : IfSome b.running (λ r. r.text.overflow ≡ true)
