-- Words of the laws on blocks.
use Rattle.std.specs.Prelude.{◌≡◌, ℕ, ◌≤◌, All, false, ◌+◌, ◌==◌, List, [], ◌∷◌, if◌then◌else◌}
use Rattle.text_lines.specs.Tagged.{line_columns}
use Rattle.text_wrapping.specs.Blocks.{Block, line_feed}

-- how many LF a text has
abbrev pub line_ends : List ℕ → ℕ
line_ends [] = 0
line_ends (c ∷ cs) = (if c == line_feed then 1 else 0) + line_ends cs

-- a block of that width, without overflow, none of whose lines passes it
pub record IsWithin {S : Type 0} (width : ℕ) (b : Block S) : Type 0 where
  pub same_width : b.width ≡ width
  pub no_overflow : b.overflow ≡ false
  pub lines : All (λ line. line_columns line ≤ width) b.lines
