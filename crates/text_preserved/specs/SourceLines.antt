-- What contracts see of the pass over a source line, and of its kinds of characters.
use Rattle.text_lines.specs.Tagged.{line_items}
use Rattle.text_preserved.specs.Preserved.{Kind, solid, white, tab, cut, nothing}
use Rattle.text_preserved.specs.Pass.{Pass}
use Rattle.text_preserved.specs.Rows.{laying_of}
use Rattle.text_preserved.specs.declared.kinds.CharacterKind.{CharacterKind}
use Rattle.text_preserved.specs.declared.kinds.CharacterKind.TheVariants.{Solid, White, Tab, Cut, Nothing}
use Rattle.text_preserved.specs.declared.source_line.SourceLine.{SourceLine}

abbrev pub kind_seen : CharacterKind → Kind
kind_seen Solid = solid
kind_seen White = white
kind_seen Tab = tab
kind_seen Cut = cut
kind_seen Nothing = nothing

abbrev pub pass_of : {T S : Type 0} → (T → S) → SourceLine T → Pass S
pass_of seen line = record {
  width = line.width;
  wraps = line.wraps;
  rows = laying_of seen line.rows;
  word = line_items seen line.word;
  begun = line.begun;
  goes_on = line.goes_on;
  wide = line.wide;
}
