use Rattle.std.proofs.Common.{◌≡◌, ◌++◌, map}
use Rattle.std.specs.Vec.Iter.{into_iter_items}
use Rattle.article_layout.specs.Lines.{tag_of}
use Rattle.article_layout.specs.Seen.{lines_of}
use Rattle.article_layout.specs.Settings.{options_of}
use Rattle.article_definitions.specs.Layouts.{note_line}
use Rattle.text_lines.specs.Tagged.{line_items}
use Rattle.article_layout.proofs.footnotes.add_note.Given as goal

abbrev pub invariant-loop-line : goal.invariant-loop-line
invariant-loop-line l =
    lines_of l.lines ++ map (note_line (options_of l.room.options) l.room.width)
    (map (line_items tag_of) (into_iter_items l.line-iterator))
    ≡ lines_of l.initial.lines ++ map (note_line (options_of l.room.options) l.room.width)
    (map (line_items tag_of) (into_iter_items l.initial.line-iterator))
