use Rattle.std.proofs.Common.{◌≡◌, ◌++◌, map, chars}
use Rattle.std.specs.Vec.Iter.{into_iter_items}
use Rattle.article_layout.specs.Lines.{line_of}
use Rattle.article_layout.specs.Seen.{lines_of}
use Rattle.article_layout.specs.Settings.{options_of}
use Rattle.article_definitions.specs.Layouts.{trailing, prefixed}
use Rattle.article_layout.proofs.line_list.LineList.append_after.Given as goal

abbrev pub invariant-loop-line : goal.invariant-loop-line
invariant-loop-line l =
    lines_of l.self ++ map (trailing (options_of l.room.options) l.room.width (chars l.following))
    (map line_of (into_iter_items l.line-iterator))
    ≡ lines_of l.fn.self ++ prefixed (options_of l.room.options) l.room.width (chars l.first)
    (chars l.following) (map line_of l.fn.lines.items)
