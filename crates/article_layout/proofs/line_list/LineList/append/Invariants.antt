use Rattle.std.proofs.Common.{◌≡◌, ◌++◌, map}
use Rattle.std.specs.Vec.Iter.{into_iter_items}
use Rattle.article_layout.specs.Lines.{line_of}
use Rattle.article_layout.specs.Seen.{lines_of}
use Rattle.article_layout.proofs.line_list.LineList.append.Given as goal

abbrev pub invariant-loop-line : goal.invariant-loop-line
invariant-loop-line l =
    lines_of l.self ++ map line_of (into_iter_items l.line-iterator)
    ≡ lines_of l.initial.self ++ map line_of l.fn.lines.items
