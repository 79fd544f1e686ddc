use Rattle.std.proofs.Common.{◌≡◌, ◌++◌, map}
use Rattle.std.specs.Vec.Iter.{into_iter_items}
use Rattle.article_layout.specs.Lines.{line_of}
use Rattle.article_layout.specs.Seen.{emitted, emitted_of}
use Rattle.article_layout.proofs.layout.emitted.Given as goal

abbrev pub invariant-loop-line : goal.invariant-loop-line
invariant-loop-line l =
    map emitted_of l.all.items ++ map emitted (map line_of (into_iter_items l.line-iterator))
    ≡ map emitted (map line_of l.fn.lines.items)
