use Rattle.std.proofs.Common.{◌≡◌, ◌++◌, map, chars, string_bytes}
use Rattle.std.specs.Vec.Iter.{into_iter_items}
use Rattle.text_borders.specs.Lines.{render_line_of}
use Rattle.block_trait.specs.Texts.{text_of_lines}
use Rattle.block_trait.proofs.texts.text_of_lines.Given as goal

abbrev pub invariant-loop-line : goal.invariant-loop-line
invariant-loop-line g l =
    let seen = g.T.EqualCopy.seen in
    chars (string_bytes l.text) ++ text_of_lines (map (render_line_of seen) (into_iter_items l.line-iterator))
    ≡ text_of_lines (map (render_line_of seen) l.fn.lines.items)
