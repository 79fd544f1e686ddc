use Rattle.std.proofs.Common.{◌≡◌, fold, map}
use Rattle.std.specs.Vec.Iter.{into_iter_items}
use Rattle.text_lines.specs.Tagged.{line_items}
use Rattle.block_renderer.specs.Footnotes.{with_footnote}
use Rattle.block_renderer.specs.Seen.{sub_of, IsJoinedSub}
use Rattle.block_renderer.proofs.sub_renderer.SubRenderer.put_footnotes.Given as goal

abbrev pub invariant-loop-line : goal.invariant-loop-line
invariant-loop-line g l =
    let seen = g.D.Annotation.EqualCopy.seen in
    let held = g.D.TextDecorator.view.held in
    record {
      done : fold with_footnote (sub_of seen held l.self) (map (line_items seen) (into_iter_items l.line-iterator))
          ≡ fold with_footnote (sub_of seen held l.fn.self) (map (line_items seen) l.fn.lines.items);
      joined : IsJoinedSub seen l.fn.self → IsJoinedSub seen l.self;
    }
