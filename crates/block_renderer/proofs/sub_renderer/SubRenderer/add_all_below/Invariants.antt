use Rattle.std.proofs.Common.{◌≡◌, map}
use Rattle.std.specs.Vec.Iter.{into_iter_items}
use Rattle.block_trait.specs.Renderers.{add_below, add_first}
use Rattle.block_renderer.specs.Seen.{sub_of, IsJoinedSub}
use Rattle.block_renderer.proofs.sub_renderer.SubRenderer.add_all_below.Given as goal

abbrev pub invariant-loop-cell : goal.invariant-loop-cell
invariant-loop-cell g l =
    let seen = g.D.Annotation.EqualCopy.seen in
    let held = g.D.TextDecorator.view.held in
    record {
      done : add_below (map (sub_of seen held) (into_iter_items l.cell-iterator)) (sub_of seen held l.self)
          ≡ add_first (map (sub_of seen held) l.fn.cells.items) (sub_of seen held l.fn.self);
      joined : IsJoinedSub seen l.fn.self → IsJoinedSub seen l.self;
    }
