use Rattle.std.proofs.Common.{◌≡◌, ◌++◌, map}
use Rattle.std.specs.Option.{option_map}
use Rattle.std.specs.Vec.Iter.{into_iter_items}
use Rattle.text_cells.specs.Cells.{cell_of}
use Rattle.block_trait.specs.Renderers.{cells_of_subs}
use Rattle.block_renderer.specs.Seen.{sub_of, tags_seen}
use Rattle.block_renderer.proofs.parts.cells_of_subs.Given as goal

abbrev pub invariant-loop-cell : goal.invariant-loop-cell
invariant-loop-cell g l =
    let seen = g.D.Annotation.EqualCopy.seen in
    let held = g.D.TextDecorator.view.held in
    record {
      cells : option_map (λ cs. map (cell_of (tags_seen seen)) l.done.items ++ cs)
          (cells_of_subs (map (λ c. (sub_of seen held c.0, c.1)) (into_iter_items l.cell-iterator)))
          ≡ cells_of_subs (map (λ c. (sub_of seen held c.0, c.1)) l.fn.cells.items);
      can_next : (goal.iterator-loop-cell g).can_next l.cell-iterator;
      is_finite : (goal.iterator-loop-cell g).is_finite l.cell-iterator;
    }
