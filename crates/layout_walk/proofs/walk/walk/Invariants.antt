use Rattle.std.proofs.Common.{◌≡◌, ◌+◌, ◌-◌, ◌*◌}
use Rattle.std.specs.Prelude.{All}
use Rattle.block_renderer.specs.Seen.{IsTagging, marking}
use Rattle.render_values.specs.Arena.{values_of}
use Rattle.layout_values.specs.Lay.{lay}
use Rattle.layout_values.specs.Sizing.{in_mode}
use Rattle.layout_tables.specs.Seen.{all_fits_seen}
use Rattle.text_pieces.specs.declared.white_space.WhiteSpace.TheVariants.{Normal}
use Rattle.layout_state.specs.Seen.{IsWorking, laying_of}
use Rattle.layout_values.specs.Seen.{IsReady, IsSound, left, load}
use Rattle.layout_walk.proofs.walk.walk.Given as goal

abbrev pub invariant-nodes : goal.invariant-nodes
invariant-nodes g l = record {
  works : IsWorking g.D.Annotation.EqualCopy.seen g.D.TextDecorator.view.held l.laying;
  ready : All (IsReady l.nodes l.sizes (all_fits_seen l.fits) g.w) l.waiting.items;
  sound : IsSound l.nodes l.sizes (all_fits_seen l.fits) (in_mode g.w l.place.mode) l.place.at l.place.end;
  goes : (tag : _) → IsTagging g.D.Annotation.EqualCopy.seen g.D.TextDecorator.view tag
      → left g.D.Annotation.EqualCopy.seen g.D.TextDecorator.view.held
      (marking g.D.TextDecorator.view tag) l.nodes g.w l.place.mode l.place.at l.place.end l.waiting.items l.laying
      ≡ lay (marking g.D.TextDecorator.view tag) (in_mode g.w Normal) (values_of l.nodes)
      (laying_of g.D.Annotation.EqualCopy.seen g.D.TextDecorator.view.held l.fn.laying);
}

abbrev pub decreases-nodes : goal.decreases-nodes
decreases-nodes g l = load l.waiting.items + 8 * (l.place.end - l.place.at)

abbrev pub ghost-enter : goal.ghost-enter
ghost-enter g a = g.w
