use Rattle.std.proofs.Common.{◌≡◌, drop}
use Rattle.block_renderer.specs.Seen.{IsTagging, marking}
use Rattle.layout_state.specs.Seen.{IsWorking, laying_of}
use Rattle.layout_tables.specs.Tables.{start_all}
use Rattle.layout_tables.proofs.cells.start_all.Given as goal

abbrev pub invariant-names : goal.invariant-names
invariant-names g l = record {
  so_far : (tag : _) → IsTagging g.D.Annotation.EqualCopy.seen g.D.TextDecorator.view tag
      → start_all (marking g.D.TextDecorator.view tag) l.names
      (laying_of g.D.Annotation.EqualCopy.seen g.D.TextDecorator.view.held l.fn.laying)
      ≡ start_all (marking g.D.TextDecorator.view tag) (drop l.name-index l.names)
      (laying_of g.D.Annotation.EqualCopy.seen g.D.TextDecorator.view.held l.laying);
  works : IsWorking g.D.Annotation.EqualCopy.seen g.D.TextDecorator.view.held l.laying;
}
