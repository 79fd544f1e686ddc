use Rattle.std.specs.Prelude.{map}
use Rattle.std.specs.Option.{option_and_then}
use Rattle.std.proofs.Common.{ap, sym, ◌∙◌}
use Rattle.std.proofs.lemmas.Result.{on_ok_weaker}
use Rattle.text_cells.specs.Cells.{cell_of}
use Rattle.block_layout.specs.LaidRows.{add_row}
use Rattle.block_trait.specs.Renderers.{on_laid, with_cells}
use Rattle.block_renderer.specs.Seen.{sub_of, tags_seen}
use Rattle.block_renderer.proofs.sub_renderer.SubRenderer.add_cells.Goals as goal

pub returns-clause-done : goal.returns-clause-done
returns-clause-done g c =
    let s = sub_of g.D.Annotation.EqualCopy.seen g.D.TextDecorator.view.held c.args.self.now in
    let cells = map (cell_of (tags_seen g.D.Annotation.EqualCopy.seen)) c.in_ok-cells.cells.items in
    on_ok_weaker c.add_row.result (λ e. ap (λ o. option_and_then (with_cells c.args.collapse s) o)
    c.in_ok-cells.ensures.cells
    ∙ ap (λ m. on_laid s (add_row m s.annotations s.options.draw_borders c.args.collapse cells s.laid))
    (sym c.measure-measure.ensures) ∙ ap (λ o. on_laid s o) e) c.add_row.ensures.added
