use Rattle.std.proofs.Common.{◌≡◌, Err, ap, sym, ◌∙◌}
use Rattle.std.proofs.lemmas.Result.{err_from_is_err_and}
use Rattle.text_pieces.specs.declared.fault.BlockError.TheVariants.{TooNarrow}
use Rattle.block_renderer.specs.Seen.{marking}
use Rattle.layout_state.specs.Seen.{laying_of, place_of}
use Rattle.layout_state.specs.declared.place.TablePlace.TheVariants.{Cells, Rows}
use Rattle.layout_values.proofs.TableOpenLemmas.{laid_at_place}
use Rattle.layout_values.proofs.tables.open_table_part.Goals as goal

pub returns-in_err-open_among_rows-in-Rows-clause-narrow :
    goal.returns-in_err-open_among_rows-in-Rows-clause-narrow
returns-in_err-open_among_rows-in-Rows-clause-narrow g c = λ e. λ content tag p inside.
    let q = err_from_is_err_and c.from_residual.result c.from_residual.ensures.1 in
    let same : c.in_err-open_among_rows-in-Rows.field-0.0 ≡ TooNarrow = cc (q.1, q.2, e) in
    laid_at_place (marking g.D.TextDecorator.view tag) c.args.head.now content inside
    (laying_of g.D.Annotation.EqualCopy.seen g.D.TextDecorator.view.held c.args.laying.now)
    (place_of g.D.Annotation.EqualCopy.seen g.D.TextDecorator.view.held (Rows c.in-Rows.rows))
    (ap (place_of g.D.Annotation.EqualCopy.seen g.D.TextDecorator.view.held) (sym c.replace.ensures.value ∙
    c.in-Rows.is))
    ∙ c.in_err-open_among_rows-in-Rows.ensures.narrow (ap Err same) tag p inside

pub returns-in_ok-open_among_rows-in-Rows-clause-opened :
    goal.returns-in_ok-open_among_rows-in-Rows-clause-opened
returns-in_ok-open_among_rows-in-Rows-clause-opened g c = λ content nodes.
    let o = c.in_ok-open_among_rows-in-Rows.ensures.opened nodes in
    record {
      items = o.items;
      pushed = o.pushed;
      works = o.works;
      few = o.few;
      opens = λ tag p w inside. laid_at_place
          (marking g.D.TextDecorator.view tag) c.args.head.now content inside
          (laying_of g.D.Annotation.EqualCopy.seen g.D.TextDecorator.view.held c.args.laying.now)
          (place_of g.D.Annotation.EqualCopy.seen g.D.TextDecorator.view.held (Rows c.in-Rows.rows))
          (ap (place_of g.D.Annotation.EqualCopy.seen g.D.TextDecorator.view.held) (sym c.replace.ensures.value
          ∙ c.in-Rows.is))
          ∙ o.opens tag p w inside;
    }

pub returns-in_err-open_among_cells-in-Cells-clause-narrow :
    goal.returns-in_err-open_among_cells-in-Cells-clause-narrow
returns-in_err-open_among_cells-in-Cells-clause-narrow g c = λ e. λ content tag p inside.
    let q = err_from_is_err_and c.from_residual-in_err-open_among_cells-in-Cells.result
    c.from_residual-in_err-open_among_cells-in-Cells.ensures.1 in
    let same : c.in_err-open_among_cells-in-Cells.field-0.0 ≡ TooNarrow = cc (q.1, q.2, e) in
    laid_at_place (marking g.D.TextDecorator.view tag) c.args.head.now content inside
    (laying_of g.D.Annotation.EqualCopy.seen g.D.TextDecorator.view.held c.args.laying.now)
    (place_of g.D.Annotation.EqualCopy.seen g.D.TextDecorator.view.held
    (Cells c.in-Cells.rows c.in-Cells.slots c.in-Cells.made))
    (ap (place_of g.D.Annotation.EqualCopy.seen g.D.TextDecorator.view.held) (sym c.replace.ensures.value ∙
    c.in-Cells.is))
    ∙ c.in_err-open_among_cells-in-Cells.ensures.narrow (ap Err same) tag p inside

pub returns-in_ok-open_among_cells-in-Cells-clause-opened :
    goal.returns-in_ok-open_among_cells-in-Cells-clause-opened
returns-in_ok-open_among_cells-in-Cells-clause-opened g c = λ content nodes.
    let o = c.in_ok-open_among_cells-in-Cells.ensures.opened nodes in
    record {
      items = o.items;
      pushed = o.pushed;
      works = o.works;
      few = o.few;
      opens = λ tag p w inside. laid_at_place
          (marking g.D.TextDecorator.view tag) c.args.head.now content inside
          (laying_of g.D.Annotation.EqualCopy.seen g.D.TextDecorator.view.held c.args.laying.now)
          (place_of g.D.Annotation.EqualCopy.seen g.D.TextDecorator.view.held
          (Cells c.in-Cells.rows c.in-Cells.slots c.in-Cells.made))
          (ap (place_of g.D.Annotation.EqualCopy.seen g.D.TextDecorator.view.held) (sym c.replace.ensures.value
          ∙ c.in-Cells.is))
          ∙ o.opens tag p w inside;
    }
