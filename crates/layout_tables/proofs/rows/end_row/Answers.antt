use Rattle.std.proofs.Common.{◌≡◌, ap, rules, sym, ◌∙◌}
use Rattle.std.proofs.lemmas.Result.{on_ok_weaker}
use Rattle.std.specs.Option.{is_some}
use Rattle.block_renderer.specs.Seen.{marking}
use Rattle.layout_state.specs.Seen.{laying_of, made_of, place_of, slots_left, widths_seen}
use Rattle.table_widths.specs.Tables.{rows_left}
use Rattle.layout_tables.proofs.TableStepLemmas.{row_ends_as, row_stays, seen_some}
use Rattle.layout_tables.proofs.rows.end_row.Goals as goal

pub returns-in_ok-push_rest-in-Cells-clause-done : goal.returns-in_ok-push_rest-in-Cells-clause-done
returns-in_ok-push_rest-in-Cells-clause-done g c =
    let across : is_some (widths_seen c.in-Cells.rows.widths) ≡ c.is_some-is_across.result =
    seen_some c.in-Cells.rows.widths ∙ (search rules) in
    on_ok_weaker c.add_row.result (λ h. λ tag p. row_ends_as
    (marking g.D.TextDecorator.view tag)
    (laying_of g.D.Annotation.EqualCopy.seen g.D.TextDecorator.view.held c.args.laying.now)
    (laying_of g.D.Annotation.EqualCopy.seen g.D.TextDecorator.view.held c.push_rest.new.laying)
    (widths_seen c.in-Cells.rows.widths) (rows_left c.in-Cells.rows.rows) c.in-Cells.rows.fragments.items
    (slots_left c.in-Cells.slots)
    (made_of g.D.Annotation.EqualCopy.seen g.D.TextDecorator.view.held c.in-Cells.made.items)
    (made_of g.D.Annotation.EqualCopy.seen g.D.TextDecorator.view.held c.push_rest.new.made.items)
    (place_of g.D.Annotation.EqualCopy.seen g.D.TextDecorator.view.held c.replace.new.dest) c.new.result.items _
    (ap (place_of g.D.Annotation.EqualCopy.seen g.D.TextDecorator.view.held) (sym c.replace.ensures.value ∙
    c.in-Cells.is))
    c.in_ok-push_rest-in-Cells.ensures.stays (c.in_ok-push_rest-in-Cells.ensures.made tag) c.new.ensures.items
    (h tag p))
    (c.add_row.ensures.done (widths_seen c.in-Cells.rows.widths) across)

pub returns-in_ok-push_rest-in-Cells-clause-narrow : goal.returns-in_ok-push_rest-in-Cells-clause-narrow
returns-in_ok-push_rest-in-Cells-clause-narrow g c = λ e. λ tag p.
    let across : is_some (widths_seen c.in-Cells.rows.widths) ≡ c.is_some-is_across.result =
    seen_some c.in-Cells.rows.widths ∙ (search rules) in
    row_ends_as (marking g.D.TextDecorator.view tag)
    (laying_of g.D.Annotation.EqualCopy.seen g.D.TextDecorator.view.held c.args.laying.now)
    (laying_of g.D.Annotation.EqualCopy.seen g.D.TextDecorator.view.held c.push_rest.new.laying)
    (widths_seen c.in-Cells.rows.widths) (rows_left c.in-Cells.rows.rows) c.in-Cells.rows.fragments.items
    (slots_left c.in-Cells.slots)
    (made_of g.D.Annotation.EqualCopy.seen g.D.TextDecorator.view.held c.in-Cells.made.items)
    (made_of g.D.Annotation.EqualCopy.seen g.D.TextDecorator.view.held c.push_rest.new.made.items)
    (place_of g.D.Annotation.EqualCopy.seen g.D.TextDecorator.view.held c.replace.new.dest) c.new.result.items _
    (ap (place_of g.D.Annotation.EqualCopy.seen g.D.TextDecorator.view.held) (sym c.replace.ensures.value ∙
    c.in-Cells.is))
    c.in_ok-push_rest-in-Cells.ensures.stays (c.in_ok-push_rest-in-Cells.ensures.made tag) c.new.ensures.items
    (c.add_row.ensures.narrow e (widths_seen c.in-Cells.rows.widths) across tag p)

pub returns-in_default : goal.returns-in_default
returns-in_default g c = record {
  done = λ tag p. row_stays g.D.Annotation.EqualCopy.seen g.D.TextDecorator.view.held
      (marking g.D.TextDecorator.view tag)
      c.replace.result (laying_of g.D.Annotation.EqualCopy.seen g.D.TextDecorator.view.held c.args.laying.now)
      c.in_default.not-Cells (ap (place_of g.D.Annotation.EqualCopy.seen g.D.TextDecorator.view.held)
      (sym c.replace.ensures.value));
  works = c.requires;
  narrow = λ e. absurd (cc e);
  kinds = tt;
}
