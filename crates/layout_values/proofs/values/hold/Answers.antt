use Rattle.std.proofs.Common.{ap, sym, ◌∙◌}
use Rattle.std.specs.Option.{option_and_then}
use Rattle.block_renderer.specs.Seen.{marking}
use Rattle.layout_state.specs.Seen.{laying_of}
use Rattle.layout_tables.specs.Seen.{all_fits_seen, fits_at}
use Rattle.layout_values.specs.Seen.{all_waiting, content_seen, maybe, where_entered}
use Rattle.layout_values.specs.Continuation.{unwound}
use Rattle.layout_values.proofs.OpenLemmas.{held_alone, table_holds}
use Rattle.layout_values.proofs.values.hold.Goals as goal

pub returns-in_default : goal.returns-in_default
returns-in_default g c = record {
  opened = λ tag p nodes w inside. held_alone (marking g.D.TextDecorator.view tag) w c.args.info.now
      (content_seen c.args.content
      (fits_at (all_fits_seen c.args.fits.now) c.args.at)) inside
      (laying_of g.D.Annotation.EqualCopy.seen g.D.TextDecorator.view.held c.args.laying.now) c.in_default.not-Heading
      c.in_default.not-Quote c.in_default.not-Bullets c.in_default.not-Numbers c.in_default.not-Details
      c.in_default.not-Table;
  works = c.requires.works;
  ready = tt;
  narrow = λ e. absurd (cc e);
  kinds = tt;
}

pub returns-in_ok-table-in-Table-clause-opened : goal.returns-in_ok-table-in-Table-clause-opened
returns-in_ok-table-in-Table-clause-opened g c = λ tag p nodes w inside. table_holds (marking g.D.TextDecorator.view
    tag) c.args.info.now
    (content_seen c.args.content
    (fits_at (all_fits_seen c.args.fits.now) c.args.at)) inside (laying_of g.D.Annotation.EqualCopy.seen
    g.D.TextDecorator.view.held
    c.args.laying.now) _ c.in-Table.is
    (c.in_ok-table-in-Table.ensures.opened tag p nodes w inside
    ∙ ap (λ b. option_and_then (unwound (marking g.D.TextDecorator.view tag) w (all_waiting
    g.D.Annotation.EqualCopy.seen g.D.TextDecorator.view.held nodes (maybe
    c.in_ok-table-in-Table.table)))
    (where_entered b inside (laying_of g.D.Annotation.EqualCopy.seen g.D.TextDecorator.view.held
    c.hold_table.new.laying)))
    (sym c.is_some-is_shown.ensures))
