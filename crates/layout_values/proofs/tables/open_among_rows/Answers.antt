use Rattle.std.proofs.Common.{[], append-nil, arith, ap, sym, ◌∙◌}
use Rattle.std.proofs.lemmas.List.Elements.{All-nil}
use Rattle.block_renderer.specs.Seen.{marking}
use Rattle.layout_state.proofs.CallLemmas.{if_ok_by}
use Rattle.layout_state.specs.LayoutState.{in_table}
use Rattle.layout_state.specs.Seen.{laying_of, place_of, widths_seen}
use Rattle.layout_state.specs.declared.place.TablePlace.TheVariants.{Rows}
use Rattle.render_values.specs.declared.info.RenderInfo.{RenderInfo}
use Rattle.layout_values.specs.Lay.{among_rows}
use Rattle.layout_values.specs.Seen.{WorksOutside}
use Rattle.table_widths.specs.Tables.{rows_left}
use Rattle.layout_values.proofs.TableOpenLemmas.{nothing_among_rows}
use Rattle.layout_values.proofs.tables.open_among_rows.Goals as goal

pub returns-in_ok-open_group-in-TableGroup-clause-opened : goal.returns-in_ok-open_group-in-TableGroup-clause-opened
returns-in_ok-open_group-in-TableGroup-clause-opened g c = λ nodes.
    let o = c.in_ok-open_group-in-TableGroup.ensures.opened nodes in
    record {
      items = o.items;
      pushed = o.pushed;
      works = o.works;
      few = o.few;
      opens = λ tag p w inside. ap (λ (i : RenderInfo). among_rows
          (marking g.D.TextDecorator.view tag) i c.args.head.now
          (widths_seen c.args.rows.widths) (rows_left c.args.rows.rows) c.args.rows.fragments.items inside
          (in_table (place_of g.D.Annotation.EqualCopy.seen g.D.TextDecorator.view.held (Rows c.args.rows))
          (laying_of g.D.Annotation.EqualCopy.seen g.D.TextDecorator.view.held c.args.laying.now))) c.in-TableGroup.is
          ∙ o.opens tag p w inside;
    }

pub returns-in-TableRow-clause-opened : goal.returns-in-TableRow-clause-opened
returns-in-TableRow-clause-opened g c = λ nodes. if_ok_by _ _ c.open_row.result (λ entered o. record {
  items = o.items;
  pushed = o.pushed;
  works = o.works;
  few = o.few;
  opens = λ tag p w inside. ap (λ (i : RenderInfo). among_rows
      (marking g.D.TextDecorator.view tag) i c.args.head.now
      (widths_seen c.args.rows.widths) (rows_left c.args.rows.rows) c.args.rows.fragments.items inside
      (in_table (place_of g.D.Annotation.EqualCopy.seen g.D.TextDecorator.view.held (Rows c.args.rows))
      (laying_of g.D.Annotation.EqualCopy.seen g.D.TextDecorator.view.held c.args.laying.now))) c.in-TableRow.is
      ∙ o.opens tag p w inside;
}) (c.open_row.ensures.opened nodes)

pub returns-in_default : goal.returns-in_default
returns-in_default g c = record {
  opened = λ nodes. record {
    items = [];
    pushed = sym (append-nil _);
    works = All-nil WorksOutside;
    few = omega arith;
    opens = λ tag p w inside. nothing_among_rows
        (marking g.D.TextDecorator.view tag) w c.args.head.now.info
        c.args.head.now (widths_seen c.args.rows.widths) (rows_left c.args.rows.rows) c.args.rows.fragments.items
        inside (in_table (place_of g.D.Annotation.EqualCopy.seen g.D.TextDecorator.view.held (Rows c.args.rows))
        (laying_of g.D.Annotation.EqualCopy.seen g.D.TextDecorator.view.held c.args.laying.now))
        c.in_default.not-TableGroup c.in_default.not-TableRow;
  };
  works = c.requires;
  narrow = λ e. absurd (cc e);
  kinds = tt;
}
