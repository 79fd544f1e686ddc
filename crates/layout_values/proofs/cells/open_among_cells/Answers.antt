use Rattle.std.proofs.Common.{[], append-nil, arith, ap, sym, ◌∙◌}
use Rattle.std.proofs.lemmas.List.Elements.{All-nil}
use Rattle.block_renderer.specs.Seen.{marking}
use Rattle.layout_state.proofs.CallLemmas.{if_ok_by}
use Rattle.layout_state.specs.LayoutState.{in_table}
use Rattle.layout_state.specs.Seen.{laying_of, place_of}
use Rattle.layout_state.specs.declared.place.TablePlace.TheVariants.{Cells}
use Rattle.render_values.specs.declared.info.RenderInfo.{RenderInfo}
use Rattle.layout_values.specs.Lay.{among_cells}
use Rattle.layout_values.specs.Seen.{WorksOutside}
use Rattle.layout_values.proofs.TableOpenLemmas.{cell_at_any, nothing_among_cells}
use Rattle.layout_values.proofs.cells.open_among_cells.Goals as goal

pub returns-in-TableCell-clause-opened : goal.returns-in-TableCell-clause-opened
returns-in-TableCell-clause-opened g c = λ nodes. if_ok_by _ _ c.open_in_slot.result (λ entered o. record {
  items = o.items;
  pushed = o.pushed;
  works = o.works;
  few = o.few;
  opens = λ tag p w inside. ap (λ (i : RenderInfo). among_cells (marking g.D.TextDecorator.view tag) i
      c.args.head.now (place_of g.D.Annotation.EqualCopy.seen g.D.TextDecorator.view.held
      (Cells c.args.rows c.args.slots c.args.made)) inside (in_table (place_of g.D.Annotation.EqualCopy.seen
      g.D.TextDecorator.view.held (Cells c.args.rows c.args.slots c.args.made)) (laying_of g.D.Annotation.EqualCopy.seen
      g.D.TextDecorator.view.held c.args.laying.now))) c.in-TableCell.is
      ∙ (cell_at_any _ _ _ _ _ _ _ _ _ ∙ o.opens tag p w inside);
}) (c.open_in_slot.ensures.opened nodes)

pub returns-in-TableCell-clause-narrow : goal.returns-in-TableCell-clause-narrow
returns-in-TableCell-clause-narrow g c = λ e. λ tag p inside. ap (λ (i : RenderInfo). among_cells
    (marking g.D.TextDecorator.view tag) i
    c.args.head.now (place_of g.D.Annotation.EqualCopy.seen g.D.TextDecorator.view.held
    (Cells c.args.rows c.args.slots c.args.made)) inside (in_table (place_of g.D.Annotation.EqualCopy.seen
    g.D.TextDecorator.view.held (Cells c.args.rows c.args.slots c.args.made)) (laying_of g.D.Annotation.EqualCopy.seen
    g.D.TextDecorator.view.held c.args.laying.now))) c.in-TableCell.is
    ∙ (cell_at_any _ _ _ _ _ _ _ _ _ ∙ c.open_in_slot.ensures.narrow e tag p inside)

pub returns-in_default : goal.returns-in_default
returns-in_default g c = record {
  opened = λ nodes. record {
    items = [];
    pushed = sym (append-nil _);
    works = All-nil WorksOutside;
    few = omega arith;
    opens = λ tag p w inside. nothing_among_cells (marking g.D.TextDecorator.view tag) w c.args.head.now.info
        c.args.head.now
        (place_of g.D.Annotation.EqualCopy.seen g.D.TextDecorator.view.held (Cells c.args.rows c.args.slots
        c.args.made))
        inside (in_table (place_of g.D.Annotation.EqualCopy.seen g.D.TextDecorator.view.held
        (Cells c.args.rows c.args.slots c.args.made)) (laying_of g.D.Annotation.EqualCopy.seen
        g.D.TextDecorator.view.held c.args.laying.now)) c.in_default.not-TableCell;
  };
  works = c.requires;
  narrow = λ e. absurd (cc e);
  kinds = tt;
}
