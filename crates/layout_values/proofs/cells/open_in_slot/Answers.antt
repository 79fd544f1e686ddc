use Rattle.std.proofs.Common.{◌≡◌, [], ◌++◌, Err, ap, arith, false, length-append, rules, true}
use Rattle.std.proofs.lemmas.Result.{err_from_is_err_and}
use Rattle.text_pieces.specs.declared.fault.BlockError.TheVariants.{TooNarrow}
use Rattle.std.specs.Option.{is_some}
use Rattle.block_renderer.specs.Seen.{marking}
use Rattle.layout_state.specs.Seen.{made_of, slots_left, widths_seen}
use Rattle.layout_values.specs.Seen.{WorksOutside, maybe, waiting_of}
use Rattle.layout_tables.specs.Tables.{cell_laid}
use Rattle.table_widths.specs.Tables.{rows_left}
use Rattle.layout_values.proofs.TableOpenLemmas.{all_both, cell_opens, left_out, let_in, no_cell_look, no_cell_name}
use Rattle.layout_values.proofs.TableOpenLemmas.{pushed_both, some_all, some_few, whichever_sizing}
use Rattle.layout_values.proofs.cells.open_in_slot.Goals as goal

pub returns-then-not-entered-clause-opened : goal.returns-then-not-entered-clause-opened
returns-then-not-entered-clause-opened g c = λ nodes.
    let entered : is_some c.in_ok-cell.cell ≡ false = search rules in
    record {
      items = maybe c.in_ok-cell.cell;
      pushed = c.in_ok-push_some.ensures;
      works = some_all WorksOutside c.in_ok-cell.cell c.in_ok-cell.ensures.ready;
      few = omega (arith, some_few c.in_ok-cell.cell);
      opens = λ tag p w inside. left_out
          (marking g.D.TextDecorator.view tag) w _ _ _ _ _ entered
          (c.in_ok-cell.ensures.opened tag p nodes w _);
    }

pub returns-in_err-look-clause-narrow : goal.returns-in_err-look-clause-narrow
returns-in_err-look-clause-narrow g c = λ e. λ tag p inside.
    let entered : is_some c.in_ok-cell.cell ≡ true = search rules in
    let q = err_from_is_err_and c.from_residual-in_err-look.result c.from_residual-in_err-look.ensures.1 in
    let same : c.in_err-look.field-0.0 ≡ TooNarrow = cc (q.1, q.2, e) in
    no_cell_look (marking g.D.TextDecorator.view tag) whichever_sizing
    (cell_laid (marking g.D.TextDecorator.view tag) (widths_seen c.args.rows.widths)
    (rows_left c.args.rows.rows) c.args.rows.fragments.items (slots_left c.args.slots)
    (made_of g.D.Annotation.EqualCopy.seen g.D.TextDecorator.view.held c.args.made.items)) _ _ _ _
    (λ x. let_in (marking g.D.TextDecorator.view tag) whichever_sizing _ _ x _ _ entered
    (c.in_ok-cell.ensures.opened tag p [] whichever_sizing x))
    (c.in_err-look.ensures.narrow (ap Err same) tag p _)

pub returns-in_err-mark-clause-narrow : goal.returns-in_err-mark-clause-narrow
returns-in_err-mark-clause-narrow g c = λ e. λ tag p inside.
    let entered : is_some c.in_ok-cell.cell ≡ true = search rules in
    let q = err_from_is_err_and c.from_residual-in_err-mark.result c.from_residual-in_err-mark.ensures.1 in
    let same : c.in_err-mark.field-0.0 ≡ TooNarrow = cc (q.1, q.2, e) in
    no_cell_name (marking g.D.TextDecorator.view tag) whichever_sizing
    (cell_laid (marking g.D.TextDecorator.view tag) (widths_seen c.args.rows.widths)
    (rows_left c.args.rows.rows) c.args.rows.fragments.items (slots_left c.args.slots)
    (made_of g.D.Annotation.EqualCopy.seen g.D.TextDecorator.view.held c.args.made.items))
    c.args.head.now.style c.args.head.now.fragment inside _ _ _ _ _
    (λ x. let_in (marking g.D.TextDecorator.view tag) whichever_sizing _ _ x _ _ entered
    (c.in_ok-cell.ensures.opened tag p [] whichever_sizing x))
    (c.in_ok-look.ensures.opened tag p [] whichever_sizing) (c.in_err-mark.ensures.narrow (ap Err same) tag p)

pub returns-clause-opened : goal.returns-clause-opened
returns-clause-opened g c = λ nodes.
    let entered : is_some c.in_ok-cell.cell ≡ true = search rules in
    record {
      items = maybe c.in_ok-cell.cell ++ maybe c.in_ok-look.look;
      pushed = pushed_both _ _ _ _ _ c.in_ok-push_some.ensures c.in_ok-push_some-2.ensures;
      works = all_both WorksOutside _ _ (some_all WorksOutside c.in_ok-cell.cell c.in_ok-cell.ensures.ready)
          (some_all WorksOutside c.in_ok-look.look c.in_ok-look.ensures.ready);
      few = omega (
        arith,
        some_few c.in_ok-cell.cell,
        some_few c.in_ok-look.look,
        length-append (maybe c.in_ok-cell.cell) (maybe c.in_ok-look.look),
      );
      opens = λ tag p w inside. cell_opens (waiting_of g.D.Annotation.EqualCopy.seen g.D.TextDecorator.view.held nodes)
          (marking g.D.TextDecorator.view tag) w
          (cell_laid (marking g.D.TextDecorator.view tag) (widths_seen c.args.rows.widths)
          (rows_left c.args.rows.rows) c.args.rows.fragments.items (slots_left c.args.slots)
          (made_of g.D.Annotation.EqualCopy.seen g.D.TextDecorator.view.held c.args.made.items))
          c.args.head.now.style c.args.head.now.fragment inside (maybe c.in_ok-cell.cell) (maybe c.in_ok-look.look)
          _ _ _ _
          (λ x. let_in (marking g.D.TextDecorator.view tag) w _ _ x _ _ entered
          (c.in_ok-cell.ensures.opened tag p nodes w x))
          (c.in_ok-look.ensures.opened tag p nodes w) (c.in_ok-mark.ensures.done tag p);
    }
