use Rattle.std.proofs.Common.{◌≡◌, Err, ap}
use Rattle.std.proofs.lemmas.Result.{err_from_is_err_and}
use Rattle.text_pieces.specs.declared.fault.BlockError.TheVariants.{TooNarrow}
use Rattle.layout_tables.proofs.TableStepLemmas.{cell_begins}
use Rattle.layout_tables.proofs.cells.begin_cell.Goals as goal

pub returns-clause-done : goal.returns-clause-done
returns-clause-done g c = λ tag p. cell_begins _ c.args.width c.args.names.now _ _ _ (c.in_ok-outer.ensures.done tag p)
    (c.in_ok-start_all.ensures.done tag p)

pub returns-in_err-start_all-clause-narrow : goal.returns-in_err-start_all-clause-narrow
returns-in_err-start_all-clause-narrow g c = λ e. λ tag p.
    let q = err_from_is_err_and c.from_residual-in_err-start_all.result
    c.from_residual-in_err-start_all.ensures.1 in
    let same : c.in_err-start_all.field-0.0 ≡ TooNarrow = cc (q.1, q.2, e) in
    cell_begins _ c.args.width c.args.names.now _ _ _ (c.in_ok-outer.ensures.done tag p)
    (c.in_err-start_all.ensures.narrow (ap Err same) tag p)
