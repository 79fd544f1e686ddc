use Rattle.std.proofs.Common.{◌≡◌, ◌<◌, ◌^◌, List, Err, ap, arith, length, rules, ◌∙◌}
use Rattle.std.proofs.lemmas.Bool.Decides.{nat_tests}
use Rattle.std.proofs.lemmas.Grind.{common_steps}
use Rattle.std.proofs.lemmas.Result.{err_from_is_err_and}
use Rattle.text_pieces.specs.declared.fault.BlockError.TheVariants.{TooNarrow}
use Rattle.block_renderer.specs.Seen.{marking, sub_of}
use Rattle.layout_state.specs.Seen.{laying_of, place_of, widths_seen}
use Rattle.render_sizes.specs.Extents.{capped}
use Rattle.layout_tables.proofs.TableStepLemmas.{border_keeps, fence_keeps, never_bordered, never_fenced, never_starts}
use Rattle.layout_tables.proofs.TableStepLemmas.{no_table, says_keeps, table_begins, table_by, width_capped}
use Rattle.layout_tables.specs.Seen.{all_fits_seen, fits_at}
use Rattle.layout_tables.specs.Tables.{rows_of, table_widths}
use Rattle.table_grid.specs.declared.columns.Column.{Column}
use Rattle.table_widths.specs.Tables.{table_seen}
use Rattle.layout_values.specs.Seen.{open_table_of}
use Rattle.layout_values.proofs.OpenLemmas.{box_waits}
use Rattle.layout_values.proofs.StepLemmas.{nothing_waits}
use Rattle.layout_values.proofs.TableOpenLemmas.{table_waits}
use Rattle.layout_values.proofs.tables.hold_table.Goals as goal

pub returns-then-is_empty-clause-opened : goal.returns-then-is_empty-clause-opened
returns-then-is_empty-clause-opened g c = λ tag p nodes w inside.
    let none : length c.args.table.columns.items ≡ 0 = first_of (omega arith, grind (arith, nat_tests, common_steps)) in
    no_table (marking g.D.TextDecorator.view tag) (table_seen c.args.table)
    (fits_at (all_fits_seen c.args.fits.now) c.args.at) inside
    (laying_of g.D.Annotation.EqualCopy.seen g.D.TextDecorator.view.held c.args.laying.now) none
    ∙ nothing_waits _ w _

pub returns-in_err-start_table-clause-narrow : goal.returns-in_err-start_table-clause-narrow
returns-in_err-start_table-clause-narrow g c = λ e. λ tag p inside.
    let some : 0 < length c.args.table.columns.items = first_of (omega arith, grind (arith, nat_tests, common_steps)) in
    let asked : c.options-options.result ≡ (sub_of g.D.Annotation.EqualCopy.seen g.D.TextDecorator.view.held
    c.args.laying.now.text.current).options = search rules in
    let is : c.width-width.result ≡ (sub_of g.D.Annotation.EqualCopy.seen g.D.TextDecorator.view.held
    c.args.laying.now.text.current).width = search rules in
    let short : c.width-width.result < 2 ^ 64 = search rules in
    let broad : c.width-width.result ≡ capped (sub_of g.D.Annotation.EqualCopy.seen g.D.TextDecorator.view.held
    c.args.laying.now.text.current).width = width_capped _ _ is short in
    let q = err_from_is_err_and c.from_residual-in_err-start_table.result c.from_residual-in_err-start_table.ensures.1
    in
    let same : c.in_err-start_table.field-0.0 ≡ TooNarrow = cc (q.1, q.2, e) in
    table_by (marking g.D.TextDecorator.view tag) (table_seen c.args.table)
    (fits_at (all_fits_seen c.args.fits.now) c.args.at) inside
    (laying_of g.D.Annotation.EqualCopy.seen g.D.TextDecorator.view.held c.args.laying.now) c.options-options.result
    c.width-width.result c.is_fenced-fenced.result (widths_seen c.in_ok-widths.widths) _ some asked broad
    c.is_fenced-fenced.ensures
    (c.in_ok-widths.ensures
    ∙ ap (λ (v : List Column). table_widths c.options-options.result (fits_at (all_fits_seen c.args.fits.now) c.args.at)
    c.width-width.result v) c.as_slice.ensures.value)
    (never_starts _ c.options-options.result c.is_fenced-fenced.result (widths_seen c.in_ok-widths.widths)
    (rows_of (widths_seen c.in_ok-widths.widths)
    (table_seen c.args.table)) _ (c.in_err-start_table.ensures.narrow (ap Err same) tag p))

pub returns-in_err-fence-clause-narrow : goal.returns-in_err-fence-clause-narrow
returns-in_err-fence-clause-narrow g c = λ e. λ tag p inside.
    let some : 0 < length c.args.table.columns.items = first_of (omega arith, grind (arith, nat_tests, common_steps)) in
    let asked : c.options-options.result ≡ (sub_of g.D.Annotation.EqualCopy.seen g.D.TextDecorator.view.held
    c.args.laying.now.text.current).options = search rules in
    let is : c.width-width.result ≡ (sub_of g.D.Annotation.EqualCopy.seen g.D.TextDecorator.view.held
    c.args.laying.now.text.current).width = search rules in
    let short : c.width-width.result < 2 ^ 64 = search rules in
    let broad : c.width-width.result ≡ capped (sub_of g.D.Annotation.EqualCopy.seen g.D.TextDecorator.view.held
    c.args.laying.now.text.current).width = width_capped _ _ is short in
    let q = err_from_is_err_and c.from_residual-in_err-fence.result c.from_residual-in_err-fence.ensures.1 in
    let same : c.in_err-fence.field-0.0 ≡ TooNarrow = cc (q.1, q.2, e) in
    table_by (marking g.D.TextDecorator.view tag) (table_seen c.args.table)
    (fits_at (all_fits_seen c.args.fits.now) c.args.at) inside
    (laying_of g.D.Annotation.EqualCopy.seen g.D.TextDecorator.view.held c.args.laying.now) c.options-options.result
    c.width-width.result c.is_fenced-fenced.result (widths_seen c.in_ok-widths.widths) _ some asked broad
    c.is_fenced-fenced.ensures
    (c.in_ok-widths.ensures
    ∙ ap (λ (v : List Column). table_widths c.options-options.result (fits_at (all_fits_seen c.args.fits.now) c.args.at)
    c.width-width.result v) c.as_slice.ensures.value)
    (never_fenced _ c.options-options.result c.is_fenced-fenced.result (widths_seen c.in_ok-widths.widths)
    (rows_of (widths_seen c.in_ok-widths.widths)
    (table_seen c.args.table)) _ _ (c.in_ok-start_table.ensures.done tag p)
    (c.in_err-fence.ensures.narrow (ap Err same) tag p))

pub returns-in_err-top_border-clause-narrow : goal.returns-in_err-top_border-clause-narrow
returns-in_err-top_border-clause-narrow g c = λ e. λ tag p inside.
    let some : 0 < length c.args.table.columns.items = first_of (omega arith, grind (arith, nat_tests, common_steps)) in
    let asked : c.options-options.result ≡ (sub_of g.D.Annotation.EqualCopy.seen g.D.TextDecorator.view.held
    c.args.laying.now.text.current).options = search rules in
    let is : c.width-width.result ≡ (sub_of g.D.Annotation.EqualCopy.seen g.D.TextDecorator.view.held
    c.args.laying.now.text.current).width = search rules in
    let short : c.width-width.result < 2 ^ 64 = search rules in
    let broad : c.width-width.result ≡ capped (sub_of g.D.Annotation.EqualCopy.seen g.D.TextDecorator.view.held
    c.args.laying.now.text.current).width = width_capped _ _ is short in
    let q = err_from_is_err_and c.from_residual-in_err-top_border.result c.from_residual-in_err-top_border.ensures.1 in
    let same : c.in_err-top_border.field-0.0 ≡ TooNarrow = cc (q.1, q.2, e) in
    table_by (marking g.D.TextDecorator.view tag) (table_seen c.args.table)
    (fits_at (all_fits_seen c.args.fits.now) c.args.at) inside
    (laying_of g.D.Annotation.EqualCopy.seen g.D.TextDecorator.view.held c.args.laying.now) c.options-options.result
    c.width-width.result c.is_fenced-fenced.result (widths_seen c.in_ok-widths.widths) _ some asked broad
    c.is_fenced-fenced.ensures
    (c.in_ok-widths.ensures
    ∙ ap (λ (v : List Column). table_widths c.options-options.result (fits_at (all_fits_seen c.args.fits.now) c.args.at)
    c.width-width.result v) c.as_slice.ensures.value)
    (never_bordered _ c.options-options.result c.is_fenced-fenced.result (widths_seen c.in_ok-widths.widths)
    (rows_of (widths_seen c.in_ok-widths.widths)
    (table_seen c.args.table)) _ _ _
    (c.in_ok-start_table.ensures.done tag p) (c.in_ok-fence.ensures.done tag p)
    (c.in_err-top_border.ensures.narrow (ap Err same) tag p))

pub returns-clause-opened : goal.returns-clause-opened
returns-clause-opened g c = λ tag p nodes w inside.
    let some : 0 < length c.args.table.columns.items = first_of (omega arith, grind (arith, nat_tests, common_steps)) in
    let asked : c.options-options.result ≡ (sub_of g.D.Annotation.EqualCopy.seen g.D.TextDecorator.view.held
    c.args.laying.now.text.current).options = search rules in
    let is : c.width-width.result ≡ (sub_of g.D.Annotation.EqualCopy.seen g.D.TextDecorator.view.held
    c.args.laying.now.text.current).width = search rules in
    let short : c.width-width.result < 2 ^ 64 = search rules in
    let broad : c.width-width.result ≡ capped (sub_of g.D.Annotation.EqualCopy.seen g.D.TextDecorator.view.held
    c.args.laying.now.text.current).width = width_capped _ _ is short in
    box_waits _ w (open_table_of g.D.Annotation.EqualCopy.seen g.D.TextDecorator.view.held) _ _ _ _
    c.in_ok-waiting.ensures.ok
    (table_by (marking g.D.TextDecorator.view tag) (table_seen c.args.table)
    (fits_at (all_fits_seen c.args.fits.now) c.args.at) inside
    (laying_of g.D.Annotation.EqualCopy.seen g.D.TextDecorator.view.held c.args.laying.now) c.options-options.result
    c.width-width.result c.is_fenced-fenced.result (widths_seen c.in_ok-widths.widths) _ some asked broad
    c.is_fenced-fenced.ensures
    (c.in_ok-widths.ensures
    ∙ ap (λ (v : List Column). table_widths c.options-options.result (fits_at (all_fits_seen c.args.fits.now) c.args.at)
    c.width-width.result v) c.as_slice.ensures.value)
    (table_begins _ c.options-options.result c.is_fenced-fenced.result (widths_seen c.in_ok-widths.widths) _ _
    c.new.result.items (place_of g.D.Annotation.EqualCopy.seen g.D.TextDecorator.view.held c.replace-place.new.dest) _ _
    _ _
    (c.in_ok-start_table.ensures.done tag p) (c.in_ok-fence.ensures.done tag p)
    (c.in_ok-top_border.ensures.done tag p) c.rows_of-rows.ensures c.new.ensures.items
    (ap (place_of g.D.Annotation.EqualCopy.seen g.D.TextDecorator.view.held) c.replace-place.ensures.after))
    ∙ table_waits _ w inside c.is_fenced-fenced.result
    (place_of g.D.Annotation.EqualCopy.seen g.D.TextDecorator.view.held c.replace-place.result) _ _
    (ap (place_of g.D.Annotation.EqualCopy.seen g.D.TextDecorator.view.held) c.replace-place.ensures.value
    ∙ (border_keeps _ c.options-options.result (widths_seen c.in_ok-widths.widths) _ _
    (c.in_ok-top_border.ensures.done tag p)
    ∙ (fence_keeps _ c.is_fenced-fenced.result _ _ (c.in_ok-fence.ensures.done tag p)
    ∙ says_keeps _ _ _ _ (c.in_ok-start_table.ensures.done tag p)))))
