use Rattle.std.proofs.Common.{◌∙◌, arith}
use Rattle.std.proofs.lemmas.Result.{IfOk-weaker}
use Rattle.column_fits.proofs.AcrossLemmas.{least_lists, least_widths, low_lists, low_widths}
use Rattle.column_fits.proofs.across.fitted.Goals as goal

pub column_widths-requires : goal.column_widths-requires
column_widths-requires c =
    let lists = low_lists c.args.columns.now c.args.fits.now c.args.width c.as_slice.result.now
    c.as_slice-then-taken_by-width.result.now c.requires.fit
    (c.as_slice.ensures.value ∙ c.in_ok-lows.ensures)
    (c.as_slice-then-taken_by-width.ensures.value ∙ c.in_ok-highs.ensures) (omega arith) in
    record { same = lists.same; within = lists.within; fit = lists.fit }

pub returns-then-taken_by-width : goal.returns-then-taken_by-width
returns-then-taken_by-width c =
    IfOk-weaker c.column_widths.result _ _
    (λ w h. low_widths c.columns_have_one_list_of_widths.ensures c.columns_have_widths.ensures c.args.columns.now
    c.args.fits.now c.args.width c.requires.fit c.as_slice.result.now c.as_slice-then-taken_by-width.result.now w.items
    (c.as_slice.ensures.value ∙ c.in_ok-lows.ensures)
    (c.as_slice-then-taken_by-width.ensures.value ∙ c.in_ok-highs.ensures) (omega arith) h)
    c.column_widths.ensures.widths

pub column_widths-requires-else-taken_by-width : goal.column_widths-requires-else-taken_by-width
column_widths-requires-else-taken_by-width c =
    let lists = least_lists c.args.columns.now c.args.fits.now c.args.width
    c.as_slice-else-taken_by-width.result.now c.as_slice-else-taken_by-width-2.result.now c.requires.fit
    (c.as_slice-else-taken_by-width.ensures.value ∙ c.in_ok-leasts.ensures)
    (c.as_slice-else-taken_by-width-2.ensures.value ∙ c.in_ok-lows.ensures) c.requires.within in
    record { same = lists.same; within = lists.within; fit = lists.fit }

pub returns : goal.returns
returns c =
    IfOk-weaker c.column_widths-else-taken_by-width.result _ _
    (λ w h. least_widths c.columns_have_one_list_of_widths.ensures c.columns_have_widths.ensures c.args.columns.now
    c.args.fits.now c.args.width c.requires.fit c.as_slice-else-taken_by-width.result.now
    c.as_slice-else-taken_by-width-2.result.now w.items
    (c.as_slice-else-taken_by-width.ensures.value ∙ c.in_ok-leasts.ensures)
    (c.as_slice-else-taken_by-width-2.ensures.value ∙ c.in_ok-lows.ensures) (omega arith) c.requires.within h)
    c.column_widths-else-taken_by-width.ensures.widths
