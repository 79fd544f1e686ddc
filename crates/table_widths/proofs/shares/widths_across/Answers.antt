use Rattle.std.proofs.Common.{◌≡◌, ◌∙◌, ap, arith, map, sym, take_all, ℕ}
use Rattle.table_widths.specs.Shares.{least_of, share_of, leasts_of, shares_of}
use Rattle.table_widths.proofs.ShareAcrossLemmas.{none_across, some_across}
use Rattle.table_widths.proofs.FitLemmas.{lists_within}
use Rattle.table_widths.proofs.shares.widths_across.Goals as goal

pub column_widths-requires-clause-within : goal.column_widths-requires-clause-within
column_widths-requires-clause-within c =
    let leasts : c.as_slice.result.now ≡ leasts_of c.args.columns.now =
    c.as_slice.ensures.value ∙ c.loop-column.invariant.leasts
    ∙ ap (map least_of) (take_all c.loop-column.column-index c.args.columns.now (omega arith)) in
    let shares : c.as_slice-2.result.now ≡ shares_of c.args.columns.now c.args.width =
    c.as_slice-2.ensures.value ∙ c.loop-column.invariant.shares
    ∙ ap (map (share_of c.args.width c.total_size-total.result))
    (take_all c.loop-column.column-index c.args.columns.now (omega arith)) ∙
    ap (λ (n : ℕ). map (share_of c.args.width n) c.args.columns.now) c.total_size-total.ensures in
    rw (leasts, shares) (lists_within c.args.columns.now c.args.width c.requires.sized)

pub returns-then-total_least-width-clause-exact : goal.returns-then-total_least-width-clause-exact
returns-then-total_least-width-clause-exact c = none_across c.args.columns.now c.args.width (omega arith)

pub returns-clause-exact : goal.returns-clause-exact
returns-clause-exact c =
    let leasts : c.as_slice.result.now ≡ leasts_of c.args.columns.now =
    c.as_slice.ensures.value ∙ c.loop-column.invariant.leasts
    ∙ ap (map least_of) (take_all c.loop-column.column-index c.args.columns.now (omega arith)) in
    let shares : c.as_slice-2.result.now ≡ shares_of c.args.columns.now c.args.width =
    c.as_slice-2.ensures.value ∙ c.loop-column.invariant.shares
    ∙ ap (map (share_of c.args.width c.total_size-total.result))
    (take_all c.loop-column.column-index c.args.columns.now (omega arith)) ∙
    ap (λ (n : ℕ). map (share_of c.args.width n) c.args.columns.now) c.total_size-total.ensures in
    some_across c.columns_have_widths.ensures c.columns_have_one_list_of_widths.ensures c.args.columns.now c.args.width
    c.in_ok-widths.widths.items (omega arith)
    (rw (sym leasts, sym shares) c.in_ok-widths.ensures.widths)
