use Rattle.std.proofs.Common.{◌≡◌, ◌+◌, ◌≤◌, sym, ◌∙◌, subst, List, All, sum_by}
use Rattle.std.proofs.lemmas.Result.{IfOk-weaker}
use Rattle.table_widths.specs.declared.column.ColumnShare.{ColumnShare}
use Rattle.table_widths.specs.Widths.{columns_of, least_of, separators, IsColumnWidths}
use Rattle.table_widths.proofs.ListLemmas.{within-columns_of, fit_lists, sum_lists}
use Rattle.table_widths.proofs.sharing.column_widths.Goals as goal

pub widths_of-requires : goal.widths_of-requires
widths_of-requires c =
    let e : c.as_slice.result.now ≡ columns_of c.args.least.now c.args.shares.now =
    c.as_slice.ensures.value ∙ c.in_ok-columns.ensures in
    record {
      within = subst (λ (xs : List ColumnShare). All (λ c. c.least ≤ c.share) xs) (sym e)
          (within-columns_of c.args.least.now c.args.shares.now c.requires.within);
      fit = subst (λ (xs : List ColumnShare). sum_by least_of xs + separators xs ≤ c.args.width) (sym e)
          (fit_lists c.args.least.now c.args.shares.now c.args.width c.requires.same c.requires.fit);
    }

pub returns : goal.returns
returns c =
    let e : c.as_slice.result.now ≡ columns_of c.args.least.now c.args.shares.now =
    c.as_slice.ensures.value ∙ c.in_ok-columns.ensures in
    record {
      widths = IfOk-weaker c.widths_of.result _ _
          (λ w h. subst (λ (xs : List ColumnShare). IsColumnWidths xs c.args.width w.items) e h) c.widths_of.ensures;
      filled = IfOk-weaker c.widths_of.result _ _
          (λ w h. sum_lists c.args.least.now c.args.shares.now w.items c.args.width c.requires.same c.requires.fit
          (subst (λ (xs : List ColumnShare). IsColumnWidths xs c.args.width w.items) e h)) c.widths_of.ensures;
    }
