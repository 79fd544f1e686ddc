use Rattle.std.proofs.Common.{◌≡◌, ◌-◌, ◌<◌, ◌≤◌, ◌∙◌, All, List, ap, arith, filter, fold, length, map, subst, sym, ℕ}
use Rattle.std.proofs.lemmas.List.{length-map, take_at}
use Rattle.column_fits.specs.Fits.{AreWithin, begun, is_over, widened_by}
use Rattle.column_fits.specs.declared.cell.CellWidths.{CellWidths}
use Rattle.column_fits.specs.declared.fit.ColumnFit.{ColumnFit}
use Rattle.column_fits.proofs.FitLemmas.{begun_some, fits_is, spanning_last, spanning_some, spans_within}
use Rattle.column_fits.proofs.SpanLemmas.{by_spans}
use Rattle.column_fits.proofs.fit.fits_of.Goals as goal

pub widen_by_single-requires : goal.widen_by_single-requires
widen_by_single-requires c =
    let start : c.as_mut_slice-slots.result.now ≡ map begun c.args.columns.now =
    c.as_mut_slice-slots.ensures.value ∙ c.in_ok-fits.ensures in
    let n : length c.as_mut_slice-slots.result.now ≡ length c.args.columns.now =
    ap (λ (fs : List ColumnFit). length fs) start ∙ length-map c.args.columns.now begun in
    record {
      within = subst (λ (n : ℕ). AreWithin n c.args.cells.now) (sym n) c.requires.within;
      high = subst (λ (fs : List ColumnFit). All (λ f. 1 ≤ f.high) fs) (sym start) (begun_some c.args.columns.now);
    }

pub widen_in_turn-requires : goal.widen_in_turn-requires
widen_in_turn-requires c =
    let spans : c.as_slice.result.now ≡ by_spans 2 (length c.args.columns.now - 1) c.args.cells.now =
    c.as_slice.ensures.value
    ∙ c.in_ok-spanning.ensures (length c.args.columns.now)
    (spans_within (length c.args.columns.now) c.args.cells.now c.requires.within) in
    let start : c.as_mut_slice-slots.result.now ≡ map begun c.args.columns.now =
    c.as_mut_slice-slots.ensures.value ∙ c.in_ok-fits.ensures in
    let n : length c.widen_by_single.new.fits ≡ length c.args.columns.now =
    c.widen_by_single.ensures.same ∙ ap (λ (fs : List ColumnFit). length fs) start
    ∙ length-map c.args.columns.now begun in
    record {
      some = subst (λ (cs : List CellWidths). All (λ c. c.first < c.last) cs) (sym spans)
          (spanning_some (length c.args.columns.now) (length c.args.columns.now - 1) c.args.cells.now
          c.requires.within);
      within = subst (λ (cs : List CellWidths). All (λ c'. c'.last ≤ length c.widen_by_single.new.fits) cs) (sym spans)
          (subst (λ (m : ℕ). All (λ c'. c'.last ≤ m)
          (by_spans 2 (length c.args.columns.now - 1) c.args.cells.now)) (sym n)
          (spanning_last (length c.args.columns.now) (length c.args.columns.now - 1) c.args.cells.now
          c.requires.within));
      high = c.widen_by_single.ensures.high;
    }

pub returns : goal.returns
returns c =
    let start : c.as_mut_slice-slots.result.now ≡ map begun c.args.columns.now =
    c.as_mut_slice-slots.ensures.value ∙ c.in_ok-fits.ensures in
    let spans : c.as_slice.result.now ≡ by_spans 2 (length c.args.columns.now - 1) c.args.cells.now =
    c.as_slice.ensures.value
    ∙ c.in_ok-spanning.ensures (length c.args.columns.now)
    (spans_within (length c.args.columns.now) c.args.cells.now c.requires.within) in
    take_at c.settle.new.fits _ c.in_ok-fits.fits.len (omega arith)
    ∙ c.settle.ensures
    ∙ fits_is c.args.columns.now c.args.cells.now c.widen_by_single.new.fits c.widen_in_turn.new.fits c.requires.within
    (c.widen_by_single.ensures.widened
    ∙ ap (λ (fs : List ColumnFit). fold widened_by fs (filter (is_over 1) c.args.cells.now)) start)
    (c.widen_in_turn.ensures ∙ ap (fold widened_by c.widen_by_single.new.fits) spans)
