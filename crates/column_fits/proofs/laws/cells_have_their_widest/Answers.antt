use Rattle.std.proofs.Common.{◌≡◌, map, refl}
use Rattle.column_fits.specs.Fits.{fits_of, high_of}
use Rattle.column_fits.specs.Laws.{HaveWidest}
use Rattle.column_fits.proofs.AcrossLemmas.{fitted_high}
use Rattle.column_fits.proofs.FitLemmas.{have_widest}
use Rattle.column_fits.proofs.laws.cells_have_their_widest.Goals as goal

pub returns-clause-widths : goal.returns-clause-widths
returns-clause-widths c = λ columns fits width are fit.
    fitted_high (record {
      have = c.columns_have_widths.ensures;
      between = c.widths_stand_between_least_and_share.ensures;
      within = c.widths_fit_the_width.ensures.within;
    }) (λ widths. widths ≡ map high_of fits) columns fits width are fit refl

pub returns-clause-cells : goal.returns-clause-cells
returns-clause-cells c = λ columns cells width within fit.
    fitted_high (record {
      have = c.columns_have_widths.ensures;
      between = c.widths_stand_between_least_and_share.ensures;
      within = c.widths_fit_the_width.ensures.within;
    }) (HaveWidest cells) columns (fits_of columns cells) width (c.columns_have_fits.ensures columns cells within) fit
    (have_widest columns cells within)
