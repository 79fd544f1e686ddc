use Rattle.column_fits.specs.Fits.{fits_of}
use Rattle.column_fits.specs.Laws.{HaveNarrowest}
use Rattle.column_fits.proofs.AcrossLemmas.{fitted_low}
use Rattle.column_fits.proofs.FitLemmas.{have_narrowest}
use Rattle.column_fits.proofs.laws.cells_have_their_narrowest.Goals as goal

pub returns : goal.returns
returns c = λ columns cells width within fit.
    fitted_low (record {
      have = c.columns_have_widths.ensures;
      between = c.widths_stand_between_least_and_share.ensures;
      within = c.widths_fit_the_width.ensures.within;
    }) (HaveNarrowest cells) columns (fits_of columns cells) width
    (c.columns_have_fits.ensures columns cells within) fit
    (λ widths h. have_narrowest columns cells widths within h)
