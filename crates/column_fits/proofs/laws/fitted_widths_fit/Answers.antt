use Rattle.column_fits.proofs.AcrossLemmas.{fitted_fit, fitted_least}
use Rattle.column_fits.proofs.laws.fitted_widths_fit.Goals as goal

pub returns-clause-fit : goal.returns-clause-fit
returns-clause-fit c = λ columns fits width are.
    fitted_fit (record {
      have = c.columns_have_widths.ensures;
      between = c.widths_stand_between_least_and_share.ensures;
      within = c.widths_fit_the_width.ensures.within;
    }) columns fits width are

pub returns-clause-least : goal.returns-clause-least
returns-clause-least c = λ columns fits width are.
    fitted_least (record {
      have = c.columns_have_widths.ensures;
      between = c.widths_stand_between_least_and_share.ensures;
      within = c.widths_fit_the_width.ensures.within;
    }) columns fits width are
