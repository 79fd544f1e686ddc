use Rattle.table_fits.proofs.pass.table_fits.Given as goal

abbrev pub ghost-walk : goal.ghost-walk
ghost-walk g a = g.w
