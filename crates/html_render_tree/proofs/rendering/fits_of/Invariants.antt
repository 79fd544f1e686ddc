use Rattle.html_render_tree.proofs.rendering.fits_of.Given as goal

abbrev pub ghost-table_fits : goal.ghost-table_fits
ghost-table_fits g a = g.w
