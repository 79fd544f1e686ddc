use Rattle.html_render_tree.proofs.rendering.laid.Given as goal

abbrev pub ghost-lay_tree : goal.ghost-lay_tree
ghost-lay_tree g a = g.w

abbrev pub ghost-fits_of : goal.ghost-fits_of
ghost-fits_of g a = g.w.measure
