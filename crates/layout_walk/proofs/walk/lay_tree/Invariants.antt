use Rattle.layout_walk.proofs.walk.lay_tree.Given as goal

abbrev pub ghost-walk : goal.ghost-walk
ghost-walk g a = g.w
