use Rattle.layout_walk.proofs.walk.enter.Given as goal

abbrev pub ghost-content_of : goal.ghost-content_of
ghost-content_of g a = g.w
