use Rattle.layout_walk.proofs.walk.content_of.Given as goal

abbrev pub ghost-table_among : goal.ghost-table_among
ghost-table_among g a = g.w.measure
