use Rattle.page_laws.proofs.TreeLemmas.{tree_has_skeleton}
use Rattle.page_laws.proofs.laws.a_tree_has_its_skeleton.Goals as goal

pub returns : goal.returns
returns g c = tree_has_skeleton g.S.TreeSink.view.handle c.a_page_has_its_skeleton.ensures
