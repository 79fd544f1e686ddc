use Rattle.page_laws.proofs.TreeLemmas.{tree_keeps_text}
use Rattle.page_laws.proofs.laws.a_tree_keeps_the_text_of_its_page.Goals as goal

pub returns : goal.returns
returns g c = tree_keeps_text g.S.TreeSink.view.handle c.the_text_of_a_page_is_kept.ensures
