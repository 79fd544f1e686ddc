use Rattle.paragraph_laws.proofs.PagesTrees.{page_has_tree}
use Rattle.paragraph_laws.proofs.trees.paragraph_pages_have_their_trees.Goals as goal

pub returns : goal.returns
returns g c = λ handle table source texts forest quirks knows is grown.
    page_has_tree c.blocks_rebuild.ensures c.a_planted_tree_is_at_once.ensures handle table knows source texts forest
    quirks is grown
