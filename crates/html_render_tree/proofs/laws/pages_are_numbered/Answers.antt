use Rattle.html_render_tree.proofs.NumberLemmas.{pages_numbered}
use Rattle.html_render_tree.proofs.laws.pages_are_numbered.Goals as goal

pub returns : goal.returns
returns c = pages_numbered
