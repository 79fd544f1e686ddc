use Rattle.paragraph_laws.proofs.ValuesOfPages.{values_of_page}
use Rattle.paragraph_laws.proofs.lines.paragraphs_have_their_values.Goals as goal

pub returns : goal.returns
returns c = λ o rules texts quiet. values_of_page c.a_planted_tree_is_at_once.ensures o rules texts quiet
