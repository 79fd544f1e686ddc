use Rattle.tree_names.proofs.GroupLemmas.{is_of_formatting}
use Rattle.tree_names.proofs.group.formatting_groups_are_formatting.Goals as goal

pub returns : goal.returns
returns c name is = is_of_formatting name is
