use Rattle.std.proofs.Common.{refl}
use Rattle.tree_names.specs.Groups.{tag_group}
use Rattle.rules_table.specs.Actions.{act}
use Rattle.document_laws.proofs.rows.a_fourth_bold_shortens_the_list.Goals as goal

pub returns : goal.returns
unfolding act tag_group
returns c = λ s. refl
