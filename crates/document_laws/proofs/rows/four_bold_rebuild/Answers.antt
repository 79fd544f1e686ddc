use Rattle.std.proofs.Common.{refl}
use Rattle.tree_names.specs.Groups.{tag_group}
use Rattle.rules_table.specs.Actions.{act}
use Rattle.document_laws.proofs.rows.four_bold_rebuild.Goals as goal

pub returns : goal.returns
unfolding act tag_group
returns c = λ s. refl
