use Rattle.std.proofs.Common.{refl}
use Rattle.tree_names.specs.TagSets.{formatting}
use Rattle.tree_names.proofs.tag_sets.is_formatting_tag.Goals as goal

pub returns : goal.returns
returns c = c.is_in.ensures formatting refl refl
