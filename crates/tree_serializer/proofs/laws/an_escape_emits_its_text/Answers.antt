use Rattle.tree_serializer.proofs.EscapeLaws.{escaped-same}
use Rattle.tree_serializer.proofs.laws.an_escape_emits_its_text.Goals as goal

pub returns : goal.returns
returns c = escaped-same
