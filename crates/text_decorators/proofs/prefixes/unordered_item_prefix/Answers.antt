use Rattle.std.specs.Str.{chars}
use Rattle.text_decorators.proofs.prefixes.unordered_item_prefix.Goals as goal

pub returns : goal.returns
unfolding chars
returns c = c.literal.ensures
