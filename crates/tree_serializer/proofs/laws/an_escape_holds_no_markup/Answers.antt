use Rattle.tree_serializer.proofs.EscapeLaws.{escaped-no_greater, escaped-no_less, escaped-no_quote}
use Rattle.tree_serializer.proofs.laws.an_escape_holds_no_markup.Goals as goal

pub returns : goal.returns
returns c = record { less = escaped-no_less; greater = escaped-no_greater; quote = escaped-no_quote }
