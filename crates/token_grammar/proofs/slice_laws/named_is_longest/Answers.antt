use Rattle.token_grammar.proofs.LongestNames.{named_longest}
use Rattle.token_grammar.proofs.slice_laws.named_is_longest.Goals as goal

pub returns : goal.returns
returns c = named_longest
