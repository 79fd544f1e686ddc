use Rattle.token_grammar.proofs.TagNameLemmas.{slash_tested}
use Rattle.token_grammar.proofs.tags.ends_with_slash.Goals as goal

pub returns : goal.returns
returns c = slash_tested c.args.text.now c.ends_with.result c.utf8.text c.ends_with.ensures.cases
