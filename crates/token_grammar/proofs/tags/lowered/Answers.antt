use Rattle.std.proofs.Common.{◌∙◌}
use Rattle.token_grammar.proofs.TagNameLemmas.{named-trailing}
use Rattle.token_grammar.proofs.tags.lowered.Goals as goal

pub returns : goal.returns
returns c = named-trailing _ _ _ (c.from.ensures ∙ c.in_ok-push_name.ensures) c.in_ok-name.ensures.bytes
