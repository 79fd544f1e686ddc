use Rattle.std.proofs.Common.{◌∙◌, chars}
use Rattle.token_grammar.proofs.TagNameLemmas.{named-from_first}
use Rattle.token_grammar.proofs.tags.name_from.Goals as goal

pub returns : goal.returns
returns c =
    named-from_first _ _ _ (chars c.args.text.now) c.args.first _ c.ranges.first.0 c.name_character.ensures
    c.new-name.ensures.bytes c.in_ok-push.ensures.bytes (c.from.ensures ∙ c.in_ok-push_name.ensures)
