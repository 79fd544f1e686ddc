use Rattle.std.proofs.Common.{chars, sym, ◌∙◌}
use Rattle.token_grammar.proofs.TagNameLemmas.{lowered_text}
use Rattle.token_grammar.proofs.tags.is_lowered.Goals as goal

pub returns : goal.returns
returns c emitted =
    lowered_text (chars c.args.text.now) c.split_while.result.1.now c.split_while.ensures.rest
    (sym c.is_empty.ensures ∙ emitted)
