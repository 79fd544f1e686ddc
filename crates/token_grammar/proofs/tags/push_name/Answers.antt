use Rattle.std.proofs.Common.{rules}
use Rattle.token_grammar.proofs.TagNameLemmas.{named-more, named-all}
use Rattle.token_grammar.proofs.tags.push_name.Goals as goal

pub characters-init : goal.characters-init
characters-init c = record { text = search rules; same = search rules }

pub characters-preserved : goal.characters-preserved
characters-preserved c =
    named-more c.characters.name _ _ _ _ c.in-Some.c _ c.characters.invariant c.in-Some.ensures.steps.0
    c.name_character.ensures c.in_ok-push.ensures.bytes

pub returns : goal.returns
returns c = named-all _ _ _ c.characters.invariant c.in-None.ensures.steps.0.0
