use Rattle.std.proofs.Common.{rules}
use Rattle.token_states.proofs.SectionLemmas.{shifts, text-two}
use Rattle.token_states.proofs.section_turns.after_brackets.Goals as goal

pub returns-in-93 : goal.returns-in-93
returns-in-93 c mode = shifts mode c.args.c c.in-93.is

pub returns-in_default : goal.returns-in_default
returns-in_default c mode = text-two mode c.args.c (search rules) (search rules)
