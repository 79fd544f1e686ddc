use Rattle.std.proofs.Common.{sym}
use Rattle.text_preserved.proofs.CharacterLemmas.{visible_is_solid}
use Rattle.text_preserved.proofs.kinds.kind_of.Goals as goal

pub returns-then-is_visible_ascii : goal.returns-then-is_visible_ascii
returns-then-is_visible_ascii c = let is = c.is_visible_ascii.ensures.0 c.if-is_visible_ascii.true in
    sym (visible_is_solid c.args.c is.0 is.1 c.args.width c.args.wraps)
