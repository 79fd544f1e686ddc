use Rattle.std.proofs.Common.{take}
use Rattle.dom_styles.specs.Seen.{IsComputed}
use Rattle.dom_styles.proofs.computed.computed_style.Given as goal

abbrev pub invariant-loop-rule : goal.invariant-loop-rule
invariant-loop-rule l = IsComputed l.name (take l.rule-index l.rules) l.style
