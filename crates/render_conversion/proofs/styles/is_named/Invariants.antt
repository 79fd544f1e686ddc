use Rattle.std.proofs.Common.{◌≡◌, length}
use Rattle.dom_styles.specs.Styles.{declared_at}
use Rattle.dom_styles.specs.declared.rules.StylePlace.{StylePlace}
use Rattle.render_conversion.proofs.styles.is_named.Given as goal

-- what was passed declares nothing
abbrev pub invariant-loop-rule : goal.invariant-loop-rule
invariant-loop-rule l = (place : StylePlace) → declared_at l.name place l.rest ≡ declared_at l.name place l.rules

abbrev pub decreases-loop-rule : goal.decreases-loop-rule
decreases-loop-rule l = length l.rest
