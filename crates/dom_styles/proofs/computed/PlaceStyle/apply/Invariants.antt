use Rattle.std.proofs.Common.{List, ◌++◌, map, take}
use Rattle.dom_styles.specs.declared.cascade.Declared.{Declared}
use Rattle.dom_styles.specs.declared.rules.Style.{Style}
use Rattle.dom_styles.specs.Styles.{declared_by}
use Rattle.dom_styles.specs.Seen.{IsStyled}
use Rattle.dom_styles.proofs.computed.PlaceStyle.apply.Given as goal

abbrev pub invariant-loop-declaration : goal.invariant-loop-declaration
invariant-loop-declaration l = (ds : List (Declared Style)) → IsStyled ds l.fn.self
    → IsStyled (ds ++ map (declared_by l.rule.origin) (take l.declaration-index l.declaration-items)) l.self
