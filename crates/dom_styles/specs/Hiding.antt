-- Which elements rules hide (CSS 2.2, 9.2.4, `display: none`).
use Rattle.std.specs.Prelude.{ℕ, Bool, List, is_some}
use Rattle.dom_styles.specs.Cascade.{cascade}
use Rattle.dom_styles.specs.Styles.{declared_at, display_of, of_property}
use Rattle.dom_styles.specs.declared.rules.StylePlace.TheVariants.{Itself}
use Rattle.dom_styles.specs.declared.rules.StyleRule.{StyleRule}

-- none is the one value that display is given
abbrev pub is_hidden : List ℕ → List StyleRule → Bool
is_hidden name rules = is_some (cascade (of_property display_of (declared_at name Itself rules)))
