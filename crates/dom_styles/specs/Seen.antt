-- What contracts see of computed styles.
use Rattle.std.specs.Prelude.{ℕ, List, Option, chars, option_map}
use Rattle.std.specs.Borrow.{Bor}
use Rattle.dom_styles.specs.declared.cascade.Declared.{Declared}
use Rattle.dom_styles.specs.declared.cascade.WithSpec.{WithSpec}
use Rattle.dom_styles.specs.declared.computed.PlaceStyle.{PlaceStyle}
use Rattle.dom_styles.specs.declared.computed.ComputedStyle.{ComputedStyle}
use Rattle.dom_styles.specs.declared.rules.Style.{Style}
use Rattle.dom_styles.specs.declared.rules.StyleRule.{StyleRule}
use Rattle.dom_styles.specs.declared.rules.StylePlace.TheVariants as places
use Rattle.dom_styles.specs.Cascade.{IsCascaded}
use Rattle.dom_styles.specs.Styles.{background_of, colour_of, content_of, declared_at, display_of, of_property}
use Rattle.dom_styles.specs.Styles.{white_space_of, with_val}

-- the declaration that holds
abbrev pub holding : {T : Type 0} → WithSpec T → Option (Declared T)
holding s = s.holds

-- a declaration of a text that is lent
abbrev pub text_declared : Declared (Bor (List ℕ)) → Declared (List ℕ)
text_declared d = with_val d (chars d.val.now)

-- The styles at a place are those of what is declared there.
pub record IsStyled (ds : List (Declared Style)) (s : PlaceStyle) : Type 0 where
  pub colour : IsCascaded (of_property colour_of ds) (holding s.colour)
  pub background : IsCascaded (of_property background_of ds) (holding s.bg_colour)
  pub display : IsCascaded (of_property display_of ds) (holding s.display)
  pub white_space : IsCascaded (of_property white_space_of ds) (holding s.white_space)
  pub content : IsCascaded (of_property content_of ds) (option_map text_declared (holding s.content))

pub record IsComputed (name : List ℕ) (rules : List StyleRule) (s : ComputedStyle) : Type 0 where
  pub itself : IsStyled (declared_at name places.Itself rules) s.itself
  pub before : IsStyled (declared_at name places.Before rules) s.before
  pub after : IsStyled (declared_at name places.After rules) s.after
