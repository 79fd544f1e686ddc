-- What rules declare of an element.
use Rattle.std.specs.Prelude.{◌&&◌, Bool, List, None, Option, Some, bytes_eq, false, filter, filter_map, flat_map, map}
use Rattle.std.specs.Prelude.{option_map, true, ℕ}
use Rattle.text_decorators.specs.declared.colour.Colour.{Colour}
use Rattle.text_pieces.specs.declared.white_space.WhiteSpace.{WhiteSpace}
use Rattle.dom_styles.specs.declared.cascade.Declared.{Declared}
use Rattle.dom_styles.specs.declared.cascade.StyleOrigin.{StyleOrigin}
use Rattle.dom_styles.specs.declared.rules.Display.{Display}
use Rattle.dom_styles.specs.declared.rules.Style.{Style}
use Rattle.dom_styles.specs.declared.rules.Style.TheVariants as styles
use Rattle.dom_styles.specs.declared.rules.StyleDecl.{StyleDecl}
use Rattle.dom_styles.specs.declared.rules.StylePlace.{StylePlace}
use Rattle.dom_styles.specs.declared.rules.StylePlace.TheVariants as places
use Rattle.dom_styles.specs.declared.rules.StyleRule.{StyleRule}
use Rattle.dom_styles.specs.declared.specificity.Specificity.{Specificity}

-- ---- properties

abbrev pub colour_of : Style → Option Colour
colour_of (styles.Colour colour) = Some colour
colour_of (styles.BgColour colour) = None
colour_of (styles.Display display) = None
colour_of (styles.WhiteSpace mode) = None
colour_of (styles.Content text) = None

abbrev pub background_of : Style → Option Colour
background_of (styles.Colour colour) = None
background_of (styles.BgColour colour) = Some colour
background_of (styles.Display display) = None
background_of (styles.WhiteSpace mode) = None
background_of (styles.Content text) = None

abbrev pub display_of : Style → Option Display
display_of (styles.Colour colour) = None
display_of (styles.BgColour colour) = None
display_of (styles.Display display) = Some display
display_of (styles.WhiteSpace mode) = None
display_of (styles.Content text) = None

abbrev pub white_space_of : Style → Option WhiteSpace
white_space_of (styles.Colour colour) = None
white_space_of (styles.BgColour colour) = None
white_space_of (styles.Display display) = None
white_space_of (styles.WhiteSpace mode) = Some mode
white_space_of (styles.Content text) = None

abbrev pub content_of : Style → Option (List ℕ)
content_of (styles.Colour colour) = None
content_of (styles.BgColour colour) = None
content_of (styles.Display display) = None
content_of (styles.WhiteSpace mode) = None
content_of (styles.Content text) = Some text

-- ---- declarations

abbrev pub with_val : {S T : Type 0} → Declared S → T → Declared T
with_val d val = record { importance = d.importance; origin = d.origin; specificity = d.specificity; val = val }

-- those of one property, in order
abbrev pub of_property : {T : Type 0} → (Style → Option T) → List (Declared Style) → List (Declared T)
of_property property ds = filter_map (λ d. option_map (with_val d) (property d.val)) ds

-- that of a selector which is the name of an element
abbrev pub one_name : Specificity
one_name = record { inline = false; id = 0; class = 0; typ = 1 }

abbrev pub declared_by : StyleOrigin → StyleDecl → Declared Style
declared_by origin d = record { importance = d.importance; origin = origin; specificity = one_name; val = d.style }

abbrev pub rule_declares : StyleRule → List (Declared Style)
rule_declares rule = map (declared_by rule.origin) rule.declarations.items

abbrev pub is_same_place : StylePlace → StylePlace → Bool
is_same_place places.Itself places.Itself = true
is_same_place places.Itself places.Before = false
is_same_place places.Itself places.After = false
is_same_place places.Before places.Itself = false
is_same_place places.Before places.Before = true
is_same_place places.Before places.After = false
is_same_place places.After places.Itself = false
is_same_place places.After places.Before = false
is_same_place places.After places.After = true

-- all that rules declare at a place of elements of a name, in order
abbrev pub declared_at : List ℕ → StylePlace → List StyleRule → List (Declared Style)
declared_at name place rules =
    flat_map rule_declares (filter (λ rule. bytes_eq rule.element name && is_same_place rule.place place) rules)
