-- What rules of style say of elements: how they look, whether they are hidden, and which texts stand before and after
-- their children. Each is the declaration that holds in the cascade (CSS 2.2, 6.4).
use Rattle.std.specs.Prelude.{ℕ, Bool, false, List, Option, None, Some, is_some, option_map}
use Rattle.tree_forest.specs.Forest.{Kind}
use Rattle.html_lexemes.specs.declared.names.QualName.{QualName}
use Rattle.html_render_dom.specs.Asking.{name_of_kind}
use Rattle.dom_styles.specs.Cascade.{cascade}
use Rattle.dom_styles.specs.Styles.{background_of, colour_of, content_of, declared_at, display_of, of_property}
use Rattle.dom_styles.specs.Styles.{white_space_of}
use Rattle.dom_styles.specs.declared.rules.Style.{Style}
use Rattle.dom_styles.specs.declared.rules.StylePlace.{StylePlace}
use Rattle.dom_styles.specs.declared.rules.StylePlace.TheVariants.{After, Before, Itself}
use Rattle.dom_styles.specs.declared.rules.StyleRule.{StyleRule}
use Rattle.render_values.specs.Looks.{plain}
use Rattle.render_values.specs.declared.style.RenderStyle.{RenderStyle}

-- of a place of an element: the element itself, what stands before its children, or what stands after them
pub record Part : Type 0 where
  pub look : RenderStyle
  pub hidden : Bool
  pub content : Option (List ℕ)

pub record Parts : Type 0 where
  pub itself : Part
  pub before : Part
  pub after : Part

-- of elements by their local names
abbrev pub Styles : Type 0
Styles = List ℕ → Parts

abbrev pub unset : Part
unset = record { look = plain; hidden = false; content = None }

abbrev pub all_unset : Parts
all_unset = record { itself = unset; before = unset; after = unset }

-- what is declared of a property at a place of elements of a name
abbrev pub declared : {T : Type 0} → (Style → Option T) → StylePlace → List StyleRule → (name : List ℕ) → Option T
declared property place rules name =
    option_map (λ d. d.val) (cascade (of_property property (declared_at name place rules)))

abbrev pub look_at : StylePlace → List StyleRule → (name : List ℕ) → RenderStyle
look_at place rules name = record {
  colour = declared colour_of place rules name;
  background = declared background_of place rules name;
  white_space = declared white_space_of place rules name;
}

-- none is the one value that display is given
abbrev pub part_at : StylePlace → List StyleRule → (name : List ℕ) → Part
part_at place rules name = record {
  look = look_at place rules name;
  hidden = is_some (declared display_of place rules name);
  content = declared content_of place rules name;
}

abbrev pub styles_of : List StyleRule → Styles
styles_of rules name = record {
  itself = part_at Itself rules name;
  before = part_at Before rules name;
  after = part_at After rules name;
}

-- a node that is no element has no style
abbrev pub parts_by : Styles → Option QualName → Parts
parts_by styles None = all_unset
parts_by styles (Some name) = styles name.local

abbrev pub parts_of : Styles → Kind → Parts
parts_of styles kind = parts_by styles (name_of_kind kind)
