-- The values of a page.
use Rattle.std.specs.Prelude.{ℕ, ◌&&◌, Bool, not, if◌then◌else◌, List, [], ◌∷◌, Option, Some}
use Rattle.std.specs.Char.{is_whitespace}
use Rattle.std.specs.List.{list_all}
use Rattle.tree_forest.specs.Trees.{Trees, node, trees}
use Rattle.tree_forest.specs.Trees as of_trees
use Rattle.tree_forest.specs.Forest.{Forest, Kind}
use Rattle.dom_styles.specs.declared.rules.StyleRule.{StyleRule}
use Rattle.render_values.specs.Endings.{ended, ending}
use Rattle.render_values.specs.Values.{Values, joined, none}
use Rattle.render_values.specs.declared.style.RenderStyle.{RenderStyle}
use Rattle.render_conversion.specs.Heads.{head_of}
use Rattle.render_conversion.specs.Inner.{children_in, closing, opening, text_value}
use Rattle.render_conversion.specs.Meanings.{meaning}
use Rattle.render_conversion.specs.Places.{is_guarded, is_shown}
use Rattle.render_conversion.specs.Styles.{Part, Parts, Styles, parts_of, styles_of}
use Rattle.render_conversion.specs.declared.inner.Inner.{Inner}
use Rattle.render_conversion.specs.declared.inner.Inner.TheVariants.{Captioned, Children, Quoted, Spaced, TableParts}
use Rattle.render_conversion.specs.declared.kinds.Meaning.{Meaning}
use Rattle.render_conversion.specs.declared.options.ConversionOptions.{ConversionOptions}
use Rattle.render_conversion.specs.declared.place.Place.{Place}
use Rattle.render_conversion.specs.declared.place.Place.TheVariants.{Flow, Items}

-- a text that a rule puts before or after an element's children; in a list it is an item where it shows something
abbrev pub content_by : Place → RenderStyle → Option (List ℕ) → Values
content_by Flow look (Some cs) = text_value look cs
content_by Items look (Some cs) = if list_all is_whitespace cs then none else text_value look cs
content_by _ look text = none

abbrev pub content : Place → Part → Values
content place part = if part.hidden then none else content_by place part.look part.content

abbrev pub around : Place → Parts → (inside : Values) → Values
around place style inside = joined (content place style.before) (joined inside (content place style.after))

-- what stands in a value, by its style
abbrev pub inside_of : Inner → Parts → (at : Place → Values) → Values
inside_of (Children place) style at = around place style (at place)
inside_of Quoted style at =
    joined (opening Quoted) (joined (around Flow style (at Flow)) (closing Quoted))
inside_of Spaced style at =
    joined (opening Spaced) (joined (around Flow style (at Flow)) (closing Spaced))
inside_of TableParts style at = children_in TableParts at
inside_of Captioned style at = children_in Captioned at

-- the value of a node by its meaning, before others; `at` has those of its children at a place
abbrev pub valued : Meaning → (guarded : Bool) → Kind → Parts → (at : Place → Values) → (rest : Values) → Values
valued m guarded kind style at rest =
    ended
    (ending m.condition guarded (head_of m.info style.itself.look kind) (inside_of m.inner style at))
    (head_of m.info style.itself.look kind) (inside_of m.inner style at) rest

abbrev pub value_before : ConversionOptions → Place → Meaning → Kind → Parts → (at : Place → Values) → (rest : Values)
    → Values
value_before o place m kind style at rest =
    if is_shown o place kind && not style.itself.hidden
    then valued m (is_guarded place kind) kind style at rest
    else rest

-- the values of nodes that stand at a place
abbrev pub values : ConversionOptions → Styles → Place → Trees → Values
values o styles place of_trees.none = none
values o styles place (node kind kids rest) =
    value_before o place (meaning o.pages place kind kids) kind (parts_of styles kind)
    (λ inner. values o styles inner kids) (values o styles place rest)

-- those of a page's document
abbrev pub document_values : ConversionOptions → List StyleRule → Forest → Values
document_values o rules f = values o (styles_of rules) Flow (trees f (0 ∷ []))
