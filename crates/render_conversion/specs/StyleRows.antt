-- Rows of the table of conversion: what rules of style say.
use Rattle.std.specs.Prelude.{◌≡◌, ℕ, true, List, [], ◌∷◌, None, Some, bytes_eq, codes, if◌then◌else◌, pos}
use Rattle.tree_forest.specs.Trees as of_trees
use Rattle.text_decorators.specs.declared.colour.Colour.{Colour}
use Rattle.text_pieces.specs.declared.white_space.WhiteSpace.TheVariants.{Normal, Pre}
use Rattle.render_values.specs.Looks.{plain}
use Rattle.render_values.specs.Values.{Values, none, value}
use Rattle.render_values.specs.declared.info.RenderInfo.{RenderInfo}
use Rattle.render_values.specs.declared.info.RenderInfo.TheVariants as infos
use Rattle.render_values.specs.declared.style.RenderStyle.{RenderStyle}
use Rattle.render_conversion.specs.ListRows.{target}
use Rattle.render_conversion.specs.RowTrees.{alone, attribute, beside, by_rules, holding, html, shown, without_rules}
use Rattle.render_conversion.specs.RowTrees.{words}
use Rattle.render_conversion.specs.Styles.{Part, Parts, Styles, all_unset, unset}

-- rules for elements of one name
abbrev pub of_one : (name : List ℕ) → Parts → Styles
of_one name parts other = if bytes_eq other name then parts else all_unset

abbrev pub looking : RenderStyle → RenderInfo → (inside : Values) → Values
looking style info inside = value (record { info = info; style = style; fragment = None }) inside none

abbrev pub saying : List ℕ → Part
saying cs = record unset { content = Some cs }

abbrev pub gone : Part
gone = record unset { hidden = true }

abbrev pub green : Colour
green = record { r = 0; g = 255; b = 0 }

-- marks around emphasis
abbrev pub marks : Styles
marks = of_one (codes "em") (record all_unset { before = saying (codes "*"); after = saying (codes "*") })

abbrev pub preformatted_row : Type 0
preformatted_row =
    without_rules (html (codes "pre") [] of_trees.none)
    ≡ looking (record plain { white_space = Some Pre }) infos.Preformatted none

abbrev pub preformatted_as_said_row : Type 0
preformatted_as_said_row =
    by_rules (of_one (codes "pre") (record all_unset {
      itself = record unset { look = record plain { white_space = Some Normal } };
    })) (html (codes "pre") [] of_trees.none)
    ≡ looking (record plain { white_space = Some Normal }) infos.Preformatted none

abbrev pub coloured_row : Type 0
coloured_row =
    by_rules (of_one (codes "p") (record all_unset {
      itself = record unset { look = record plain { colour = Some green; background = Some green } };
    })) (html (codes "p") [] (words (codes "x")))
    ≡ looking (record plain { colour = Some green; background = Some green }) infos.Block (shown (codes "x"))

-- raised digits look as the superscript does
abbrev pub coloured_digits_row : Type 0
coloured_digits_row =
    by_rules (of_one (codes "sup") (record all_unset {
      itself = record unset { look = record plain { colour = Some green } };
    })) (html (codes "sup") [] (words (codes "2")))
    ≡ looking (record plain { colour = Some green }) (infos.Text (0xB2 ∷ [])) none

abbrev pub marks_row : Type 0
marks_row =
    by_rules marks (html (codes "em") [] (words (codes "x")))
    ≡ holding infos.Emphasis (holding (infos.Text (codes "*")) none
    (holding (infos.Text (codes "x")) none (shown (codes "*")))) none

-- marks show in a link that is empty without them
abbrev pub marks_in_link_row : Type 0
marks_in_link_row =
    by_rules marks (html (codes "a") (target ∷ []) (html (codes "em") [] of_trees.none))
    ≡ holding (infos.Link (codes "u")) (holding infos.Emphasis
    (holding (infos.Text (codes "*")) none (shown (codes "*"))) none) none

-- a text by a rule looks as that rule says
abbrev pub coloured_mark_row : Type 0
coloured_mark_row =
    by_rules (of_one (codes "p") (record all_unset {
      before = record (saying (codes "-")) { look = record plain { colour = Some green } };
    })) (html (codes "p") [] of_trees.none)
    ≡ holding infos.Block (looking (record plain { colour = Some green }) (infos.Text (codes "-")) none) none

-- what is hidden is gone, its fragment too
abbrev pub hidden_row : Type 0
hidden_row =
    by_rules (of_one (codes "b") (record all_unset { itself = gone }))
    (html (codes "b") (attribute (codes "id") (codes "f") ∷ []) (words (codes "x"))) ≡ none

abbrev pub hidden_item_row : Type 0
hidden_item_row =
    by_rules (of_one (codes "li") (record all_unset { itself = gone }))
    (html (codes "ul") [] (beside (html (codes "li") [] (words (codes "x"))) (words (codes "y"))))
    ≡ holding infos.Bullets (shown (codes "y")) none

abbrev pub hidden_mark_row : Type 0
hidden_mark_row =
    by_rules (of_one (codes "p") (record all_unset { before = record (saying (codes "-")) { hidden = true } }))
    (html (codes "p") [] of_trees.none) ≡ alone infos.Block

abbrev pub mark_in_item_row : Type 0
mark_in_item_row =
    by_rules (of_one (codes "li") (record all_unset { after = saying (codes "!") }))
    (html (codes "ol") [] (html (codes "li") [] (words (codes "x"))))
    ≡ holding (infos.Numbers (pos 1)) (holding infos.Container
    (holding (infos.Text (codes "x")) none (shown (codes "!"))) none) none

-- in a list a text by a rule is an item, where it shows something
abbrev pub mark_in_list_row : Type 0
mark_in_list_row =
    by_rules (of_one (codes "ul") (record all_unset { before = saying (codes " "); after = saying (codes "!") }))
    (html (codes "ul") [] of_trees.none) ≡ holding infos.Bullets (shown (codes "!")) none

-- on what holds no values such a rule does nothing
abbrev pub mark_of_break_row : Type 0
mark_of_break_row =
    by_rules (of_one (codes "br") (record all_unset { before = saying (codes "!") }))
    (html (codes "br") [] of_trees.none) ≡ alone infos.Break
