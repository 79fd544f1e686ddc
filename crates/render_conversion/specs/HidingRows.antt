-- Rows of the table of conversion: elements that hide themselves, where these are left out.
use Rattle.std.specs.Prelude.{◌≡◌, ℕ, true, List, [], ◌∷◌, codes, map}
use Rattle.tree_forest.specs.Trees.{Trees}
use Rattle.html_lexemes.specs.declared.names.Attribute.{Attribute}
use Rattle.render_values.specs.Values.{Values, none}
use Rattle.render_values.specs.declared.info.RenderInfo.TheVariants as infos
use Rattle.render_conversion.specs.Conversion.{values}
use Rattle.render_conversion.specs.Options.{default_conversion}
use Rattle.render_conversion.specs.RowTrees.{attribute, beside, holding, html, no_rules, shown, without_rules, words}
use Rattle.render_conversion.specs.declared.place.Place.TheVariants.{Flow}

abbrev pub without_hidden : Trees → Values
without_hidden ts = values (record default_conversion { skip_hidden = true }) no_rules Flow ts

-- paragraphs with an attribute of each of these values
abbrev pub paragraph_with : (name value : List ℕ) → Trees
paragraph_with name value = html (codes "p") (attribute name value ∷ []) (words (codes "x"))

abbrev pub paragraphs_with : (name : List ℕ) → List (List ℕ) → List Values
paragraphs_with name each = map (λ (value : List ℕ). without_hidden (paragraph_with name value)) each

abbrev pub all_left_out : List (List ℕ) → List Values
all_left_out each = map (λ (value : List ℕ). none) each

abbrev pub all_shown : List (List ℕ) → List Values
all_shown each = map (λ (value : List ℕ). holding infos.Block (shown (codes "x")) none) each

abbrev pub are_left_out : (name : List ℕ) → List (List ℕ) → Type 0
are_left_out name each = paragraphs_with name each ≡ all_left_out each

abbrev pub are_shown : (name : List ℕ) → List (List ℕ) → Type 0
are_shown name each = paragraphs_with name each ≡ all_shown each

abbrev pub hidden_attribute_row : Type 0
hidden_attribute_row =
    are_left_out (codes "hidden") ([] ∷ codes "hidden" ∷ codes "false" ∷ codes "until-found " ∷ codes "untilfound" ∷ [])

abbrev pub until_found_row : Type 0
until_found_row = are_shown (codes "hidden") (codes "until-found" ∷ codes "Until-FOUND" ∷ [])

abbrev pub display_none_row : Type 0
display_none_row =
    are_left_out (codes "style")
    (codes "display:none" ∷ codes " Display : NONE " ∷ codes "display:none;" ∷ codes "color:red;display:none"
    ∷ codes "display:none;display:block" ∷ codes ";;display: none;;" ∷ codes ":;display:none"
    ∷ (9 ∷ 10 ∷ 12 ∷ 13 ∷ codes "display:none") ∷ [])

abbrev pub important_row : Type 0
important_row =
    are_left_out (codes "style")
    (codes "display:none!important" ∷ codes "display:none ! IMPORTANT ;" ∷ codes "x:y;display: none !important" ∷ [])

abbrev pub other_style_row : Type 0
other_style_row =
    are_shown (codes "style")
    ([] ∷ codes "display:block" ∷ codes "display none" ∷ codes "display::none" ∷ codes "display:none:"
    ∷ codes "display:" ∷ codes "display:none!" ∷ codes "display:none important" ∷ codes "display:none!important!"
    ∷ codes "display:none inline" ∷ codes "x-display:none" ∷ codes "displays:none" ∷ codes "visibility:hidden"
    ∷ codes "/**/display:none" ∷ codes "dis;play:none" ∷ [])

abbrev pub other_attribute_row : Type 0
other_attribute_row = are_shown (codes "class") (codes "hidden" ∷ codes "display:none" ∷ [])

-- a page whose body waits for a script is shown
abbrev pub hidden : List Attribute
hidden = attribute (codes "hidden") [] ∷ []

abbrev pub hidden_body_row : Type 0
hidden_body_row =
    without_hidden (html (codes "html") hidden (html (codes "body") hidden (words (codes "x"))))
    ≡ holding infos.Container (holding infos.Container (shown (codes "x")) none) none

-- with its fragment, and whatever stands in it
abbrev pub hidden_fragment_row : Type 0
hidden_fragment_row =
    without_hidden (beside (html (codes "div") (attribute (codes "id") (codes "f") ∷ hidden)
    (html (codes "p") [] (words (codes "x")))) (words (codes "y"))) ≡ shown (codes "y")

abbrev pub hidden_list_item_row : Type 0
hidden_list_item_row =
    without_hidden (html (codes "ul") [] (beside (html (codes "li") hidden (words (codes "x")))
    (html (codes "li") [] (words (codes "y")))))
    ≡ holding infos.Bullets (holding infos.Container (shown (codes "y")) none) none

-- a table whose cells are hidden has none
abbrev pub hidden_cell_row : Type 0
hidden_cell_row =
    without_hidden (html (codes "table") [] (html (codes "tbody") [] (html (codes "tr") []
    (html (codes "td") hidden (words (codes "x")))))) ≡ none

-- where nothing is asked, an element that hides itself is as any other
abbrev pub shown_hidden_row : Type 0
shown_hidden_row =
    without_rules (paragraph_with (codes "style") (codes "display:none"))
    ≡ holding infos.Block (shown (codes "x")) none
