-- Rows of the table of conversion: links, lists and tables.
use Rattle.std.specs.Prelude.{◌≡◌, ℕ, List, [], ◌∷◌, ℤ, pos, neg_ℤ, codes}
use Rattle.tree_forest.specs.Trees.{Trees}
use Rattle.tree_forest.specs.Trees as of_trees
use Rattle.html_lexemes.specs.declared.names.Attribute.{Attribute}
use Rattle.render_values.specs.Values.{Values, none}
use Rattle.render_values.specs.declared.info.RenderInfo.TheVariants as infos
use Rattle.render_conversion.specs.RowTrees.{alone, attribute, beside, holding, html, marked, shown, without_rules}
use Rattle.render_conversion.specs.RowTrees.{words}

-- ---- links

abbrev pub target : Attribute
target = attribute (codes "href") (codes "u")

abbrev pub link_row : Type 0
link_row =
    without_rules (html (codes "a") (target ∷ []) (words (codes "x")))
    ≡ holding (infos.Link (codes "u")) (shown (codes "x")) none

abbrev pub link_without_target_row : Type 0
link_without_target_row = without_rules (html (codes "a") [] of_trees.none) ≡ alone infos.Container

-- white space, breaks and what holds nothing don't show
abbrev pub empty_link_row : Type 0
empty_link_row =
    without_rules (html (codes "a") (target ∷ []) (beside (words (0x20 ∷ 0xA0 ∷ []))
    (beside (html (codes "br") [] of_trees.none) (html (codes "p") [] of_trees.none)))) ≡ none

-- the fragment stays
abbrev pub empty_link_with_fragment_row : Type 0
empty_link_with_fragment_row =
    without_rules (html (codes "a") (target ∷ attribute (codes "name") (codes "f") ∷ []) (words (codes " ")))
    ≡ marked (codes "f") infos.Nothing none

-- a child in which a fragment starts is something to show
abbrev pub link_round_fragment_row : Type 0
link_round_fragment_row =
    without_rules (html (codes "a") (target ∷ []) (html (codes "p") (attribute (codes "id") (codes "f") ∷ [])
    of_trees.none)) ≡ holding (infos.Link (codes "u")) (marked (codes "f") infos.Block none) none

abbrev pub picture : List ℕ → Trees
picture title =
    html (codes "img") (attribute (codes "src") (codes "s") ∷ attribute (codes "alt") title ∷ []) of_trees.none

abbrev pub link_round_image_row : Type 0
link_round_image_row =
    without_rules (html (codes "a") (target ∷ []) (picture (codes "t")))
    ≡ holding (infos.Link (codes "u")) (alone (infos.Image (codes "s") (codes "t"))) none

abbrev pub link_round_image_without_title_row : Type 0
link_round_image_without_title_row =
    without_rules (html (codes "a") (target ∷ []) (picture (codes " "))) ≡ none

-- ---- fragments

-- of a link with both it is the `id`
abbrev pub link_with_two_names_row : Type 0
link_with_two_names_row =
    without_rules (html (codes "a") (attribute (codes "name") (codes "g") ∷ attribute (codes "id") (codes "f") ∷ [])
    of_trees.none) ≡ marked (codes "f") infos.Container none

abbrev pub name_of_another_row : Type 0
name_of_another_row =
    without_rules (html (codes "p") (attribute (codes "name") (codes "g") ∷ []) of_trees.none) ≡ alone infos.Block

abbrev pub fragment_of_nothing_row : Type 0
fragment_of_nothing_row =
    without_rules (html (codes "hr") (attribute (codes "id") (codes "f") ∷ []) of_trees.none)
    ≡ marked (codes "f") infos.Nothing none

-- ---- lists

abbrev pub item : Trees
item = html (codes "li") [] of_trees.none

-- an empty `li` is an item
abbrev pub bullets_row : Type 0
bullets_row =
    without_rules (html (codes "ul") [] (beside (words (codes " ")) item))
    ≡ holding infos.Bullets (alone infos.Container) none

-- of other children those that show something
abbrev pub other_items_row : Type 0
other_items_row =
    without_rules (html (codes "ul") [] (beside (html (codes "p") [] of_trees.none)
    (beside (html (codes "hr") (attribute (codes "id") (codes "f") ∷ []) of_trees.none)
    (beside (html (codes "b") [] (words (codes "x"))) (words (codes "y"))))))
    ≡ holding infos.Bullets (holding infos.Strong (shown (codes "x")) (shown (codes "y"))) none

abbrev pub list_of_nothing_row : Type 0
list_of_nothing_row =
    without_rules (html (codes "ul") [] (beside (words (codes " ")) (html (codes "p") [] of_trees.none))) ≡ none

abbrev pub list_of_nothing_with_fragment_row : Type 0
list_of_nothing_with_fragment_row =
    without_rules (html (codes "ol") (attribute (codes "id") (codes "f") ∷ []) of_trees.none)
    ≡ marked (codes "f") infos.Nothing none

abbrev pub numbered : List Attribute → Values
numbered attributes = without_rules (html (codes "ol") attributes item)

abbrev pub starting : List ℕ → Values
starting start = numbered (attribute (codes "start") start ∷ [])

abbrev pub numbers_from : ℤ → Values
numbers_from start = holding (infos.Numbers start) (alone infos.Container) none

abbrev pub start_row : Type 0
start_row = starting (codes "9") ≡ numbers_from (pos 9)

abbrev pub no_start_row : Type 0
no_start_row = numbered [] ≡ numbers_from (pos 1)

abbrev pub signed_start_row : Type 0
signed_start_row = starting (codes "+007") ≡ numbers_from (pos 7)

abbrev pub least_start_row : Type 0
least_start_row = starting (codes "-9223372036854775808") ≡ numbers_from (neg_ℤ (pos 9223372036854775808))

abbrev pub greater_start_row : Type 0
greater_start_row = starting (codes "9223372036854775808") ≡ numbers_from (pos 1)

abbrev pub no_number_row : Type 0
no_number_row = starting (codes "9x") ≡ numbers_from (pos 1)

abbrev pub descriptions_row : Type 0
descriptions_row =
    without_rules (html (codes "dl") [] (beside (html (codes "dt") [] (words (codes "a")))
    (html (codes "dd") [] (words (codes "b")))))
    ≡ holding infos.Descriptions (holding infos.Term (shown (codes "a"))
    (holding infos.Details (shown (codes "b")) none)) none

-- ---- tables

abbrev pub row_with : Trees → Trees
row_with cells = html (codes "tr") [] cells

abbrev pub table_with : Trees → Values
table_with rows = without_rules (html (codes "table") [] rows)

abbrev pub in_row : Values → Values → Values
in_row cells rest = holding infos.TableGroup (holding infos.TableRow cells none) rest

-- a cell's spans; what is no part of the table is left out, with its fragment
abbrev pub table_row : Type 0
table_row =
    table_with (beside (html (codes "caption") (attribute (codes "id") (codes "f") ∷ []) (words (codes "c")))
    (beside (html (codes "thead") [] (row_with (html (codes "th") [] of_trees.none)))
    (beside (words (codes "x")) (beside (html (codes "tbody") [] (row_with (beside (words (codes "y"))
    (html (codes "td") (attribute (codes "colspan") (codes "+3") ∷ attribute (codes "rowspan") (codes "0") ∷ [])
    (words (codes "z"))))))
    (html (codes "tfoot") [] (row_with (html (codes "td") [] (words (codes "v")))))))))
    ≡ holding infos.Table
    (in_row (alone (infos.TableCell 1 1)) (in_row (holding (infos.TableCell 3 1) (shown (codes "z")) none) none)) none

abbrev pub span_too_great_row : Type 0
span_too_great_row =
    table_with (html (codes "tbody") [] (row_with (html (codes "td")
    (attribute (codes "colspan") (codes "18446744073709551616")
    ∷ attribute (codes "rowspan") (codes "18446744073709551615") ∷ []) of_trees.none)))
    ≡ holding infos.Table (in_row (alone (infos.TableCell 1 18446744073709551615)) none) none

abbrev pub table_without_cells_row : Type 0
table_without_cells_row =
    table_with (html (codes "tbody") [] (row_with (html (codes "p") [] (words (codes "x"))))) ≡ none

-- a table is never shallow-empty
abbrev pub link_round_table_row : Type 0
link_round_table_row =
    without_rules (html (codes "a") (target ∷ []) (html (codes "table") []
    (html (codes "tbody") [] (row_with (html (codes "td") [] of_trees.none)))))
    ≡ holding (infos.Link (codes "u")) (holding infos.Table (in_row (alone (infos.TableCell 1 1)) none) none) none
