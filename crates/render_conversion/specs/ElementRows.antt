-- Rows of the table of conversion, one for each element of HTML that it names, and for each kind of node.
use Rattle.std.specs.Prelude.{◌≡◌, ℕ, List, [], ◌∷◌, codes, map}
use Rattle.tree_forest.specs.Trees.{node}
use Rattle.tree_forest.specs.Trees as of_trees
use Rattle.tree_forest.specs.Forest.{comment, doctype, document, instruction}
use Rattle.render_values.specs.Values.{Values, none}
use Rattle.render_values.specs.declared.info.RenderInfo.TheVariants as infos
use Rattle.render_conversion.specs.RowTrees.{alone, attribute, beside, holding, html, shown, svg, without_rules, words}

-- elements of these names, without attributes and children
abbrev pub of_names : List (List ℕ) → List Values
of_names names = map (λ (name : List ℕ). without_rules (html name [] of_trees.none)) names

abbrev pub all_are : Values → List (List ℕ) → List Values
all_are vs names = map (λ (name : List ℕ). vs) names

abbrev pub each_is : List (List ℕ) → Values → Type 0
each_is names vs = of_names names ≡ all_are vs names

abbrev pub left_out_row : Type 0
left_out_row =
    each_is
    (codes "head" ∷ codes "script" ∷ codes "style" ∷ codes "link" ∷ codes "meta" ∷ codes "hr" ∷ []) none

abbrev pub script_row : Type 0
script_row = without_rules (html (codes "script") [] (words (codes "x"))) ≡ none

abbrev pub comment_row : Type 0
comment_row =
    without_rules (node (comment (codes "x")) of_trees.none (node (doctype (codes "html") [] []) of_trees.none
    (node (instruction (codes "x") (codes "y")) of_trees.none of_trees.none))) ≡ none

abbrev pub empty_document_row : Type 0
empty_document_row = without_rules (node document of_trees.none of_trees.none) ≡ none

abbrev pub document_row : Type 0
document_row =
    without_rules (node document (words (codes "x")) of_trees.none)
    ≡ holding infos.Container (shown (codes "x")) none

abbrev pub emphasis_row : Type 0
emphasis_row = each_is (codes "em" ∷ codes "i" ∷ codes "ins" ∷ []) (alone infos.Emphasis)

abbrev pub strong_row : Type 0
strong_row = each_is (codes "strong" ∷ codes "b" ∷ []) (alone infos.Strong)

abbrev pub strikeout_row : Type 0
strikeout_row = each_is (codes "s" ∷ codes "del" ∷ []) (alone infos.Strikeout)

abbrev pub code_row : Type 0
code_row = each_is (codes "code" ∷ []) (alone infos.Code)

abbrev pub superscript_row : Type 0
superscript_row =
    without_rules (html (codes "sup") [] (words (codes "2a")))
    ≡ holding infos.Superscript (shown (codes "2a")) none

abbrev pub digits_row : Type 0
digits_row =
    without_rules (html (codes "sup") [] (words (codes "0123456789")))
    ≡ shown (0x2070 ∷ 0xB9 ∷ 0xB2 ∷ 0xB3 ∷ 0x2074 ∷ 0x2075 ∷ 0x2076 ∷ 0x2077 ∷ 0x2078 ∷ 0x2079 ∷ [])

-- the inner one's digits are raised, and are no digits for the outer one
abbrev pub nested_superscript_row : Type 0
nested_superscript_row =
    without_rules (html (codes "sup") [] (html (codes "sup") [] (words (codes "2"))))
    ≡ holding infos.Superscript (shown (0xB2 ∷ [])) none

abbrev pub two_texts_row : Type 0
two_texts_row =
    without_rules (html (codes "sup") [] (beside (words (codes "2")) (html (codes "br") [] of_trees.none)))
    ≡ holding infos.Superscript (holding (infos.Text (codes "2")) none (alone infos.Break)) none

abbrev pub image_row : Type 0
image_row =
    without_rules (html (codes "img") (attribute (codes "src") (codes "s") ∷ attribute (codes "alt") (codes "t") ∷ [])
    of_trees.none) ≡ alone (infos.Image (codes "s") (codes "t"))

abbrev pub image_without_title_row : Type 0
image_without_title_row =
    without_rules (html (codes "img") (attribute (codes "src") (codes "s") ∷ []) of_trees.none)
    ≡ alone (infos.Image (codes "s") [])

abbrev pub image_without_source_row : Type 0
image_without_source_row =
    without_rules (html (codes "img") (attribute (codes "src") [] ∷ attribute (codes "alt") (codes "t") ∷ [])
    of_trees.none) ≡ none

abbrev pub drawing_row : Type 0
drawing_row =
    without_rules (svg (codes "svg") (beside (words (codes "x")) (beside
    (svg (codes "title") (beside (words (codes "a")) (svg (codes "g") (words (codes "b")))))
    (svg (codes "title") (words (codes "c")))))) ≡ alone (infos.Image [] (codes "ab"))

abbrev pub drawing_without_title_row : Type 0
drawing_without_title_row =
    without_rules (svg (codes "svg") (html (codes "title") [] (words (codes "x")))) ≡ none

abbrev pub break_row : Type 0
break_row = each_is (codes "br" ∷ []) (alone infos.Break)

abbrev pub word_break_row : Type 0
word_break_row = each_is (codes "wbr" ∷ []) (shown (0x200B ∷ []))

abbrev pub paragraph_row : Type 0
paragraph_row = each_is (codes "p" ∷ []) (alone infos.Block)

abbrev pub division_row : Type 0
division_row = each_is (codes "div" ∷ []) (alone infos.Division)

abbrev pub headings_row : Type 0
headings_row =
    of_names (codes "h1" ∷ codes "h2" ∷ codes "h3" ∷ codes "h4" ∷ codes "h5" ∷ codes "h6" ∷ codes "h7" ∷ [])
    ≡ alone (infos.Heading 1) ∷ alone (infos.Heading 2) ∷ alone (infos.Heading 3) ∷ alone (infos.Heading 4)
    ∷ alone (infos.Heading 5) ∷ alone (infos.Heading 6) ∷ alone infos.Container ∷ []

abbrev pub quote_row : Type 0
quote_row = each_is (codes "blockquote" ∷ []) (alone infos.Quote)

abbrev pub other_row : Type 0
other_row =
    each_is (codes "span" ∷ codes "section" ∷ codes "article" ∷ codes "body" ∷ codes "u" ∷ [])
    (alone infos.Container)

-- what is outside of a table is no part of one, and what isn't of HTML has no row
abbrev pub lone_cell_row : Type 0
lone_cell_row = each_is (codes "tr" ∷ codes "td" ∷ codes "tbody" ∷ []) (alone infos.Container)

abbrev pub foreign_row : Type 0
foreign_row = without_rules (svg (codes "a") (words (codes "x"))) ≡ holding infos.Container (shown (codes "x")) none
