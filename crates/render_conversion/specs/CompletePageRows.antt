-- Rows of the table of conversion that complete pages have before the others.
use Rattle.std.specs.Prelude.{◌≡◌, ℕ, List, [], ◌∷◌, Some, codes, map}
use Rattle.tree_forest.specs.Trees.{Trees}
use Rattle.tree_forest.specs.Trees as of_trees
use Rattle.render_values.specs.Looks.{plain}
use Rattle.render_values.specs.Values.{Values, none}
use Rattle.render_values.specs.declared.info.RenderInfo.TheVariants as infos
use Rattle.render_conversion.specs.Conversion.{values}
use Rattle.render_conversion.specs.ListRows.{target}
use Rattle.render_conversion.specs.Options.{default_conversion}
use Rattle.render_conversion.specs.RowTrees.{alone, attribute, beside, holding, html, marked, no_rules, shown, svg}
use Rattle.render_conversion.specs.RowTrees.{words}
use Rattle.render_conversion.specs.StyleRows.{looking, of_one, saying}
use Rattle.render_conversion.specs.Styles.{Styles, all_unset}
use Rattle.text_pieces.specs.declared.white_space.WhiteSpace.TheVariants.{Pre}
use Rattle.render_conversion.specs.declared.options.Pages.TheVariants.{Complete}
use Rattle.render_conversion.specs.declared.place.Place.TheVariants.{Flow}

abbrev pub completed_by : Styles → Trees → Values
completed_by styles ts = values (record default_conversion { pages = Complete }) styles Flow ts

abbrev pub completed : Trees → Values
completed ts = completed_by no_rules ts

-- elements of these names with a text in them
abbrev pub each_has : List (List ℕ) → Values → Type 0
each_has names vs =
    map (λ (name : List ℕ). completed (html name [] (words (codes "x")))) names ≡ map (λ (name : List ℕ). vs) names

abbrev pub unread_row : Type 0
unread_row =
    each_has
    (codes "iframe" ∷ codes "noembed" ∷ codes "noframes" ∷ codes "datalist" ∷ codes "title" ∷ codes "script"
    ∷ codes "dialog" ∷ []) none

abbrev pub open_dialog_row : Type 0
open_dialog_row =
    completed (html (codes "dialog") (attribute (codes "open") [] ∷ []) (words (codes "x")))
    ≡ holding infos.Division (shown (codes "x")) none

-- in a list a rule is no item
abbrev pub rule_row : Type 0
rule_row =
    completed (beside (html (codes "hr") [] of_trees.none) (html (codes "ul") [] (html (codes "hr") [] of_trees.none)))
    ≡ alone infos.Rule

abbrev pub blocks_row : Type 0
blocks_row =
    each_has
    (codes "address" ∷ codes "article" ∷ codes "aside" ∷ codes "center" ∷ codes "details" ∷ codes "fieldset"
    ∷ codes "figcaption" ∷ codes "figure" ∷ codes "footer" ∷ codes "form" ∷ codes "header" ∷ codes "hgroup"
    ∷ codes "legend" ∷ codes "main" ∷ codes "nav" ∷ codes "optgroup" ∷ codes "option" ∷ codes "search"
    ∷ codes "section" ∷ codes "summary" ∷ []) (holding infos.Division (shown (codes "x")) none)

abbrev pub menus_row : Type 0
menus_row =
    map (λ (name : List ℕ). completed (html name [] (html (codes "li") [] of_trees.none)))
    (codes "menu" ∷ codes "dir" ∷ [])
    ≡ holding infos.Bullets (alone infos.Container) none ∷ holding infos.Bullets (alone infos.Container) none ∷ []

abbrev pub listings_row : Type 0
listings_row =
    each_has (codes "listing" ∷ codes "plaintext" ∷ codes "xmp" ∷ [])
    (looking (record plain { white_space = Some Pre }) infos.Preformatted (shown (codes "x")))

abbrev pub between : (opening : List ℕ) → (inside : Values) → Values
between opening inside = holding (infos.Text opening) none inside

-- texts that rules put there stand within the quotation marks
abbrev pub quotation_row : Type 0
quotation_row =
    completed_by (of_one (codes "q") (record all_unset { before = saying (codes "*") }))
    (html (codes "q") [] (words (codes "x")))
    ≡ holding infos.Container (between (0x201C ∷ []) (between (codes "*") (between (codes "x")
    (shown (0x201D ∷ []))))) none

-- ---- tables

abbrev pub row_of_text : List ℕ → Trees
row_of_text cs = html (codes "tr") [] (html (codes "td") [] (words cs))

abbrev pub laid_row : List ℕ → (rest : Values) → Values
laid_row cs rest =
    holding infos.TableGroup (holding infos.TableRow (holding (infos.TableCell 1 1) (shown cs) none) none) rest

-- the rows of a foot come last
abbrev pub foot_row : Type 0
foot_row =
    completed (html (codes "table") [] (beside (html (codes "tfoot") [] (row_of_text (codes "z")))
    (html (codes "tbody") [] (row_of_text (codes "x")))))
    ≡ holding infos.Table (laid_row (codes "x") (laid_row (codes "z") none)) none

-- captions come first, in order; the fragment starts before them
abbrev pub captions_row : Type 0
captions_row =
    completed (html (codes "table") (attribute (codes "id") (codes "f") ∷ [])
    (beside (html (codes "tbody") [] (row_of_text (codes "x"))) (beside (html (codes "caption") [] (words (codes "b")))
    (html (codes "caption") [] (words (codes "c"))))))
    ≡ marked (codes "f") infos.Container (holding infos.Block (shown (codes "b")) (holding infos.Block
    (shown (codes "c")) (holding infos.Table (laid_row (codes "x") none) none)))

-- a table without a cell leaves its captions
abbrev pub caption_alone_row : Type 0
caption_alone_row =
    completed (html (codes "table") [] (html (codes "caption") [] (words (codes "b"))))
    ≡ holding infos.Container (holding infos.Block (shown (codes "b")) none) none

-- ---- drawings

abbrev pub undrawn_row : Type 0
undrawn_row =
    map (λ (name : List ℕ). completed (svg name (words (codes "x"))))
    (codes "defs" ∷ codes "desc" ∷ codes "metadata" ∷ codes "script" ∷ codes "style" ∷ codes "symbol" ∷ codes "title"
    ∷ []) ≡ none ∷ none ∷ none ∷ none ∷ none ∷ none ∷ none ∷ []

abbrev pub drawn_texts_row : Type 0
drawn_texts_row =
    completed (svg (codes "svg") (beside (svg (codes "text") (words (codes "x"))) (svg (codes "g")
    (svg (codes "foreignobject") (words (codes "y"))))))
    ≡ holding infos.Container (holding infos.Container (between (codes " ") (between (codes "x") (shown (codes " "))))
    (holding infos.Container (holding infos.Container (between (codes " ") (between (codes "y") (shown (codes " "))))
    none) none)) none

-- an icon leaves its link empty
abbrev pub icon_row : Type 0
icon_row =
    completed (html (codes "a") (target ∷ []) (svg (codes "svg") (beside (svg (codes "path") of_trees.none)
    (svg (codes "text") (words (codes " ")))))) ≡ none

abbrev pub titled_drawing_row : Type 0
titled_drawing_row =
    completed (svg (codes "svg") (beside (svg (codes "title") (words (codes "a"))) (svg (codes "text")
    (words (codes "b"))))) ≡ alone (infos.Image [] (codes "a"))

abbrev pub span_of_text_row : Type 0
span_of_text_row =
    completed (svg (codes "text") (beside (words (codes "a")) (svg (codes "tspan") of_trees.none)))
    ≡ holding infos.Container (between (codes " ") (between (codes "a") (holding infos.Container none
    (shown (codes " "))))) none
