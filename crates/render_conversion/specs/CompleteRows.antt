-- Rows of the table of conversion that complete pages have before the others: of elements whose text is joined to what
-- stands beside them, left out, or shown as it is written, without these rows (WHATWG HTML, 15.3, the rendering of
-- elements), and of the texts in drawings (SVG 2, 11).
use Rattle.std.specs.Prelude.{ℕ, ◌||◌, Bool, false, if◌then◌else◌, List, [], ◌∷◌, Option, None, Some, codes, is_some}
use Rattle.tree_forest.specs.Trees.{Trees, node}
use Rattle.tree_forest.specs.Trees as of_trees
use Rattle.html_lexemes.specs.declared.names.Attribute.{Attribute}
use Rattle.html_lexemes.specs.declared.names.QualName.{QualName}
use Rattle.tree_predicates.specs.Attributes.{value_of}
use Rattle.render_values.specs.declared.closing.Condition.TheVariants.{Always, AnyCell, AnyShown, AnyValue}
use Rattle.render_values.specs.declared.info.RenderInfo.TheVariants as infos
use Rattle.render_conversion.specs.ElementNames.{is_one_of}
use Rattle.render_conversion.specs.Kinds.{holds, leaf, means, nothing, pictured}
use Rattle.render_conversion.specs.Places.{is_element}
use Rattle.render_conversion.specs.Titles.{is_svg, is_svg_space, title_of}
use Rattle.render_conversion.specs.declared.inner.Inner.TheVariants.{Captioned, Children, Quoted, Spaced, TableParts}
use Rattle.render_conversion.specs.declared.kinds.Meaning.{Meaning}
use Rattle.render_conversion.specs.declared.place.Place.TheVariants.{Flow, Items}

-- what a browser doesn't render, or renders elsewhere
abbrev pub is_unread : QualName → Bool
is_unread name =
    is_one_of (codes "iframe" ∷ codes "noembed" ∷ codes "noframes" ∷ codes "datalist" ∷ codes "title" ∷ []) name

abbrev pub is_block : QualName → Bool
is_block name =
    is_one_of
    (codes "address" ∷ codes "article" ∷ codes "aside" ∷ codes "center" ∷ codes "details" ∷ codes "fieldset"
    ∷ codes "figcaption" ∷ codes "figure" ∷ codes "footer" ∷ codes "form" ∷ codes "header" ∷ codes "hgroup"
    ∷ codes "legend" ∷ codes "main" ∷ codes "nav" ∷ codes "optgroup" ∷ codes "option" ∷ codes "search"
    ∷ codes "section" ∷ codes "summary" ∷ []) name

-- a dialog is shown where it is open
abbrev pub dialog : List Attribute → Meaning
dialog attributes = if is_some (value_of (codes "open") attributes) then holds infos.Division else nothing

abbrev pub has_caption : (inside : Trees) → Bool
has_caption of_trees.none = false
has_caption (node kind kids rest) = is_element (codes "caption" ∷ []) kind || has_caption rest

-- a table, after its captions where it has some
abbrev pub tabled : (inside : Trees) → Meaning
tabled inside =
    if has_caption inside then means infos.Container AnyValue Captioned else means infos.Table AnyCell TableParts

abbrev pub html_row : QualName → List Attribute → (inside : Trees) → Option Meaning
html_row name attributes inside =
    if is_unread name then Some nothing
    else if is_block name then Some (holds infos.Division)
    else if is_one_of (codes "dialog" ∷ []) name then Some (dialog attributes)
    else if is_one_of (codes "hr" ∷ []) name then Some (leaf infos.Rule)
    else if is_one_of (codes "menu" ∷ codes "dir" ∷ []) name then Some (means infos.Bullets AnyValue (Children Items))
    else if is_one_of (codes "listing" ∷ codes "plaintext" ∷ codes "xmp" ∷ []) name then Some (holds infos.Preformatted)
    else if is_one_of (codes "q" ∷ []) name then Some (means infos.Container Always Quoted)
    else if is_one_of (codes "table" ∷ []) name then Some (tabled inside)
    else None

-- ---- drawings

-- what describes a drawing, or isn't drawn by itself
abbrev pub is_undrawn : QualName → Bool
is_undrawn name =
    is_svg (codes "defs") name || (is_svg (codes "desc") name || (is_svg (codes "metadata") name
    || (is_svg (codes "script") name || (is_svg (codes "style") name || (is_svg (codes "symbol") name
    || is_svg (codes "title") name)))))

-- a part of a drawing has a value where something in it shows
abbrev pub part : Meaning
part = means infos.Container AnyShown (Children Flow)

-- a drawing with a title is an image, as in other pages
abbrev pub drawing : (title : Option (List ℕ)) → Meaning
drawing None = part
drawing (Some title) = pictured (Some title)

-- an element of SVG; a text is a word of its own
abbrev pub drawn : QualName → (inside : Trees) → Meaning
drawn name inside =
    if is_undrawn name then nothing
    else if is_svg (codes "svg") name then drawing (title_of inside)
    else if is_svg (codes "text") name || is_svg (codes "foreignobject") name
    then means infos.Container AnyShown Spaced
    else if is_svg (codes "tspan") name then holds infos.Container
    else part

abbrev pub complete_row : QualName → List Attribute → (inside : Trees) → Option Meaning
complete_row name attributes inside =
    if is_svg_space name.ns then Some (drawn name inside) else html_row name attributes inside
