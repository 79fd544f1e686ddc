-- Which elements of HTML have a row of their own in the table of conversion.
use Rattle.std.specs.Prelude.{ℕ, Bool, if◌then◌else◌, List, [], ◌∷◌, codes}
use Rattle.html_lexemes.specs.declared.names.QualName.{QualName}
use Rattle.tree_names.specs.Sets.{html_elements, is_element_of}
use Rattle.render_conversion.specs.declared.element_names.ElementName.{ElementName}
use Rattle.render_conversion.specs.declared.element_names.ElementName.TheVariants as elements

abbrev pub is_one_of : List (List ℕ) → QualName → Bool
is_one_of words name = is_element_of (html_elements words) name

abbrev pub heading_name : QualName → ElementName
heading_name name =
    if is_one_of (codes "h1" ∷ []) name then elements.Heading 1
    else if is_one_of (codes "h2" ∷ []) name then elements.Heading 2
    else if is_one_of (codes "h3" ∷ []) name then elements.Heading 3
    else if is_one_of (codes "h4" ∷ []) name then elements.Heading 4
    else if is_one_of (codes "h5" ∷ []) name then elements.Heading 5
    else if is_one_of (codes "h6" ∷ []) name then elements.Heading 6
    else elements.Other

abbrev pub block_name : QualName → ElementName
block_name name =
    if is_one_of (codes "p" ∷ []) name then elements.Paragraph
    else if is_one_of (codes "div" ∷ []) name then elements.Division
    else if is_one_of (codes "blockquote" ∷ []) name then elements.Quote
    else if is_one_of (codes "pre" ∷ []) name then elements.Preformatted
    else if is_one_of (codes "ul" ∷ []) name then elements.Bullets
    else if is_one_of (codes "ol" ∷ []) name then elements.Numbers
    else if is_one_of (codes "dl" ∷ []) name then elements.Descriptions
    else if is_one_of (codes "dt" ∷ []) name then elements.Term
    else if is_one_of (codes "dd" ∷ []) name then elements.Details
    else if is_one_of (codes "table" ∷ []) name then elements.Table
    else heading_name name

abbrev pub inline_name : QualName → ElementName
inline_name name =
    if is_one_of (codes "a" ∷ []) name then elements.Anchor
    else if is_one_of (codes "em" ∷ codes "i" ∷ codes "ins" ∷ []) name then elements.Emphasis
    else if is_one_of (codes "strong" ∷ codes "b" ∷ []) name then elements.Strong
    else if is_one_of (codes "s" ∷ codes "del" ∷ []) name then elements.Strikeout
    else if is_one_of (codes "code" ∷ []) name then elements.Code
    else if is_one_of (codes "sup" ∷ []) name then elements.Superscript
    else if is_one_of (codes "img" ∷ []) name then elements.Image
    else if is_one_of (codes "br" ∷ []) name then elements.Break
    else if is_one_of (codes "wbr" ∷ []) name then elements.WordBreak
    else block_name name

abbrev pub left_out : List (List ℕ)
left_out =
    codes "head" ∷ codes "script" ∷ codes "style" ∷ codes "link" ∷ codes "meta" ∷ codes "hr" ∷ []

abbrev pub element_name : QualName → ElementName
element_name name = if is_one_of left_out name then elements.LeftOut else inline_name name
