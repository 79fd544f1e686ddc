-- When elements of MathML and SVG take a token by the rules for HTML (WHATWG HTML, 13.2.6, "tree construction
-- dispatcher"), and what ends foreign content (13.2.6.5). An element is an integration point where it is an
-- `annotation-xml` element whose contents are HTML.
use Rattle.std.specs.Prelude.{ℕ, Bool, false, true, ◌&&◌, ◌||◌, not, List, [], ◌∷◌, codes, bytes_eq}
use Rattle.tree_names.specs.ElementSets.{integration_points, math_ml_text_integration_points}
use Rattle.tree_names.specs.ElementSets.{svg_html_integration_points}
use Rattle.tree_names.specs.Sets.{is_element_of, is_one_of}
use Rattle.tree_names.specs.TagSets.{break_outs, math_ml_glyphs}
use Rattle.html_lexemes.specs.declared.names.Namespace.{Namespace}
use Rattle.html_lexemes.specs.declared.names.Namespace.TheVariants.{Html, MathMl, Other, Svg}
use Rattle.html_lexemes.specs.declared.names.QualName.{QualName}
use Rattle.html_lexemes.specs.declared.token.Tag.{Tag}
use Rattle.html_lexemes.specs.declared.token.TagKind.{TagKind}
use Rattle.html_lexemes.specs.declared.token.TagKind.TheVariants.{EndTag, StartTag}
use Rattle.tree_predicates.specs.Attributes.{has_attribute, in_lower_case}

abbrev pub is_of_html : Namespace → Bool
is_of_html Html = true
is_of_html MathMl = false
is_of_html Svg = false
is_of_html (Other text) = false

-- where all start tags and texts are taken by the rules for HTML
abbrev pub is_html_place : QualName → (is_point : Bool) → Bool
is_html_place name is_point = is_of_html name.ns || (is_element_of svg_html_integration_points name || is_point)

abbrev pub takes_text : QualName → (is_point : Bool) → Bool
takes_text name is_point = is_html_place name is_point || is_element_of math_ml_text_integration_points name

-- a start tag: in MathML text all but two, and `svg` in `annotation-xml`
abbrev pub is_annotation : QualName → Bool
is_annotation name = is_element_of (record { html = []; math_ml = codes "annotation-xml" ∷ []; svg = [] }) name

abbrev pub takes_start : QualName → (is_point : Bool) → (tag : List ℕ) → Bool
takes_start name is_point tag = is_html_place name is_point
    || ((is_element_of math_ml_text_integration_points name && not (is_one_of math_ml_glyphs tag))
    || (is_annotation name && bytes_eq tag (codes "svg")))

-- tags that break out of foreign content
abbrev pub styles : List (List ℕ)
styles = codes "color" ∷ codes "face" ∷ codes "size" ∷ []

abbrev pub breaks_out_as : TagKind → Tag → Bool
breaks_out_as StartTag tag =
    is_one_of break_outs tag.name || (bytes_eq tag.name (codes "font") && has_attribute styles tag.attrs)
breaks_out_as EndTag tag = is_one_of (codes "br" ∷ codes "p" ∷ []) tag.name

abbrev pub breaks_out : Tag → Bool
breaks_out tag = breaks_out_as tag.kind tag

-- where breaking out stops
abbrev pub stops_break_out : QualName → (is_point : Bool) → Bool
stops_break_out name is_point = is_of_html name.ns || (is_element_of integration_points name || is_point)

-- an end tag closes an element in foreign content where its name is that of the element in lower case
abbrev pub is_closed_by : (tag : List ℕ) → QualName → Bool
is_closed_by tag name = bytes_eq (in_lower_case name.local) tag
