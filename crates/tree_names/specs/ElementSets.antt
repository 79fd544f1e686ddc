-- Sets of elements (WHATWG HTML, 13.2.4, 13.2.6 and 13.3; the numbers are its sections), in the standard's order.
use Rattle.std.specs.Prelude.{ℕ, List, [], ◌∷◌, ◌++◌, codes}
use Rattle.tree_names.specs.Sets.{Elements, html_elements}

-- names of MathML elements whose contents are text (13.2.6), and names of SVG elements whose contents are HTML
abbrev pub math_ml_texts : List (List ℕ)
math_ml_texts = codes "mi" ∷ codes "mo" ∷ codes "mn" ∷ codes "ms" ∷ codes "mtext" ∷ []

abbrev pub svg_contents : List (List ℕ)
svg_contents = codes "foreignobject" ∷ codes "desc" ∷ codes "title" ∷ []

-- foreign elements that are barriers of scope (13.2.4.2), beside names of HTML
abbrev pub with_foreign_barriers : List (List ℕ) → Elements
with_foreign_barriers words =
    record { html = words; math_ml = math_ml_texts ++ codes "annotation-xml" ∷ []; svg = svg_contents }

-- names of HTML elements that are barriers of scope (13.2.4.2), `select` among them
abbrev pub html_barriers : List (List ℕ)
html_barriers = codes "applet" ∷ codes "caption" ∷ codes "html" ∷ codes "table" ∷ codes "td" ∷ codes "th"
    ∷ codes "marquee" ∷ codes "object" ∷ codes "select" ∷ codes "template" ∷ []

-- barriers of scope (13.2.4.2), and `select`
abbrev pub scope_barriers : Elements
scope_barriers = with_foreign_barriers html_barriers

-- barriers of list item scope (13.2.4.2)
abbrev pub list_item_scope_barriers : Elements
list_item_scope_barriers = with_foreign_barriers (html_barriers ++ codes "ol" ∷ codes "ul" ∷ [])

-- barriers of button scope (13.2.4.2)
abbrev pub button_scope_barriers : Elements
button_scope_barriers = with_foreign_barriers (html_barriers ++ codes "button" ∷ [])

-- special elements (13.2.4.2)
abbrev pub special_names : List (List ℕ)
special_names = codes "address" ∷ codes "applet" ∷ codes "area" ∷ codes "article" ∷ codes "aside" ∷ codes "base"
    ∷ codes "basefont" ∷ codes "bgsound" ∷ codes "blockquote" ∷ codes "body" ∷ codes "br" ∷ codes "button"
    ∷ codes "caption" ∷ codes "center" ∷ codes "col" ∷ codes "colgroup" ∷ codes "dd" ∷ codes "details" ∷ codes "dir"
    ∷ codes "div" ∷ codes "dl" ∷ codes "dt" ∷ codes "embed" ∷ codes "fieldset" ∷ codes "figcaption" ∷ codes "figure"
    ∷ codes "footer" ∷ codes "form" ∷ codes "frame" ∷ codes "frameset" ∷ codes "h1" ∷ codes "h2" ∷ codes "h3"
    ∷ codes "h4" ∷ codes "h5" ∷ codes "h6" ∷ codes "head" ∷ codes "header" ∷ codes "hgroup" ∷ codes "hr"
    ∷ codes "html" ∷ codes "iframe" ∷ codes "img" ∷ codes "input" ∷ codes "keygen" ∷ codes "li" ∷ codes "link"
    ∷ codes "listing" ∷ codes "main" ∷ codes "marquee" ∷ codes "menu" ∷ codes "meta" ∷ codes "nav" ∷ codes "noembed"
    ∷ codes "noframes" ∷ codes "noscript" ∷ codes "object" ∷ codes "ol" ∷ codes "p" ∷ codes "param"
    ∷ codes "plaintext" ∷ codes "pre" ∷ codes "script" ∷ codes "search" ∷ codes "section" ∷ codes "select"
    ∷ codes "source" ∷ codes "style" ∷ codes "summary" ∷ codes "table" ∷ codes "tbody" ∷ codes "td" ∷ codes "template"
    ∷ codes "textarea" ∷ codes "tfoot" ∷ codes "th" ∷ codes "thead" ∷ codes "title" ∷ codes "tr" ∷ codes "track"
    ∷ codes "ul" ∷ codes "wbr" ∷ codes "xmp" ∷ []

abbrev pub special_elements : Elements
special_elements = with_foreign_barriers special_names

-- where breaking out of foreign content stops, whatever the attributes (13.2.6.5)
abbrev pub integration_points : Elements
integration_points = record { html = []; math_ml = math_ml_texts; svg = svg_contents }

-- integration points of MathML for text (13.2.6)
abbrev pub math_ml_text_integration_points : Elements
math_ml_text_integration_points = record { html = []; math_ml = math_ml_texts; svg = [] }

-- integration points of SVG for HTML (13.2.6)
abbrev pub svg_html_integration_points : Elements
svg_html_integration_points = record { html = []; math_ml = []; svg = svg_contents }

-- elements whose end tags are implied (13.2.6.3)
abbrev pub implied_end_tags : Elements
implied_end_tags = html_elements (codes "dd" ∷ codes "dt" ∷ codes "li" ∷ codes "optgroup" ∷ codes "option" ∷ codes "p"
    ∷ codes "rb" ∷ codes "rp" ∷ codes "rt" ∷ codes "rtc" ∷ [])

-- barriers of table scope (13.2.4.2)
abbrev pub table_scope_barriers : Elements
table_scope_barriers = html_elements (codes "html" ∷ codes "table" ∷ codes "template" ∷ [])

-- special elements that a list item or a definition passes over (13.2.6.4.7)
abbrev pub address_div_and_p : Elements
address_div_and_p = html_elements (codes "address" ∷ codes "div" ∷ codes "p" ∷ [])

-- headings (13.2.6.4.7)
abbrev pub heading_names : List (List ℕ)
heading_names = codes "h1" ∷ codes "h2" ∷ codes "h3" ∷ codes "h4" ∷ codes "h5" ∷ codes "h6" ∷ []

abbrev pub headings : Elements
headings = html_elements heading_names

-- where clearing back to a table stops (13.2.6.4.9)
abbrev pub table_context : Elements
table_context = html_elements (codes "table" ∷ codes "template" ∷ codes "html" ∷ [])

-- where clearing back to a table body stops (13.2.6.4.13)
abbrev pub table_body_context : Elements
table_body_context = html_elements (codes "tbody" ∷ codes "tfoot" ∷ codes "thead" ∷ codes "template" ∷ codes "html"
    ∷ [])

-- where clearing back to a table row stops (13.2.6.4.14)
abbrev pub table_row_context : Elements
table_row_context = html_elements (codes "tr" ∷ codes "template" ∷ codes "html" ∷ [])

-- parts of a table, what is put into which is fostered (13.2.6.1)
abbrev pub foster_targets : Elements
foster_targets = html_elements (codes "table" ∷ codes "tbody" ∷ codes "tfoot" ∷ codes "thead" ∷ codes "tr" ∷ [])

-- where text in a table is collected (13.2.6.4.9)
abbrev pub table_text_places : Elements
table_text_places = html_elements (codes "table" ∷ codes "tbody" ∷ codes "template" ∷ codes "tfoot" ∷ codes "thead"
    ∷ codes "tr" ∷ [])

-- the sections of a table (13.2.6.4.13)
abbrev pub section_names : List (List ℕ)
section_names = codes "tbody" ∷ codes "tfoot" ∷ codes "thead" ∷ []

abbrev pub table_sections : Elements
table_sections = html_elements section_names

-- the cells of a table (13.2.6.4.15)
abbrev pub cell_names : List (List ℕ)
cell_names = codes "td" ∷ codes "th" ∷ []

abbrev pub table_cells : Elements
table_cells = html_elements cell_names

-- elements without contents, written without an end tag (13.3)
abbrev pub void_elements : Elements
void_elements = html_elements (codes "area" ∷ codes "base" ∷ codes "basefont" ∷ codes "bgsound" ∷ codes "br"
    ∷ codes "col" ∷ codes "embed" ∷ codes "frame" ∷ codes "hr" ∷ codes "img" ∷ codes "input" ∷ codes "keygen"
    ∷ codes "link" ∷ codes "meta" ∷ codes "param" ∷ codes "source" ∷ codes "track" ∷ codes "wbr" ∷ [])

-- elements whose text is written as it is (13.3)
abbrev pub raw_text_elements : Elements
raw_text_elements = html_elements (codes "style" ∷ codes "script" ∷ codes "xmp" ∷ codes "iframe" ∷ codes "noembed"
    ∷ codes "noframes" ∷ codes "plaintext" ∷ [])
