-- Sets of the names of tags that insertion modes treat alike (WHATWG HTML, 13.2.6; the numbers are its sections).
use Rattle.std.specs.Prelude.{ℕ, List, [], ◌∷◌, codes}

-- elements with formatting (13.2.4.3)
abbrev pub formatting : List (List ℕ)
formatting = codes "a" ∷ codes "b" ∷ codes "big" ∷ codes "code" ∷ codes "em" ∷ codes "font" ∷ codes "i" ∷ codes "nobr"
    ∷ codes "s" ∷ codes "small" ∷ codes "strike" ∷ codes "strong" ∷ codes "tt" ∷ codes "u" ∷ []

-- blocks whose first LF is left out (13.2.6.4.7)
abbrev pub preformatted : List (List ℕ)
preformatted = codes "pre" ∷ codes "listing" ∷ []

-- terms and descriptions of a list of definitions (13.2.6.4.7)
abbrev pub definitions : List (List ℕ)
definitions = codes "dd" ∷ codes "dt" ∷ []

-- elements that put a marker into the formatting list (13.2.6.4.7)
abbrev pub marked_elements : List (List ℕ)
marked_elements = codes "applet" ∷ codes "marquee" ∷ codes "object" ∷ []

-- elements without contents that take up none (13.2.6.4.7)
abbrev pub void_sources : List (List ℕ)
void_sources = codes "param" ∷ codes "source" ∷ codes "track" ∷ []

-- bases of ruby text (13.2.6.4.7)
abbrev pub ruby_bases : List (List ℕ)
ruby_bases = codes "rb" ∷ codes "rtc" ∷ []

-- ruby texts and their parentheses (13.2.6.4.7)
abbrev pub ruby_texts : List (List ℕ)
ruby_texts = codes "rp" ∷ codes "rt" ∷ []

-- start tags that break out of foreign content (13.2.6.5)
abbrev pub break_outs : List (List ℕ)
break_outs = codes "b" ∷ codes "big" ∷ codes "blockquote" ∷ codes "body" ∷ codes "br" ∷ codes "center" ∷ codes "code"
    ∷ codes "dd" ∷ codes "div" ∷ codes "dl" ∷ codes "dt" ∷ codes "em" ∷ codes "embed" ∷ codes "h1" ∷ codes "h2"
    ∷ codes "h3" ∷ codes "h4" ∷ codes "h5" ∷ codes "h6" ∷ codes "head" ∷ codes "hr" ∷ codes "i" ∷ codes "img"
    ∷ codes "li" ∷ codes "listing" ∷ codes "menu" ∷ codes "meta" ∷ codes "nobr" ∷ codes "ol" ∷ codes "p" ∷ codes "pre"
    ∷ codes "ruby" ∷ codes "s" ∷ codes "small" ∷ codes "span" ∷ codes "strong" ∷ codes "strike" ∷ codes "sub"
    ∷ codes "sup" ∷ codes "table" ∷ codes "tt" ∷ codes "u" ∷ codes "ul" ∷ codes "var" ∷ []

-- start tags that stay foreign in MathML text (13.2.6)
abbrev pub math_ml_glyphs : List (List ℕ)
math_ml_glyphs = codes "mglyph" ∷ codes "malignmark" ∷ []

-- contexts of a fragment whose text is RCDATA (13.4)
abbrev pub rcdata_contexts : List (List ℕ)
rcdata_contexts = codes "title" ∷ codes "textarea" ∷ []

-- contexts of a fragment whose text is raw (13.4)
abbrev pub rawtext_contexts : List (List ℕ)
rawtext_contexts = codes "style" ∷ codes "xmp" ∷ codes "iframe" ∷ codes "noembed" ∷ codes "noframes" ∷ []
