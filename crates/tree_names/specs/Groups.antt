-- The names of tags that every insertion mode treats alike (WHATWG HTML, 13.2.6.4), each group with its names.
use Rattle.std.specs.Prelude.{ℕ, Bool, false, true, List, [], ◌∷◌, codes, if◌then◌else◌}
use Rattle.tree_names.specs.ElementSets.{cell_names, heading_names, section_names}
use Rattle.tree_names.specs.Sets.{is_one_of}
use Rattle.tree_names.specs.TagSets.{definitions, marked_elements, preformatted, ruby_bases, ruby_texts, void_sources}
use Rattle.tree_names.specs.declared.group.TagGroup.{TagGroup}
use Rattle.tree_names.specs.declared.group.TagGroup.TheVariants as groups

-- blocks but `p`, elements with formatting but `a` and `nobr`, and elements without contents but `br`
abbrev pub blocks : List (List ℕ)
blocks = codes "address" ∷ codes "article" ∷ codes "aside" ∷ codes "blockquote" ∷ codes "center" ∷ codes "details"
    ∷ codes "dialog" ∷ codes "dir" ∷ codes "div" ∷ codes "dl" ∷ codes "fieldset" ∷ codes "figcaption" ∷ codes "figure"
    ∷ codes "footer" ∷ codes "header" ∷ codes "hgroup" ∷ codes "main" ∷ codes "menu" ∷ codes "nav" ∷ codes "ol"
    ∷ codes "search" ∷ codes "section" ∷ codes "summary" ∷ codes "ul" ∷ []

abbrev pub other_formatting : List (List ℕ)
other_formatting = codes "b" ∷ codes "big" ∷ codes "code" ∷ codes "em" ∷ codes "font" ∷ codes "i" ∷ codes "s"
    ∷ codes "small" ∷ codes "strike" ∷ codes "strong" ∷ codes "tt" ∷ codes "u" ∷ []

abbrev pub void_phrases : List (List ℕ)
void_phrases = codes "area" ∷ codes "embed" ∷ codes "img" ∷ codes "keygen" ∷ codes "wbr" ∷ []

abbrev pub links : List (List ℕ)
links = codes "basefont" ∷ codes "bgsound" ∷ codes "link" ∷ []

abbrev pub tag_groups : List (List (List ℕ) × TagGroup)
tag_groups =
    (codes "html" ∷ [], groups.Html)
    ∷ (codes "head" ∷ [], groups.Head)
    ∷ (codes "title" ∷ [], groups.Title)
    ∷ (codes "base" ∷ [], groups.Base)
    ∷ (links, groups.Link)
    ∷ (codes "meta" ∷ [], groups.Meta)
    ∷ (codes "style" ∷ [], groups.Style)
    ∷ (codes "script" ∷ [], groups.Script)
    ∷ (codes "noscript" ∷ [], groups.Noscript)
    ∷ (codes "noframes" ∷ [], groups.Noframes)
    ∷ (codes "template" ∷ [], groups.Template)
    ∷ (codes "body" ∷ [], groups.Body)
    ∷ (codes "frameset" ∷ [], groups.Frameset)
    ∷ (codes "frame" ∷ [], groups.Frame)
    ∷ (codes "p" ∷ [], groups.Paragraph)
    ∷ (blocks, groups.Block)
    ∷ (heading_names, groups.Heading)
    ∷ (preformatted, groups.Preformatted)
    ∷ (codes "form" ∷ [], groups.Form)
    ∷ (codes "li" ∷ [], groups.ListItem)
    ∷ (definitions, groups.Definition)
    ∷ (codes "plaintext" ∷ [], groups.Plaintext)
    ∷ (codes "button" ∷ [], groups.Button)
    ∷ (codes "a" ∷ [], groups.Anchor)
    ∷ (other_formatting, groups.Formatting)
    ∷ (codes "nobr" ∷ [], groups.NoBreak)
    ∷ (marked_elements, groups.Marked)
    ∷ (codes "table" ∷ [], groups.Table)
    ∷ (codes "br" ∷ [], groups.LineBreak)
    ∷ (void_phrases, groups.VoidPhrase)
    ∷ (codes "input" ∷ [], groups.Input)
    ∷ (void_sources, groups.VoidSource)
    ∷ (codes "hr" ∷ [], groups.HorizontalRule)
    ∷ (codes "image" ∷ [], groups.Image)
    ∷ (codes "textarea" ∷ [], groups.Textarea)
    ∷ (codes "xmp" ∷ [], groups.Xmp)
    ∷ (codes "iframe" ∷ [], groups.Iframe)
    ∷ (codes "noembed" ∷ [], groups.Noembed)
    ∷ (codes "select" ∷ [], groups.Select)
    ∷ (codes "option" ∷ [], groups.OptionItem)
    ∷ (codes "optgroup" ∷ [], groups.OptionGroup)
    ∷ (ruby_bases, groups.RubyBase)
    ∷ (ruby_texts, groups.RubyText)
    ∷ (codes "math" ∷ [], groups.Math)
    ∷ (codes "svg" ∷ [], groups.Svg)
    ∷ (codes "caption" ∷ [], groups.Caption)
    ∷ (codes "col" ∷ [], groups.Column)
    ∷ (codes "colgroup" ∷ [], groups.ColumnGroup)
    ∷ (section_names, groups.Section)
    ∷ (codes "tr" ∷ [], groups.Row)
    ∷ (cell_names, groups.Cell)
    ∷ []

-- the group that has a name
abbrev pub group_in : List (List (List ℕ) × TagGroup) → List ℕ → TagGroup
group_in [] name = groups.Other
group_in (row ∷ rows) name = if is_one_of row.0 name then row.1 else group_in rows name

-- A whole table: goals cite it by its name.
unfoldable pub tag_group : List ℕ → TagGroup
tag_group name = group_in tag_groups name

-- groups of elements with formatting (13.2.4.3)
abbrev pub is_formatting : TagGroup → Bool
is_formatting groups.Anchor = true
is_formatting groups.NoBreak = true
is_formatting groups.Formatting = true
is_formatting _ = false
