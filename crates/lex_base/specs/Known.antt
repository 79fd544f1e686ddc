-- The names that are known without a text.
use Rattle.std.specs.Prelude.{◌+◌, ◌*◌, ◌%◌, ◌-◌, [], ◌∷◌, if◌then◌else◌, Bool, List, None, Option, Some, bytes_eq}
use Rattle.std.specs.Prelude.{codes, is_some, length, slice_index_or, ℕ}
use Rattle.lex_base.specs.declared.known.KnownName.{KnownName}
use Rattle.lex_base.specs.declared.known.KnownName.TheVariants as names

-- the text of each
abbrev pub known_text : KnownName → List ℕ
known_text names.A = codes "a"
known_text names.Action = codes "action"
known_text names.Address = codes "address"
known_text names.Alt = codes "alt"
known_text names.AnnotationXml = codes "annotation-xml"
known_text names.Applet = codes "applet"
known_text names.Area = codes "area"
known_text names.Article = codes "article"
known_text names.Aside = codes "aside"
known_text names.B = codes "b"
known_text names.Base = codes "base"
known_text names.Basefont = codes "basefont"
known_text names.Bgsound = codes "bgsound"
known_text names.Big = codes "big"
known_text names.Blockquote = codes "blockquote"
known_text names.Body = codes "body"
known_text names.Br = codes "br"
known_text names.Button = codes "button"
known_text names.Caption = codes "caption"
known_text names.Center = codes "center"
known_text names.Charset = codes "charset"
known_text names.Class = codes "class"
known_text names.Code = codes "code"
known_text names.Col = codes "col"
known_text names.Colgroup = codes "colgroup"
known_text names.Colspan = codes "colspan"
known_text names.Content = codes "content"
known_text names.Dd = codes "dd"
known_text names.Desc = codes "desc"
known_text names.Details = codes "details"
known_text names.Dialog = codes "dialog"
known_text names.Dir = codes "dir"
known_text names.Div = codes "div"
known_text names.Dl = codes "dl"
known_text names.Dt = codes "dt"
known_text names.Em = codes "em"
known_text names.Embed = codes "embed"
known_text names.Fieldset = codes "fieldset"
known_text names.Figcaption = codes "figcaption"
known_text names.Figure = codes "figure"
known_text names.Font = codes "font"
known_text names.Footer = codes "footer"
known_text names.Foreignobject = codes "foreignobject"
known_text names.Form = codes "form"
known_text names.Frame = codes "frame"
known_text names.Frameset = codes "frameset"
known_text names.H1 = codes "h1"
known_text names.H2 = codes "h2"
known_text names.H3 = codes "h3"
known_text names.H4 = codes "h4"
known_text names.H5 = codes "h5"
known_text names.H6 = codes "h6"
known_text names.Head = codes "head"
known_text names.Header = codes "header"
known_text names.Height = codes "height"
known_text names.Hgroup = codes "hgroup"
known_text names.Hr = codes "hr"
known_text names.Href = codes "href"
known_text names.Html = codes "html"
known_text names.I = codes "i"
known_text names.Id = codes "id"
known_text names.Iframe = codes "iframe"
known_text names.Image = codes "image"
known_text names.Img = codes "img"
known_text names.Input = codes "input"
known_text names.Keygen = codes "keygen"
known_text names.Lang = codes "lang"
known_text names.Li = codes "li"
known_text names.Link = codes "link"
known_text names.Listing = codes "listing"
known_text names.Main = codes "main"
known_text names.Malignmark = codes "malignmark"
known_text names.Marquee = codes "marquee"
known_text names.Math = codes "math"
known_text names.Menu = codes "menu"
known_text names.Meta = codes "meta"
known_text names.Method = codes "method"
known_text names.Mglyph = codes "mglyph"
known_text names.Mi = codes "mi"
known_text names.Mn = codes "mn"
known_text names.Mo = codes "mo"
known_text names.Ms = codes "ms"
known_text names.Mtext = codes "mtext"
known_text names.Name = codes "name"
known_text names.Nav = codes "nav"
known_text names.Nobr = codes "nobr"
known_text names.Noembed = codes "noembed"
known_text names.Noframes = codes "noframes"
known_text names.Noscript = codes "noscript"
known_text names.Object = codes "object"
known_text names.Ol = codes "ol"
known_text names.Optgroup = codes "optgroup"
known_text names.Option = codes "option"
known_text names.P = codes "p"
known_text names.Param = codes "param"
known_text names.Plaintext = codes "plaintext"
known_text names.Pre = codes "pre"
known_text names.Rb = codes "rb"
known_text names.Rel = codes "rel"
known_text names.Role = codes "role"
known_text names.Rowspan = codes "rowspan"
known_text names.Rp = codes "rp"
known_text names.Rt = codes "rt"
known_text names.Rtc = codes "rtc"
known_text names.Ruby = codes "ruby"
known_text names.S = codes "s"
known_text names.Script = codes "script"
known_text names.Search = codes "search"
known_text names.Section = codes "section"
known_text names.Select = codes "select"
known_text names.Small = codes "small"
known_text names.Source = codes "source"
known_text names.Span = codes "span"
known_text names.Src = codes "src"
known_text names.Strike = codes "strike"
known_text names.Strong = codes "strong"
known_text names.Style = codes "style"
known_text names.Sub = codes "sub"
known_text names.Summary = codes "summary"
known_text names.Sup = codes "sup"
known_text names.Svg = codes "svg"
known_text names.Table = codes "table"
known_text names.Target = codes "target"
known_text names.Tbody = codes "tbody"
known_text names.Td = codes "td"
known_text names.Template = codes "template"
known_text names.Textarea = codes "textarea"
known_text names.Tfoot = codes "tfoot"
known_text names.Th = codes "th"
known_text names.Thead = codes "thead"
known_text names.Title = codes "title"
known_text names.Tr = codes "tr"
known_text names.Track = codes "track"
known_text names.Tt = codes "tt"
known_text names.Type = codes "type"
known_text names.U = codes "u"
known_text names.Ul = codes "ul"
known_text names.Value = codes "value"
known_text names.Var = codes "var"
known_text names.Wbr = codes "wbr"
known_text names.Width = codes "width"
known_text names.Xmp = codes "xmp"

-- all of them, in their order
abbrev pub all_known : List KnownName
all_known = names.A
    ∷ names.Action
    ∷ names.Address
    ∷ names.Alt
    ∷ names.AnnotationXml
    ∷ names.Applet
    ∷ names.Area
    ∷ names.Article
    ∷ names.Aside
    ∷ names.B
    ∷ names.Base
    ∷ names.Basefont
    ∷ names.Bgsound
    ∷ names.Big
    ∷ names.Blockquote
    ∷ names.Body
    ∷ names.Br
    ∷ names.Button
    ∷ names.Caption
    ∷ names.Center
    ∷ names.Charset
    ∷ names.Class
    ∷ names.Code
    ∷ names.Col
    ∷ names.Colgroup
    ∷ names.Colspan
    ∷ names.Content
    ∷ names.Dd
    ∷ names.Desc
    ∷ names.Details
    ∷ names.Dialog
    ∷ names.Dir
    ∷ names.Div
    ∷ names.Dl
    ∷ names.Dt
    ∷ names.Em
    ∷ names.Embed
    ∷ names.Fieldset
    ∷ names.Figcaption
    ∷ names.Figure
    ∷ names.Font
    ∷ names.Footer
    ∷ names.Foreignobject
    ∷ names.Form
    ∷ names.Frame
    ∷ names.Frameset
    ∷ names.H1
    ∷ names.H2
    ∷ names.H3
    ∷ names.H4
    ∷ names.H5
    ∷ names.H6
    ∷ names.Head
    ∷ names.Header
    ∷ names.Height
    ∷ names.Hgroup
    ∷ names.Hr
    ∷ names.Href
    ∷ names.Html
    ∷ names.I
    ∷ names.Id
    ∷ names.Iframe
    ∷ names.Image
    ∷ names.Img
    ∷ names.Input
    ∷ names.Keygen
    ∷ names.Lang
    ∷ names.Li
    ∷ names.Link
    ∷ names.Listing
    ∷ names.Main
    ∷ names.Malignmark
    ∷ names.Marquee
    ∷ names.Math
    ∷ names.Menu
    ∷ names.Meta
    ∷ names.Method
    ∷ names.Mglyph
    ∷ names.Mi
    ∷ names.Mn
    ∷ names.Mo
    ∷ names.Ms
    ∷ names.Mtext
    ∷ names.Name
    ∷ names.Nav
    ∷ names.Nobr
    ∷ names.Noembed
    ∷ names.Noframes
    ∷ names.Noscript
    ∷ names.Object
    ∷ names.Ol
    ∷ names.Optgroup
    ∷ names.Option
    ∷ names.P
    ∷ names.Param
    ∷ names.Plaintext
    ∷ names.Pre
    ∷ names.Rb
    ∷ names.Rel
    ∷ names.Role
    ∷ names.Rowspan
    ∷ names.Rp
    ∷ names.Rt
    ∷ names.Rtc
    ∷ names.Ruby
    ∷ names.S
    ∷ names.Script
    ∷ names.Search
    ∷ names.Section
    ∷ names.Select
    ∷ names.Small
    ∷ names.Source
    ∷ names.Span
    ∷ names.Src
    ∷ names.Strike
    ∷ names.Strong
    ∷ names.Style
    ∷ names.Sub
    ∷ names.Summary
    ∷ names.Sup
    ∷ names.Svg
    ∷ names.Table
    ∷ names.Target
    ∷ names.Tbody
    ∷ names.Td
    ∷ names.Template
    ∷ names.Textarea
    ∷ names.Tfoot
    ∷ names.Th
    ∷ names.Thead
    ∷ names.Title
    ∷ names.Tr
    ∷ names.Track
    ∷ names.Tt
    ∷ names.Type
    ∷ names.U
    ∷ names.Ul
    ∷ names.Value
    ∷ names.Var
    ∷ names.Wbr
    ∷ names.Width
    ∷ names.Xmp
    ∷ []

-- the one of these that a text is
abbrev pub known_in : List KnownName → List ℕ → Option KnownName
known_in [] name = None
known_in (known ∷ others) name = if bytes_eq name (known_text known) then Some known else known_in others name

-- the known name that a text is
unfoldable pub known_at : List ℕ → Option KnownName
known_at name = known_in all_known name

-- a word is the text of a known name
abbrev pub is_known : List ℕ → Bool
is_known word = is_some (known_in all_known word)

-- where a text's number stands: no two known names have one place
unfoldable pub place_of : List ℕ → ℕ
place_of name =
    (slice_index_or name 0 0 + slice_index_or name 2 0 * 105 + slice_index_or name (length name - 1) 0 * 18) % 1024
