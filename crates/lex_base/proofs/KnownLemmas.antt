-- What holds of each known name is seen in a table of all.
use Rattle.std.proofs.Common.{◌≡◌, [], ◌∷◌, ◌∙◌, Bool, List, Some, ap, chars, map, refl, slice_index_or, suc, sym, true}
use Rattle.std.proofs.Common.{zero, ℕ}
use Rattle.std.specs.Borrow.{Bor}
use Rattle.std.proofs.lemmas.Str.{chars-IsAscii}
use denote.Enum.Declared.{tag_of}
use Rattle.lex_base.specs.Words.{is_ascii_word, is_one_of, words_of}
use Rattle.lex_base.proofs.WordLemmas.{ascii_word}
use Rattle.lex_base.specs.Known.{all_known, known_at, known_text}
use Rattle.lex_base.specs.contracts.known.KnownName.{the_type}
use Rattle.lex_base.specs.declared.known.KnownName.{KnownName}
use Rattle.lex_base.specs.declared.known.KnownName.TheVariants as names

-- a table of what a function gives, at a name's number
pub at_number : {A : Type 0} (f : KnownName → A) (d : A) (known : KnownName) →
    slice_index_or (map f all_known) (tag_of the_type known) d ≡ f known
at_number f d names.A = refl
at_number f d names.Action = refl
at_number f d names.Address = refl
at_number f d names.Alt = refl
at_number f d names.AnnotationXml = refl
at_number f d names.Applet = refl
at_number f d names.Area = refl
at_number f d names.Article = refl
at_number f d names.Aside = refl
at_number f d names.B = refl
at_number f d names.Base = refl
at_number f d names.Basefont = refl
at_number f d names.Bgsound = refl
at_number f d names.Big = refl
at_number f d names.Blockquote = refl
at_number f d names.Body = refl
at_number f d names.Br = refl
at_number f d names.Button = refl
at_number f d names.Caption = refl
at_number f d names.Center = refl
at_number f d names.Charset = refl
at_number f d names.Class = refl
at_number f d names.Code = refl
at_number f d names.Col = refl
at_number f d names.Colgroup = refl
at_number f d names.Colspan = refl
at_number f d names.Content = refl
at_number f d names.Dd = refl
at_number f d names.Desc = refl
at_number f d names.Details = refl
at_number f d names.Dialog = refl
at_number f d names.Dir = refl
at_number f d names.Div = refl
at_number f d names.Dl = refl
at_number f d names.Dt = refl
at_number f d names.Em = refl
at_number f d names.Embed = refl
at_number f d names.Fieldset = refl
at_number f d names.Figcaption = refl
at_number f d names.Figure = refl
at_number f d names.Font = refl
at_number f d names.Footer = refl
at_number f d names.Foreignobject = refl
at_number f d names.Form = refl
at_number f d names.Frame = refl
at_number f d names.Frameset = refl
at_number f d names.H1 = refl
at_number f d names.H2 = refl
at_number f d names.H3 = refl
at_number f d names.H4 = refl
at_number f d names.H5 = refl
at_number f d names.H6 = refl
at_number f d names.Head = refl
at_number f d names.Header = refl
at_number f d names.Height = refl
at_number f d names.Hgroup = refl
at_number f d names.Hr = refl
at_number f d names.Href = refl
at_number f d names.Html = refl
at_number f d names.I = refl
at_number f d names.Id = refl
at_number f d names.Iframe = refl
at_number f d names.Image = refl
at_number f d names.Img = refl
at_number f d names.Input = refl
at_number f d names.Keygen = refl
at_number f d names.Lang = refl
at_number f d names.Li = refl
at_number f d names.Link = refl
at_number f d names.Listing = refl
at_number f d names.Main = refl
at_number f d names.Malignmark = refl
at_number f d names.Marquee = refl
at_number f d names.Math = refl
at_number f d names.Menu = refl
at_number f d names.Meta = refl
at_number f d names.Method = refl
at_number f d names.Mglyph = refl
at_number f d names.Mi = refl
at_number f d names.Mn = refl
at_number f d names.Mo = refl
at_number f d names.Ms = refl
at_number f d names.Mtext = refl
at_number f d names.Name = refl
at_number f d names.Nav = refl
at_number f d names.Nobr = refl
at_number f d names.Noembed = refl
at_number f d names.Noframes = refl
at_number f d names.Noscript = refl
at_number f d names.Object = refl
at_number f d names.Ol = refl
at_number f d names.Optgroup = refl
at_number f d names.Option = refl
at_number f d names.P = refl
at_number f d names.Param = refl
at_number f d names.Plaintext = refl
at_number f d names.Pre = refl
at_number f d names.Rb = refl
at_number f d names.Rel = refl
at_number f d names.Role = refl
at_number f d names.Rowspan = refl
at_number f d names.Rp = refl
at_number f d names.Rt = refl
at_number f d names.Rtc = refl
at_number f d names.Ruby = refl
at_number f d names.S = refl
at_number f d names.Script = refl
at_number f d names.Search = refl
at_number f d names.Section = refl
at_number f d names.Select = refl
at_number f d names.Small = refl
at_number f d names.Source = refl
at_number f d names.Span = refl
at_number f d names.Src = refl
at_number f d names.Strike = refl
at_number f d names.Strong = refl
at_number f d names.Style = refl
at_number f d names.Sub = refl
at_number f d names.Summary = refl
at_number f d names.Sup = refl
at_number f d names.Svg = refl
at_number f d names.Table = refl
at_number f d names.Target = refl
at_number f d names.Tbody = refl
at_number f d names.Td = refl
at_number f d names.Template = refl
at_number f d names.Textarea = refl
at_number f d names.Tfoot = refl
at_number f d names.Th = refl
at_number f d names.Thead = refl
at_number f d names.Title = refl
at_number f d names.Tr = refl
at_number f d names.Track = refl
at_number f d names.Tt = refl
at_number f d names.Type = refl
at_number f d names.U = refl
at_number f d names.Ul = refl
at_number f d names.Value = refl
at_number f d names.Var = refl
at_number f d names.Wbr = refl
at_number f d names.Width = refl
at_number f d names.Xmp = refl

-- two functions with one table are the same
pub everywhere : {A : Type 0} (f g : KnownName → A) → map f all_known ≡ map g all_known → (known : KnownName) →
    f known ≡ g known
everywhere f g e known = sym (at_number f (f known) known)
    ∙ ap (λ l. slice_index_or l (tag_of the_type known) (f known)) e ∙ at_number g (f known) known

pub known_back : (known : KnownName) → known_at (known_text known) ≡ Some known
unfolding known_at
known_back known = everywhere (λ name. known_at (known_text name)) (λ name. Some name) refl known

pub ascii_known : (known : KnownName) → is_ascii_word (known_text known) ≡ true
ascii_known known = everywhere (λ name. is_ascii_word (known_text name)) (λ name. true) refl known

pub known_chars : (known : KnownName) → chars (known_text known) ≡ known_text known
known_chars known = chars-IsAscii (known_text known) (ascii_word (known_text known) (ascii_known known))

-- a table of a set
pub in_table : (words : List (List ℕ)) (table : List Bool) (d : Bool) (known : KnownName) →
    table ≡ map (λ name. is_one_of words (known_text name)) all_known →
    slice_index_or table (tag_of the_type known) d ≡ is_one_of words (known_text known)
in_table words table d known e = ap (λ l. slice_index_or l (tag_of the_type known) d) e
    ∙ at_number (λ name. is_one_of words (known_text name)) d known

index_now : (rows : List (Bor (List ℕ))) (i : ℕ) (d : Bor (List ℕ)) →
    (slice_index_or rows i d).now ≡ slice_index_or (words_of rows) i d.now
index_now [] i d = refl
index_now (row ∷ rows) zero d = refl
index_now (row ∷ rows) (suc i) d = index_now rows i d

pub text_in_table : (rows : List (Bor (List ℕ))) (d : Bor (List ℕ)) (known : KnownName) →
    words_of rows ≡ map known_text all_known → (slice_index_or rows (tag_of the_type known) d).now ≡ known_text known
text_in_table rows d known e = index_now rows (tag_of the_type known) d
    ∙ ap (λ l. slice_index_or l (tag_of the_type known) d.now) e ∙ at_number known_text d.now known
