-- The layout of an article: lines by recursion on the value, no tag, escape, parser or tree in it.
use Rattle.std.specs.Prelude.{◌+◌, ◌-◌, ◌&&◌, ◌||◌, [], ◌∷◌, ◌++◌, if◌then◌else◌, Bool, List, None, Option, Some, codes}
use Rattle.std.specs.Prelude.{false, length, map, max, min, nat_le, nat_lt, not, replicate, suc, true, unwrap_or, ℕ, ℤ}
use Rattle.std.specs.Char.{is_whitespace}
use Rattle.std.specs.Fmt.{decimal, signed_decimal}
use Rattle.std.specs.List.{list_all, list_any}
use Rattle.std.specs.Option.{option_map, option_and_then}
use Rattle.text_footnotes.specs.Footnotes.{footnote_lines}
use Rattle.text_footnotes.specs.Printable.{shown_targets}
use Rattle.text_footnotes.specs.Targets.{last_number, noted_targets}
use Rattle.text_normal.specs.Riders.{has_wide_text, normal_lines}
use Rattle.text_lines.specs.Tagged.{Item, tagged}
use Rattle.text_decorators.specs.Texts.{footnote_text}
use Rattle.text_pieces.specs.Items.{has_text}
use Rattle.text_pieces.specs.Sources.{Source, is_filled, sourced}
use Rattle.text_wrapping.specs.Blocks.{ends_in_columns, padded}
use Rattle.layout_state.specs.Items.{number_after, spaces}
use Rattle.render_sizes.specs.Extents.{capped}
use Rattle.render_sizes.specs.TextSizes.{text_size}
use Rattle.article_values.specs.Articles.{Blocks, Inlines, Items, Style, bold, bullets, code, division, emphasis}
use Rattle.article_values.specs.Articles.{heading, italic, item, line_break, link, no_blocks, no_inlines, no_items}
use Rattle.article_values.specs.Articles.{numbers, paragraph, quote, span, strong, words}

-- the options that matter here
pub record Options : Type 0 where
  pub wrap_width : Option ℕ
  pub pads : Bool
  pub decorates : Bool
  pub footnotes : Bool
  pub shares_footnotes : Bool
  pub prints_targets : Bool
  pub wraps_links : Bool
  pub min_wrap_width : ℕ

-- a tag is the annotations that stand there, of which plain text knows one kind
abbrev pub Tag : Type 0
Tag = List (Unit {0})

abbrev pub outermost : Tag
outermost = []

abbrev pub within : Tag → Tag
within tag = tag ++ tt ∷ []

-- ---- links

-- the marks round an inline, where the decorating is on
abbrev pub style_mark : Style → List ℕ
style_mark bold = codes "**"
style_mark italic = []
style_mark emphasis = codes "*"
style_mark code = codes "`"
style_mark strong = codes "**"

abbrev pub mark_of : Options → Style → List ℕ
mark_of o style = if o.decorates then style_mark style else []

abbrev pub has_none : Inlines → Bool
has_none no_inlines = true
has_none (words cs rest) = false
has_none (line_break rest) = false
has_none (span style kids rest) = false
has_none (link target kids rest) = false

-- none shows anything by itself: a link around such is left out
abbrev pub all_shallow : Options → Inlines → Bool
all_shallow o no_inlines = true
all_shallow o (words cs rest) = list_all is_whitespace cs && all_shallow o rest
all_shallow o (line_break rest) = all_shallow o rest
all_shallow o (span style kids rest) = (has_none kids && not (is_filled (mark_of o style))) && all_shallow o rest
all_shallow o (link target kids rest) = has_none kids && all_shallow o rest

-- the targets of the links, in order
abbrev pub unless_shallow : {A : Type 0} → Bool → List A → List A
unless_shallow true xs = []
unless_shallow false xs = xs

abbrev pub targets_in : Options → Inlines → List (List ℕ)
targets_in o no_inlines = []
targets_in o (words cs rest) = targets_in o rest
targets_in o (line_break rest) = targets_in o rest
targets_in o (span style kids rest) = targets_in o kids ++ targets_in o rest
targets_in o (link target kids rest) =
    unless_shallow (all_shallow o kids) (target ∷ targets_in o kids) ++ targets_in o rest

abbrev mutual
  pub targets_of : Options → Blocks → List (List ℕ)
  targets_of o no_blocks = []
  targets_of o (paragraph is rest) = targets_in o is ++ targets_of o rest
  targets_of o (heading level is rest) = targets_in o is ++ targets_of o rest
  targets_of o (division kids rest) = targets_of o kids ++ targets_of o rest
  targets_of o (quote kids rest) = targets_of o kids ++ targets_of o rest
  targets_of o (bullets items rest) = targets_of_items o items ++ targets_of o rest
  targets_of o (numbers first items rest) = targets_of_items o items ++ targets_of o rest

  pub targets_of_items : Options → Items → List (List ℕ)
  targets_of_items o no_items = []
  targets_of_items o (item kids rest) = targets_of o kids ++ targets_of_items o rest

-- paragraphs and headings
abbrev mutual
  pub count : Blocks → ℕ
  count no_blocks = 0
  count (paragraph is rest) = suc (count rest)
  count (heading level is rest) = suc (count rest)
  count (division kids rest) = count kids + count rest
  count (quote kids rest) = count kids + count rest
  count (bullets items rest) = count_items items + count rest
  count (numbers first items rest) = count_items items + count rest

  pub count_items : Items → ℕ
  count_items no_items = 0
  count_items (item kids rest) = count kids + count_items rest

-- ---- a paragraph

-- what it says, and where its lines are broken, each under its annotations
pub data Part : Type 0 where
  says : List ℕ → Tag → Part
  breaks : Tag → Part

-- the number of the last link's footnote, where there are footnotes
abbrev pub number_mark : Options → List (List ℕ) → List ℕ
number_mark o ts =
    if o.footnotes then codes "[" ++ decimal (last_number o.shares_footnotes ts) ++ codes "]" else []

-- within so many annotations, after links to these targets
abbrev pub parts_of : Options → Tag → List (List ℕ) → Inlines → List Part
parts_of o d ts no_inlines = []
parts_of o d ts (words cs rest) = says cs d ∷ parts_of o d ts rest
parts_of o d ts (line_break rest) = breaks d ∷ parts_of o d ts rest
parts_of o d ts (span style kids rest) = says (mark_of o style) (within d)
    ∷ (parts_of o (within d) ts kids ++ says (mark_of o style) (within d)
    ∷ parts_of o d (ts ++ targets_in o kids) rest)
parts_of o d ts (link target kids rest) = let trailing = ts ++ target ∷ targets_in o kids in
    unless_shallow (all_shallow o kids) (says (codes "[") (within d)
    ∷ (parts_of o (within d) (ts ++ target ∷ []) kids
    ++ says (codes "]") (within d) ∷ says (number_mark o trailing) d ∷ []))
    ++ parts_of o d (if all_shallow o kids then ts else trailing) rest

-- what is said between two breaks, or up to the end: the annotations under which it begins, by an empty text too, and
-- those under which it ends
pub record Stretch : Type 0 where
  pub fill : Tag
  pub source : List (Source Tag)
  pub close : Tag

abbrev pub begun_by : Option Tag → Tag → Option Tag
begun_by None tag = Some tag
begun_by (Some first) tag = Some first

-- one at least
abbrev pub stretches : Option Tag → List (Source Tag) → List Part → List Stretch
stretches begun so_far [] = record { fill = unwrap_or begun outermost; source = so_far; close = outermost } ∷ []
stretches begun so_far (says cs tag ∷ parts) = stretches (begun_by begun tag) (so_far ++ sourced cs tag tag) parts
stretches begun so_far (breaks tag ∷ parts) =
    record { fill = unwrap_or begun outermost; source = so_far; close = tag } ∷ stretches None [] parts

-- a line: what stands on it, whether it has content, and its paragraph
pub record Line : Type 0 where
  pub items : List (Item Tag)
  pub content : Bool
  pub number : Option ℕ

abbrev pub padding : Options → Tag → Option Tag
padding o tag = if o.pads then Some tag else None

abbrev pub wrap_at : Options → ℕ → ℕ
wrap_at o width = min width (unwrap_or o.wrap_width width)

abbrev pub filled : Options → ℕ → Tag → List (Item Tag) → List (Item Tag)
filled o width tag items = padded width (padding o tag) items

abbrev pub line_of : Options → ℕ → ℕ → Stretch → List (Item Tag) → Line
line_of o width k s items = record {
  items = filled o width s.close (filled o (wrap_at o width) s.fill items);
  content = has_text items;
  number = Some k;
}

abbrev pub empty_line : Options → ℕ → Tag → Option ℕ → Line
empty_line o width tag number = record { items = filled o width tag []; content = false; number = number }

-- the fullest legal layout of a stretch
abbrev pub stretch_lines : Options → ℕ → Stretch → List (List (Item Tag))
stretch_lines o width s = normal_lines (wrap_at o width) s.source

-- a break ends a line that has columns, else it is an empty line
abbrev pub break_lines : Options → ℕ → ℕ → Tag → List (List (Item Tag)) → List Line
break_lines o width k tag lines = if ends_in_columns lines then [] else empty_line o width tag (Some k) ∷ []

abbrev pub lines_of_stretches : Options → ℕ → ℕ → List Stretch → List Line
lines_of_stretches o width k [] = []
lines_of_stretches o width k (s ∷ []) = map (line_of o width k s) (stretch_lines o width s)
lines_of_stretches o width k (s ∷ t ∷ more) = map (line_of o width k s) (stretch_lines o width s)
    ++ (break_lines o width k s.close (stretch_lines o width s) ++ lines_of_stretches o width k (t ∷ more))

-- no character is wider than the lines
abbrev pub all_fit : Options → ℕ → List Stretch → Bool
all_fit o width stretches = list_all (λ s. not (has_wide_text (wrap_at o width) s.source)) stretches

abbrev pub if_fits : {A : Type 0} → Bool → A → Option A
if_fits true a = Some a
if_fits false a = None

-- after links to these targets
abbrev pub paragraph_lines : Options → (width number : ℕ) → List (List ℕ) → Inlines → Option (List Line)
paragraph_lines o width k ts is = let ss = stretches None [] (parts_of o outermost ts is) in
    if_fits (all_fit o width ss) (lines_of_stretches o width k ss)

-- ---- sizes: the least width that a part asks for

abbrev pub least_text : Options → List ℕ → ℕ
least_text o cs = min (capped (text_size cs)) o.min_wrap_width

abbrev pub least_in : Options → Inlines → ℕ
least_in o no_inlines = 0
least_in o (words cs rest) = max (least_text o cs) (least_in o rest)
least_in o (line_break rest) = max 1 (least_in o rest)
least_in o (span style kids rest) = max (least_text o (mark_of o style)) (max (least_in o kids) (least_in o rest))
least_in o (link target kids rest) = max (if all_shallow o kids then 0 else least_in o kids) (least_in o rest)

-- what stands before each line of a quote
abbrev pub quote_prefix : List ℕ
quote_prefix = codes "> "

-- what stands before an item: a bullet or a number
abbrev pub item_prefix : Option ℤ → List ℕ
item_prefix None = codes "* "
item_prefix (Some n) = signed_decimal n ++ codes ". "

-- an item has the columns of the wider of the first and the last prefix
abbrev pub room_of_numbers : ℤ → ℕ → ℕ
room_of_numbers first n =
    max (length (item_prefix (Some first))) (length (item_prefix (Some (number_after first (n - 1)))))

abbrev pub how_many : Items → ℕ
how_many no_items = 0
how_many (item kids rest) = suc (how_many rest)

abbrev mutual
  pub least_of : Options → Blocks → ℕ
  least_of o no_blocks = 0
  least_of o (paragraph is rest) = max (least_in o is) (least_of o rest)
  least_of o (heading level is rest) = max (capped (least_in o is + (level + 1))) (least_of o rest)
  least_of o (division kids rest) = max (least_of o kids) (least_of o rest)
  least_of o (quote kids rest) = max (capped (least_of o kids + 2)) (least_of o rest)
  least_of o (bullets items rest) = max (capped (least_of_items o items + 2)) (least_of o rest)
  least_of o (numbers first items rest) =
      max (capped (least_of_items o items + room_of_numbers first (how_many items))) (least_of o rest)

  pub least_of_items : Options → Items → ℕ
  least_of_items o no_items = 0
  least_of_items o (item kids rest) = max (least_of o kids) (least_of_items o rest)

-- the columns after a prefix: at least so many are asked for, and one
abbrev pub room : (width prefix least : ℕ) → Option ℕ
room width prefix least = if_fits (nat_le (max (least - prefix) 1) (width - prefix)) (width - prefix)

-- ---- blocks

abbrev pub has_content : List Line → Bool
has_content lines = list_any (λ l. l.content) lines

-- an empty line where a line has content
abbrev pub parted : Options → ℕ → List Line → List Line
parted o width lines = if has_content lines then lines ++ empty_line o width outermost None ∷ [] else lines

abbrev pub trailing : Options → ℕ → List ℕ → Line → Line
trailing o width prefix l = record {
  items = filled o width outermost (tagged prefix outermost ++ l.items);
  content = l.content || is_filled prefix;
  number = l.number;
}

-- the first line after one prefix, the others after another
abbrev pub prefixed : Options → ℕ → List ℕ → List ℕ → List Line → List Line
prefixed o width first following [] = []
prefixed o width first following (l ∷ lines) = trailing o width first l ∷ map (trailing o width following) lines

abbrev pub to_room : ℕ → List ℕ → List ℕ
to_room n cs = cs ++ spaces (n - length cs)

-- the number after an item's; numbers stop at the greatest of 64 bits
abbrev pub next_number : Option ℤ → Option ℤ
next_number at = option_map (λ z. number_after z 1) at

-- the lines after those of a part, from a paragraph of a number on, after links to these targets
abbrev mutual
  pub lay : Options → (width number : ℕ) → List (List ℕ) → Blocks → List Line → Option (List Line)
  lay o width k ts no_blocks lines = Some lines
  lay o width k ts (paragraph is rest) lines =
      option_and_then (λ new. lay o width (suc k) (ts ++ targets_in o is) rest (parted o width lines ++ new))
      (paragraph_lines o width k ts is)
  lay o width k ts (heading level is rest) lines = let prefix = replicate level 0x23 ++ codes " " in
      option_and_then (λ new. lay o width (suc k) (ts ++ targets_in o is) rest
      (parted o width lines ++ prefixed o width prefix prefix new))
      (option_and_then (λ within. paragraph_lines o within k ts is)
      (room width (level + 1) (capped (least_in o is + (level + 1)))))
  lay o width k ts (division kids rest) lines =
      option_and_then (lay o width (k + count kids) (ts ++ targets_of o kids) rest) (lay o width k ts kids lines)
  lay o width k ts (quote kids rest) lines =
      option_and_then (λ new. lay o width (k + count kids) (ts ++ targets_of o kids) rest
      (parted o width lines ++ prefixed o width quote_prefix quote_prefix new))
      (option_and_then (λ within. lay o within k ts kids []) (room width 2 (capped (least_of o kids + 2))))
  lay o width k ts (bullets items rest) lines =
      option_and_then (lay o width (k + count_items items) (ts ++ targets_of_items o items) rest)
      (lay_items o width k ts 2 (capped (least_of_items o items + 2)) None items (parted o width lines))
  lay o width k ts (numbers first items rest) lines = let columns = room_of_numbers first (how_many items) in
      option_and_then (lay o width (k + count_items items) (ts ++ targets_of_items o items) rest)
      (lay_items o width k ts columns (capped (least_of_items o items + columns)) (Some first) items
      (parted o width lines))

  pub lay_items : Options → (width number : ℕ) → List (List ℕ) → (columns least : ℕ) → Option ℤ → Items → List Line →
      Option (List Line)
  lay_items o width k ts columns least at no_items lines = Some lines
  lay_items o width k ts columns least at (item kids rest) lines =
      option_and_then (λ new. lay_items o width (k + count kids) (ts ++ targets_of o kids) columns least
      (next_number at) rest
      (lines ++ prefixed o width (to_room columns (item_prefix at)) (spaces columns) new))
      (option_and_then (λ within. lay o within k ts kids []) (room width columns least))

-- the targets that have footnotes, as they stand there
abbrev pub listed_targets : Options → List (List ℕ) → List (List ℕ)
listed_targets o targets = shown_targets o.prints_targets (noted_targets o.shares_footnotes targets)

-- the whole article: `footnotes` are the lines of targets
abbrev pub layout : Options → (List (List ℕ) → List Line) → ℕ → Blocks → Option (List Line)
layout o footnotes width blocks =
    option_map (λ lines. (if o.footnotes && is_filled (targets_of o blocks)
    then parted o width lines ++ footnotes (listed_targets o (targets_of o blocks)) else lines))
    (lay o width 0 [] blocks [])

-- ---- the targets after the last block

abbrev pub note_line : Options → ℕ → List (Item Tag) → Line
note_line o width items = record {
  items = filled o width outermost (filled o (wrap_at o width) outermost items);
  content = has_text items;
  number = None;
}

-- from a number on
abbrev pub notes_from : Options → (width number : ℕ) → List (List ℕ) → List Line
notes_from o width n [] = []
notes_from o width n (target ∷ targets) =
    map (note_line o width) (footnote_lines o.wraps_links width (tagged (footnote_text n target) tt))
    ++ notes_from o width (suc n) targets

abbrev pub notes : Options → ℕ → List (List ℕ) → List Line
notes o width targets = notes_from o width 1 targets

-- the lines of an article; no line is nought columns wide
abbrev pub article_lines : Options → ℕ → Blocks → Option (List Line)
article_lines o width blocks = if nat_lt 0 width then layout o (notes o width) width blocks else None
