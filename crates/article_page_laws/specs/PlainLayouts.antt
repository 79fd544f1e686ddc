-- The lines of such an article, each link of which has a footnote of its own: what depends on the article's value, over
-- the words of lines and parts that all articles share.
use Rattle.std.specs.Prelude.{◌+◌, ◌&&◌, [], ◌∷◌, ◌++◌, if◌then◌else◌, Bool, List, None, Option, Some, codes, false}
use Rattle.std.specs.Prelude.{length, max, nat_lt, not, replicate, suc, true, ℕ, ℤ}
use Rattle.std.specs.Char.{is_whitespace}
use Rattle.std.specs.Fmt.{decimal}
use Rattle.std.specs.List.{list_all}
use Rattle.std.specs.Option.{option_map, option_and_then}
use Rattle.article_definitions.specs.Layouts.{Line, Options, Part, Tag, all_fit, breaks, if_fits, item_prefix}
use Rattle.article_definitions.specs.Layouts.{least_text, lines_of_stretches, next_number, notes, outermost, parted}
use Rattle.article_definitions.specs.Layouts.{prefixed, room, room_of_numbers, says, stretches, to_room, unless_shallow}
use Rattle.article_definitions.specs.Layouts.{within}
use Rattle.article_page_laws.specs.PlainArticles.{PlainBlocks, PlainInlines, PlainItems, PlainStyle, bold, bullets}
use Rattle.article_page_laws.specs.PlainArticles.{code, division, emphasis, heading, italic, item, line_break, link}
use Rattle.article_page_laws.specs.PlainArticles.{no_blocks, no_inlines, no_items, numbers, paragraph, span, words}
use Rattle.layout_state.specs.Items.{spaces}
use Rattle.render_sizes.specs.Extents.{capped}
use Rattle.text_pieces.specs.Sources.{is_filled}

abbrev pub plain_mark : PlainStyle → List ℕ
plain_mark bold = codes "**"
plain_mark italic = []
plain_mark emphasis = codes "*"
plain_mark code = codes "`"

abbrev pub mark_in : Options → PlainStyle → List ℕ
mark_in o style = if o.decorates then plain_mark style else []

abbrev pub has_none : PlainInlines → Bool
has_none no_inlines = true
has_none (words cs rest) = false
has_none (line_break rest) = false
has_none (span style kids rest) = false
has_none (link target kids rest) = false

-- a link around what shows nothing by itself is left out
abbrev pub all_shallow : Options → PlainInlines → Bool
all_shallow o no_inlines = true
all_shallow o (words cs rest) = list_all is_whitespace cs && all_shallow o rest
all_shallow o (line_break rest) = all_shallow o rest
all_shallow o (span style kids rest) = (has_none kids && not (is_filled (mark_in o style))) && all_shallow o rest
all_shallow o (link target kids rest) = has_none kids && all_shallow o rest

-- the targets of the links, in order
abbrev pub targets_in : Options → PlainInlines → List (List ℕ)
targets_in o no_inlines = []
targets_in o (words cs rest) = targets_in o rest
targets_in o (line_break rest) = targets_in o rest
targets_in o (span style kids rest) = targets_in o kids ++ targets_in o rest
targets_in o (link target kids rest) =
    unless_shallow (all_shallow o kids) (target ∷ targets_in o kids) ++ targets_in o rest

abbrev mutual
  pub targets_of : Options → PlainBlocks → List (List ℕ)
  targets_of o no_blocks = []
  targets_of o (paragraph is rest) = targets_in o is ++ targets_of o rest
  targets_of o (heading level is rest) = targets_in o is ++ targets_of o rest
  targets_of o (division kids rest) = targets_of o kids ++ targets_of o rest
  targets_of o (bullets items rest) = targets_of_items o items ++ targets_of o rest
  targets_of o (numbers first items rest) = targets_of_items o items ++ targets_of o rest

  pub targets_of_items : Options → PlainItems → List (List ℕ)
  targets_of_items o no_items = []
  targets_of_items o (item kids rest) = targets_of o kids ++ targets_of_items o rest

-- paragraphs and headings
abbrev mutual
  pub count : PlainBlocks → ℕ
  count no_blocks = 0
  count (paragraph is rest) = suc (count rest)
  count (heading level is rest) = suc (count rest)
  count (division kids rest) = count kids + count rest
  count (bullets items rest) = count_items items + count rest
  count (numbers first items rest) = count_items items + count rest

  pub count_items : PlainItems → ℕ
  count_items no_items = 0
  count_items (item kids rest) = count kids + count_items rest

-- the number after a link, where there are footnotes
abbrev pub number_mark : Options → ℕ → List ℕ
number_mark o n = if o.footnotes then codes "[" ++ decimal n ++ codes "]" else []

-- what a paragraph says and where its lines are broken, after so many links
abbrev pub parts_of : Options → Tag → ℕ → PlainInlines → List Part
parts_of o d n no_inlines = []
parts_of o d n (words cs rest) = says cs d ∷ parts_of o d n rest
parts_of o d n (line_break rest) = breaks d ∷ parts_of o d n rest
parts_of o d n (span style kids rest) = says (mark_in o style) (within d)
    ∷ (parts_of o (within d) n kids ++ says (mark_in o style) (within d)
    ∷ parts_of o d (n + length (targets_in o kids)) rest)
parts_of o d n (link target kids rest) = let trailing = n + suc (length (targets_in o kids)) in
    unless_shallow (all_shallow o kids) (says (codes "[") (within d)
    ∷ (parts_of o (within d) (suc n) kids ++ says (codes "]") (within d) ∷ says (number_mark o trailing) d ∷ []))
    ++ parts_of o d (if all_shallow o kids then n else trailing) rest

abbrev pub paragraph_lines : Options → (width number links : ℕ) → PlainInlines → Option (List Line)
paragraph_lines o width k n is = let ss = stretches None [] (parts_of o outermost n is) in
    if_fits (all_fit o width ss) (lines_of_stretches o width k ss)

-- the least width that a part asks for
abbrev pub least_in : Options → PlainInlines → ℕ
least_in o no_inlines = 0
least_in o (words cs rest) = max (least_text o cs) (least_in o rest)
least_in o (line_break rest) = max 1 (least_in o rest)
least_in o (span style kids rest) = max (least_text o (mark_in o style)) (max (least_in o kids) (least_in o rest))
least_in o (link target kids rest) = max (if all_shallow o kids then 0 else least_in o kids) (least_in o rest)

abbrev pub how_many : PlainItems → ℕ
how_many no_items = 0
how_many (item kids rest) = suc (how_many rest)

abbrev mutual
  pub least_of : Options → PlainBlocks → ℕ
  least_of o no_blocks = 0
  least_of o (paragraph is rest) = max (least_in o is) (least_of o rest)
  least_of o (heading level is rest) = max (capped (least_in o is + (level + 1))) (least_of o rest)
  least_of o (division kids rest) = max (least_of o kids) (least_of o rest)
  least_of o (bullets items rest) = max (capped (least_of_items o items + 2)) (least_of o rest)
  least_of o (numbers first items rest) =
      max (capped (least_of_items o items + room_of_numbers first (how_many items))) (least_of o rest)

  pub least_of_items : Options → PlainItems → ℕ
  least_of_items o no_items = 0
  least_of_items o (item kids rest) = max (least_of o kids) (least_of_items o rest)

-- the lines after those of a part, from a paragraph of a number on, after so many links
abbrev mutual
  pub lay : Options → (width number links : ℕ) → PlainBlocks → List Line → Option (List Line)
  lay o width k n no_blocks lines = Some lines
  lay o width k n (paragraph is rest) lines =
      option_and_then (λ new. lay o width (suc k) (n + length (targets_in o is)) rest (parted o width lines ++ new))
      (paragraph_lines o width k n is)
  lay o width k n (heading level is rest) lines = let prefix = replicate level 0x23 ++ codes " " in
      option_and_then (λ new. lay o width (suc k) (n + length (targets_in o is)) rest
      (parted o width lines ++ prefixed o width prefix prefix new))
      (option_and_then (λ within. paragraph_lines o within k n is)
      (room width (level + 1) (capped (least_in o is + (level + 1)))))
  lay o width k n (division kids rest) lines =
      option_and_then (lay o width (k + count kids) (n + length (targets_of o kids)) rest) (lay o width k n kids lines)
  lay o width k n (bullets items rest) lines =
      option_and_then (lay o width (k + count_items items) (n + length (targets_of_items o items)) rest)
      (lay_items o width k n 2 (capped (least_of_items o items + 2)) None items (parted o width lines))
  lay o width k n (numbers first items rest) lines = let columns = room_of_numbers first (how_many items) in
      option_and_then (lay o width (k + count_items items) (n + length (targets_of_items o items)) rest)
      (lay_items o width k n columns (capped (least_of_items o items + columns)) (Some first) items
      (parted o width lines))

  pub lay_items : Options → (width number links columns least : ℕ) → Option ℤ → PlainItems → List Line →
      Option (List Line)
  lay_items o width k n columns least at no_items lines = Some lines
  lay_items o width k n columns least at (item kids rest) lines =
      option_and_then (λ new. lay_items o width (k + count kids) (n + length (targets_of o kids)) columns least
      (next_number at) rest
      (lines ++ prefixed o width (to_room columns (item_prefix at)) (spaces columns) new))
      (option_and_then (λ within. lay o within k n kids []) (room width columns least))

-- with the lines of the targets; no line is nought columns wide
abbrev pub layout : Options → ℕ → PlainBlocks → Option (List Line)
layout o width blocks = option_map (λ lines. (if o.footnotes && is_filled (targets_of o blocks)
    then parted o width lines ++ notes o width (targets_of o blocks) else lines)) (lay o width 0 0 blocks [])

abbrev pub plain_lines : Options → ℕ → PlainBlocks → Option (List Line)
plain_lines o width blocks = if nat_lt 0 width then layout o width blocks else None
