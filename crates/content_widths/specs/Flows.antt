-- The columns that a flow asks for: texts that follow one another, and blocks between them.
use Rattle.std.specs.Prelude.{ℕ, ◌-◌, ◌^◌, [], ◌∷◌, ◌++◌, List, None, Option, Some, if◌then◌else◌, max, min}
use Rattle.content_widths.specs.Texts.{narrowest_of, widest_of}
use Rattle.content_widths.specs.declared.widths.ContentWidths.{ContentWidths}
use Rattle.text_pieces.specs.Modes.{is_same_mode}
use Rattle.text_pieces.specs.Sources.{is_filled}
use Rattle.text_pieces.specs.declared.white_space.WhiteSpace.{WhiteSpace}

-- a text in a mode of white space; or a block, which stands on lines of its own, by the columns that it asks for: a
-- line break is a block that asks for none
pub data FlowItem : Type 0 where
  text : WhiteSpace → List ℕ → FlowItem
  block : ContentWidths → FlowItem

-- a stretch of text, which runs on over lines; or a block
pub data Stretch : Type 0 where
  run : WhiteSpace → List ℕ → Stretch
  apart : ContentWidths → Stretch

-- a text before stretches joins the first where that is of the same mode
abbrev pub joined : WhiteSpace → List ℕ → List Stretch → List Stretch
joined mode cs [] = run mode cs ∷ []
joined mode cs (run other ds ∷ rest) =
    if is_same_mode mode other then run mode (cs ++ ds) ∷ rest else run mode cs ∷ run other ds ∷ rest
joined mode cs (apart widths ∷ rest) = run mode cs ∷ apart widths ∷ rest

-- the stretches of a flow: an empty text is none, and parts none
abbrev pub stretches : List FlowItem → List Stretch
stretches [] = []
stretches (text mode cs ∷ items) = if is_filled cs then joined mode cs (stretches items) else stretches items
stretches (block widths ∷ items) = apart widths ∷ stretches items

-- a number stops at the greatest of 64 bits
abbrev pub capped : ℕ → ℕ
capped n = min n (2 ^ 64 - 1)

-- where text wraps at `most` columns, it asks for no more
abbrev pub at_most : Option ℕ → ℕ → ℕ
at_most None n = n
at_most (Some most) n = min n most

abbrev pub no_columns : ContentWidths
no_columns = record { narrowest = 0; widest = 0 }

abbrev pub greater : ContentWidths → ContentWidths → ContentWidths
greater a b = record { narrowest = max a.narrowest b.narrowest; widest = max a.widest b.widest }

abbrev pub stretch_widths : (most : Option ℕ) → Stretch → ContentWidths
stretch_widths most (run mode cs) = record {
  narrowest = at_most most (capped (narrowest_of cs));
  widest = at_most most (capped (widest_of mode cs));
}
stretch_widths most (apart widths) = widths

abbrev pub greatest_of : (most : Option ℕ) → List Stretch → ContentWidths
greatest_of most [] = no_columns
greatest_of most (s ∷ ss) = greater (stretch_widths most s) (greatest_of most ss)

-- the greatest that its stretches and blocks ask for
unfoldable pub flow_widths : (most : Option ℕ) → List FlowItem → ContentWidths
flow_widths most items = greatest_of most (stretches items)
