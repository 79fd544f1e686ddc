-- The texts of the three decorators, and what they note beside them.
use Rattle.std.specs.Prelude.{◌≡◌, [], ◌∷◌, ◌++◌, Bool, List, chars, codes, false, map, replicate, string_bytes, suc}
use Rattle.std.specs.Prelude.{true, ℕ}
use Rattle.std.specs.Fmt.{decimal, signed_decimal}
use Rattle.text_lines.specs.Tagged.{Item, tagged}
use Rattle.text_decorators.specs.Marks.{Mark, background_start, code_start, colour_start, emphasis_start, header, image}
use Rattle.text_decorators.specs.Marks.{link_end, link_start, ordered_item, preformat_first, preformat_further, quote}
use Rattle.text_decorators.specs.Marks.{strikeout_start, strong_start, superscript_end, superscript_start}
use Rattle.text_decorators.specs.Marks.{unordered_item}
use Rattle.text_decorators.specs.declared.annotation.RichAnnotation.{RichAnnotation}
use Rattle.text_decorators.specs.declared.annotation.RichAnnotation.TheVariants.{BgColour, Code, Colour, Default}
use Rattle.text_decorators.specs.declared.annotation.RichAnnotation.TheVariants.{Emphasis, Image, Link, Preformat}
use Rattle.text_decorators.specs.declared.annotation.RichAnnotation.TheVariants.{Strikeout, Strong}

-- Superscripts are marked as TeX does, headings, quotes and items as Markdown does.
abbrev pub superscript_text : Mark → List ℕ
superscript_text superscript_start = codes "^{"
superscript_text superscript_end = codes "}"
superscript_text _ = []

abbrev pub prefix_text : Mark → List ℕ
prefix_text (header level) = replicate level 0x23 ++ codes " "
prefix_text quote = codes "> "
prefix_text unordered_item = codes "* "
prefix_text (ordered_item number) = signed_decimal number ++ codes ". "
prefix_text m = superscript_text m

-- plain text: brackets round a link and round an image's title
abbrev pub plain_text : Mark → List ℕ
plain_text (link_start target) = codes "["
plain_text link_end = codes "]"
plain_text (image source title) = codes "[" ++ title ++ codes "]"
plain_text m = prefix_text m

-- no marks but those of superscripts
abbrev pub trivial_text : Mark → List ℕ
trivial_text (image source title) = title
trivial_text m = superscript_text m

-- rich text: the annotations say what plain text has marks for, but for prefixes
abbrev pub rich_text : Mark → List ℕ
rich_text (image source title) = title
rich_text m = prefix_text m

-- the annotation that rich text notes at a mark
abbrev pub IsRich : Mark → RichAnnotation → Type 0
IsRich (link_start target) (Link emitted) = chars (string_bytes emitted) ≡ target
IsRich (image source title) (Image emitted) = chars (string_bytes emitted) ≡ source
IsRich emphasis_start Emphasis = Unit {0}
IsRich strong_start Strong = Unit {0}
IsRich strikeout_start Strikeout = Unit {0}
IsRich code_start Code = Unit {0}
IsRich superscript_start Default = Unit {0}
IsRich preformat_first (Preformat further) = further ≡ false
IsRich preformat_further (Preformat further) = further ≡ true
IsRich (colour_start c) (Colour emitted) = emitted ≡ c
IsRich (background_start c) (BgColour emitted) = emitted ≡ c
IsRich _ _ = ⊥

-- where rich text notes one of a colour
abbrev pub is_colour : Mark → Bool
is_colour (colour_start c) = true
is_colour (background_start c) = true
is_colour _ = false

-- `[n]: ` and the target
abbrev pub footnote_text : ℕ → List ℕ → List ℕ
footnote_text n target = codes "[" ++ decimal n ++ codes "]: " ++ target

-- for each target in order
abbrev pub footnote_texts : ℕ → List (List ℕ) → List (List ℕ)
footnote_texts n [] = []
footnote_texts n (target ∷ targets) = footnote_text n target ∷ footnote_texts (suc n) targets

-- the lines of a page's footnotes, numbered from 1, all under one tag
abbrev pub footnote_lines : {T : Type 0} → T → List (List ℕ) → List (List (Item T))
footnote_lines tag targets = map (λ text. tagged text tag) (footnote_texts 1 targets)
