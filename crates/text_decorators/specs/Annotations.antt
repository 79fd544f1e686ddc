-- What contracts see of the annotations of rich text, which is the same in a copy.
use Rattle.std.specs.Prelude.{ℕ, Bool, List, chars, string_bytes}
use Rattle.text_decorators.specs.declared.colour.Colour.{Colour as ColourParts}
use Rattle.text_decorators.specs.declared.annotation.RichAnnotation.{RichAnnotation}
use Rattle.text_decorators.specs.declared.annotation.RichAnnotation.TheVariants.{BgColour, Code, Colour, Default}
use Rattle.text_decorators.specs.declared.annotation.RichAnnotation.TheVariants.{Emphasis, Image, Link, Preformat}
use Rattle.text_decorators.specs.declared.annotation.RichAnnotation.TheVariants.{Strikeout, Strong}

pub data RichTag : Type 0 where
  nothing : RichTag
  -- the target
  link : List ℕ → RichTag
  -- the source
  image : List ℕ → RichTag
  emphasis : RichTag
  strong : RichTag
  strikeout : RichTag
  code : RichTag
  -- whether the line was wrapped before
  preformatted : Bool → RichTag
  colour : ColourParts → RichTag
  background : ColourParts → RichTag

abbrev pub rich_tag : RichAnnotation → RichTag
rich_tag Default = nothing
rich_tag (Link emitted) = link (chars (string_bytes emitted))
rich_tag (Image emitted) = image (chars (string_bytes emitted))
rich_tag Emphasis = emphasis
rich_tag Strong = strong
rich_tag Strikeout = strikeout
rich_tag Code = code
rich_tag (Preformat further) = preformatted further
rich_tag (Colour emitted) = colour emitted
rich_tag (BgColour emitted) = background emitted
