-- What the three decorators' answers have in common where contracts leave a choice.
use Rattle.std.specs.Prelude.{◌≡◌, true, false, refl}
use Rattle.std.proofs.Common.{ap, sym, ◌∙◌}
use Rattle.text_decorators.specs.Annotations.{RichTag, background, code, colour, emphasis, image, link, nothing}
use Rattle.text_decorators.specs.Annotations.{preformatted, rich_tag, strikeout, strong}
use Rattle.text_decorators.specs.Marks.{Mark, background_start, code_start, colour_start, emphasis_start}
use Rattle.text_decorators.specs.Marks.{image as image_mark, link_start, preformat_first, preformat_further}
use Rattle.text_decorators.specs.Marks.{strikeout_start, strong_start, superscript_start}
use Rattle.text_decorators.specs.Texts.{IsRich}
use Rattle.text_decorators.specs.declared.annotation.RichAnnotation.{RichAnnotation}
use Rattle.text_decorators.specs.declared.annotation.RichAnnotation.TheVariants.{BgColour, Code, Colour, Default}
use Rattle.text_decorators.specs.declared.annotation.RichAnnotation.TheVariants.{Emphasis, Image, Link, Preformat}
use Rattle.text_decorators.specs.declared.annotation.RichAnnotation.TheVariants.{Strikeout, Strong}

-- what is seen of the annotation that rich text notes at a mark
abbrev pub rich_mark_tag : Mark → RichTag
rich_mark_tag (link_start target) = link target
rich_mark_tag (image_mark source title) = image source
rich_mark_tag emphasis_start = emphasis
rich_mark_tag strong_start = strong
rich_mark_tag strikeout_start = strikeout
rich_mark_tag code_start = code
rich_mark_tag preformat_first = preformatted false
rich_mark_tag preformat_further = preformatted true
rich_mark_tag (colour_start c) = colour c
rich_mark_tag (background_start c) = background c
rich_mark_tag _ = nothing

pub rich_tag_fits : (m : Mark) (a : RichAnnotation) → IsRich m a → rich_tag a ≡ rich_mark_tag m
rich_tag_fits (link_start target) (Link emitted) h = ap link h
rich_tag_fits (image_mark source title) (Image emitted) h = ap image h
rich_tag_fits emphasis_start Emphasis h = refl
rich_tag_fits strong_start Strong h = refl
rich_tag_fits strikeout_start Strikeout h = refl
rich_tag_fits code_start Code h = refl
rich_tag_fits superscript_start Default h = refl
rich_tag_fits preformat_first (Preformat further) h = ap preformatted h
rich_tag_fits preformat_further (Preformat further) h = ap preformatted h
rich_tag_fits (colour_start c) (Colour emitted) h = ap colour h
rich_tag_fits (background_start c) (BgColour emitted) h = ap background h
rich_tag_fits _ _ h = absurd h

-- the annotations that fit a mark are seen alike
pub rich_tags_are_one : (m : Mark) (a b : RichAnnotation) → IsRich m a → IsRich m b → rich_tag a ≡ rich_tag b
rich_tags_are_one m a b first second = rich_tag_fits m a first ∙ sym (rich_tag_fits m b second)
