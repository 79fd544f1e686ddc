-- Annotations of rich text are found equal exactly where they are seen alike.
use Rattle.std.specs.Prelude.{◌≡◌, ◌≢◌, ℕ, Bool, true, false, List, chars, string_bytes, refl}
use Rattle.std.specs.Global.{Global}
use Rattle.std.specs.Str.{IsUtf8, bytes_eq}
use Rattle.std.proofs.Common.{String, ap, sym, ◌∙◌, rules}
use Rattle.std.proofs.lemmas.Bool.{false≢true}
use Rattle.std.proofs.lemmas.Slice.Eq.{bytes_eq-Decides}
use Rattle.std.proofs.lemmas.Str.{encodes-chars, IsUtf8-string_bytes}
use Rattle.text_decorators.specs.Annotations.{link, image, preformatted, colour, background, rich_tag}
use Rattle.text_decorators.specs.contracts.annotation.RichAnnotationPartialEq.TheImpl.{eq-value as annotations}
use Rattle.text_decorators.specs.contracts.colour.ColourPartialEq.TheImpl.{eq-value as colours}
use Rattle.text_decorators.specs.declared.colour.Colour.{Colour as ColourParts}
use Rattle.text_decorators.specs.declared.annotation.RichAnnotation.{RichAnnotation}
use Rattle.text_decorators.specs.declared.annotation.RichAnnotation.TheVariants.{BgColour, Code, Colour, Default}
use Rattle.text_decorators.specs.declared.annotation.RichAnnotation.TheVariants.{Emphasis, Image, Link, Preformat}
use Rattle.text_decorators.specs.declared.annotation.RichAnnotation.TheVariants.{Strikeout, Strong}
use lib.Utf8.{encodes}

same_bytes : (xs ys : List ℕ) → IsUtf8 xs → IsUtf8 ys → chars xs ≡ chars ys → xs ≡ ys
same_bytes xs ys first second same = sym (encodes-chars xs first) ∙ ap encodes same ∙ encodes-chars ys second

texts_same : (a b : String Global) → bytes_eq (string_bytes a) (string_bytes b) ≡ true
    → chars (string_bytes a) ≡ chars (string_bytes b)
texts_same a b h = ap chars ((bytes_eq-Decides (string_bytes a) (string_bytes b)).0 h)

texts_apart : (a b : String Global) → bytes_eq (string_bytes a) (string_bytes b) ≡ false
    → chars (string_bytes a) ≢ chars (string_bytes b)
texts_apart a b h e = false≢true (sym h ∙ (bytes_eq-Decides (string_bytes a) (string_bytes b)).1
    (same_bytes (string_bytes a) (string_bytes b) (IsUtf8-string_bytes a) (IsUtf8-string_bytes b) e))

colours_same : (c d : ColourParts) → colours.it c d ≡ true → c ≡ d
colours_same c d h = search rules

colours_apart : (c d : ColourParts) → colours.it c d ≡ false → c ≢ d
colours_apart c d h = search rules

flags_same : (a b : Bool) → annotations.it (Preformat a) (Preformat b) ≡ true → a ≡ b
flags_same true true h = refl
flags_same true false h = cc
flags_same false true h = cc
flags_same false false h = refl

flags_apart : (a b : Bool) → annotations.it (Preformat a) (Preformat b) ≡ false → a ≢ b
flags_apart true true h e = cc
flags_apart true false h e = cc
flags_apart false true h e = cc
flags_apart false false h e = cc

pub rich_tags-same : (x y : RichAnnotation) → annotations.it x y ≡ true → rich_tag x ≡ rich_tag y
rich_tags-same Default Default h = refl
rich_tags-same (Link a) (Link b) h = ap link (texts_same a b h)
rich_tags-same (Image a) (Image b) h = ap image (texts_same a b h)
rich_tags-same Emphasis Emphasis h = refl
rich_tags-same Strong Strong h = refl
rich_tags-same Strikeout Strikeout h = refl
rich_tags-same Code Code h = refl
rich_tags-same (Preformat a) (Preformat b) h = ap preformatted (flags_same a b h)
rich_tags-same (Colour a) (Colour b) h = ap colour (colours_same a b h)
rich_tags-same (BgColour a) (BgColour b) h = ap background (colours_same a b h)
rich_tags-same _ _ h = absurd (false≢true h)

pub rich_tags-apart : (x y : RichAnnotation) → annotations.it x y ≡ false → rich_tag x ≢ rich_tag y
rich_tags-apart Default Default h e = cc
rich_tags-apart (Link a) (Link b) h e = texts_apart a b h cc
rich_tags-apart (Image a) (Image b) h e = texts_apart a b h cc
rich_tags-apart Emphasis Emphasis h e = cc
rich_tags-apart Strong Strong h e = cc
rich_tags-apart Strikeout Strikeout h e = cc
rich_tags-apart Code Code h e = cc
rich_tags-apart (Preformat a) (Preformat b) h e = flags_apart a b h cc
rich_tags-apart (Colour a) (Colour b) h e = colours_apart a b h cc
rich_tags-apart (BgColour a) (BgColour b) h e = colours_apart a b h cc
rich_tags-apart _ _ h e = cc
