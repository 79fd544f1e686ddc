-- What a writer has of a page.
use Rattle.std.specs.Prelude.{◌≡◌, ◌≤◌, ◌&&◌, ◌||◌, [], if◌then◌else◌, Bool, List, Option, chars, false, length, map}
use Rattle.std.specs.Prelude.{not, true, unwrap_or, ℕ}
use Rattle.std.specs.Io.KnownBytes.{Appends}
use Rattle.std.specs.Str.{IsUtf8}
use Rattle.command_line.specs.CommandWords.{Asked}
use Rattle.lex_base.specs.KnownPart.{AppendsPart}
use Rattle.lex_base.specs.References.{References}
use Rattle.html_render_tree.specs.PlainText.{plain_closes, plain_marking}
use Rattle.html_tree_builder.specs.Defaults.{default_parse}
use Rattle.page_config.specs.PageAnswers.{HasAnswer, HasText, fail, too_narrow}
use Rattle.page_config.specs.RichPages.{HasRichAnswer, HasRichText}
use Rattle.page_config.specs.Settings.{PageSetting}
use Rattle.render_conversion.specs.Decorating.{SeenRule, decorating_rules, seen_rule}
use Rattle.render_conversion.specs.Options.{default_conversion}
use Rattle.block_trait.specs.Defaults.{default_options}

-- known bytes grow by a text of this kind, in UTF-8
pub record Gains (IsText : List ℕ → Type 0) (old new : Option (List ℕ)) : Type 0 where
  pub text : List ℕ
  pub utf8 : IsUtf8 text
  pub page : IsText (chars text)
  pub added : Appends old new text

-- known bytes grow by a beginning of it
pub record GainsPart (IsText : List ℕ → Type 0) (old new : Option (List ℕ)) : Type 0 where
  pub text : List ℕ
  pub utf8 : IsUtf8 text
  pub page : IsText (chars text)
  pub part : AppendsPart old new text

-- Rich text has no marks; else marks of emphasis, strong text, terms and code are asked for or not.
abbrev pub is_decorated : Asked → Bool
is_decorated asked = not asked.rich && asked.decorate

abbrev pub asked_rules : Asked → List SeenRule
asked_rules asked = if is_decorated asked then decorating_rules else []

-- what a page is read and rendered by for what is asked, with these references: as pages are where nothing else is
-- said, with or without these marks; with targets of links after a page with marks, and where they are asked for; and
-- each of these targets once, where that is asked for
pub record IsSetting (asked : Asked) (names : References) (c : PageSetting (Unit {0})) : Type 0 where
  pub table : c.table ≡ names
  pub parsing : c.parsing ≡ default_parse
  pub conversion : c.conversion ≡ default_conversion
  pub rules : map seen_rule c.rules ≡ asked_rules asked
  pub options : c.rendering.options ≡ record default_options {
    include_link_footnotes = is_decorated asked || asked.footnotes;
    shared_footnotes = asked.shared_footnotes;
  }
  pub min_wrap : c.rendering.min_wrap ≡ 3

-- by the decorator of rich text, or else by that of plain text
abbrev pub EitherLook : Bool → Type 0 → Type 0 → Type 0
EitherLook true rich plain = rich
EitherLook false rich plain = plain

-- the text of a page of these bytes, as it is asked for
pub record HasAskedText (asked : Asked) (names : References) (bytes text : List ℕ) : Type 0 where
  pub setting : PageSetting (Unit {0})
  pub is : IsSetting asked names setting
  pub has : EitherLook asked.rich (HasRichText setting asked.width bytes text)
      (HasText plain_marking (λ _. tt) plain_closes setting asked.width bytes text)

-- the width that is asked for is too narrow for it
pub record IsTooNarrowPage (asked : Asked) (names : References) (bytes : List ℕ) : Type 0 where
  pub setting : PageSetting (Unit {0})
  pub is : IsSetting asked names setting
  pub has : EitherLook asked.rich (HasRichAnswer setting asked.width bytes too_narrow)
      (HasAnswer plain_marking (λ _. tt) plain_closes setting asked.width bytes too_narrow)

-- there is nothing to render of it
pub record IsOtherPage (asked : Asked) (names : References) (bytes : List ℕ) : Type 0 where
  pub setting : PageSetting (Unit {0})
  pub is : IsSetting asked names setting
  pub has : EitherLook asked.rich (HasRichAnswer setting asked.width bytes fail)
      (HasAnswer plain_marking (λ _. tt) plain_closes setting asked.width bytes fail)

-- the most bytes that a page may have
abbrev pub most_bytes : Asked → ℕ
most_bytes asked = unwrap_or asked.max_bytes 18446744073709551615

-- the page is not too long, and known bytes grow by its text
abbrev pub WritesPage : Asked → References → (bytes : List ℕ) (old new : Option (List ℕ)) → Type 0
WritesPage asked names bytes old new =
    (length bytes ≤ most_bytes asked) × Gains (HasAskedText asked names bytes) old new

-- they grow by a beginning of it
abbrev pub WritesPart : Asked → References → (bytes : List ℕ) (old new : Option (List ℕ)) → Type 0
WritesPart asked names bytes old new = GainsPart (HasAskedText asked names bytes) old new
