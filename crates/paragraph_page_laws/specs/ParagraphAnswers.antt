-- The answers to pages of paragraphs: the lines of each text in its fullest layout, and an empty line before each where
-- some line so far shows something.
use Rattle.std.specs.Prelude.{◌≡◌, ◌⊎◌, ◌↔◌, ℕ, ◌<◌, Any, true, List, []}
use Rattle.document_laws.specs.Escaped.{KnowsEscapes}
use Rattle.token_grammar.specs.PageText.{page_text}
use Rattle.html_render_tree.specs.PlainText.{plain_closes, plain_marking}
use Rattle.html_tree_builder.specs.Defaults.{default_parse}
use Rattle.page_config.specs.PageAnswers.{HasAnswer, fail, lines, too_narrow}
use Rattle.page_config.specs.Settings.{PageSetting}
use Rattle.paragraph_laws.specs.ParagraphLines.{AreLinesAfter, IsWiderText, PlainItems}
use Rattle.paragraph_laws.specs.ParagraphPages.{AreQuiet, IsPlain}
use Rattle.paragraph_laws.specs.ParagraphPage.{IsParagraphPage}
use Rattle.page_decoding.specs.ReplacedText.{replaced_text}

-- Its lines are those of its paragraphs and no others; the width is too narrow just where it is 0, or no layout of one
-- of the texts is legal; and there is always something to render.
pub record AreAnswered (c : PageSetting (Unit {0})) (width : ℕ) (bytes : List ℕ) (texts : List (List ℕ)) : Type 0 where
  pub laid : (shown : List PlainItems) → HasAnswer plain_marking (λ _. tt) plain_closes c width bytes (lines shown)
      ↔ ((0 < width) × AreLinesAfter width [] texts shown)
  pub narrow : HasAnswer plain_marking (λ _. tt) plain_closes c width bytes too_narrow
      ↔ ((width ≡ 0) ⊎ Any (IsWiderText width) texts)
  pub other : HasAnswer plain_marking (λ _. tt) plain_closes c width bytes fail → ⊥

-- read as pages are by default, by a table that knows the five names, and rendered as plain text
pub record IsPlainly (c : PageSetting (Unit {0})) : Type 0 where
  pub knows : KnowsEscapes c.table
  pub parsing : c.parsing ≡ default_parse
  pub rules : AreQuiet c.rules
  pub rendering : IsPlain c.rendering

abbrev pub ParagraphPages : Type 0
ParagraphPages = (c : PageSetting (Unit {0})) (width : ℕ) (bytes : List ℕ) (texts : List (List ℕ)) → IsPlainly c →
    IsParagraphPage (page_text true (replaced_text bytes)) texts → AreAnswered c width bytes texts
