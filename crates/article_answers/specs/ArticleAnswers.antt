-- What is answered of the page that is written of an article: the article's own lines.
use Rattle.std.specs.Prelude.{◌≡◌, ℕ, false, List, Option, None, Some, chars, map, IsUtf8}
use Rattle.article_page_laws.specs.ArticleValues.{AreRulesOf}
use Rattle.article_layout.specs.Lines.{tag_of}
use Rattle.article_layout.specs.declared.layout.ArticleLine.{ArticleLine}
use Rattle.article_definitions.specs.Layouts.{Options, Tag}
use Rattle.article_page_laws.specs.ArticlesLaid.{options_by, shown_lines}
use Rattle.article_values.specs.Articles.{Blocks}
use Rattle.article_values.specs.Faults.{first_fault}
use Rattle.document_laws.specs.Escaped.{KnowsEscapes}
use Rattle.page_config.specs.PageAnswers.{HasAnswer, PageAnswer, lines, too_narrow}
use Rattle.page_config.specs.Settings.{PageSetting}
use Rattle.text_lines.specs.Tagged.{Item, line_items}
use Rattle.text_block_renderer.specs.PlainText.{plain_closes, plain_marking}
use Rattle.article_writing.specs.Contents.{NumbersFit, article_text}
use Rattle.written_document_laws.specs.Documents.{scripted_parse}

-- Pages are parsed as by default, with scripting or without it, by a table that knows the names of escaped text; no rules of style stand but those
-- that mark emphasis, strong text, terms and code, where these were asked for; and no part may pass the width.
pub record IsForArticles (c : PageSetting (Unit {0})) : Type 0 where
  pub table : KnowsEscapes c.table
  pub parsing : c.parsing ≡ scripted_parse c.parsing.tree_builder.scripting_enabled
  pub rules : AreRulesOf c.decorates c.rules
  pub within : c.rendering.options.allow_width_overflow ≡ false

-- An article without a fault, and the bytes of what is written of it. The first numbers of its lists are numbers of 64
-- bits.
pub record IsWritten (title : Option (List ℕ)) (blocks : Blocks) (bytes : List ℕ) : Type 0 where
  pub faultless : first_fault title blocks ≡ None
  pub numbers : NumbersFit blocks
  pub utf8 : IsUtf8 bytes
  pub text : chars bytes ≡ article_text title blocks

-- lines, or that the width is too narrow
abbrev pub answer_of : Option (List (List (Item Tag))) → PageAnswer (Unit {0})
answer_of None = too_narrow
answer_of (Some shown) = lines shown

-- what matters to an article of how pages are read and rendered
abbrev pub options_for : PageSetting (Unit {0}) → Options
options_for c = options_by c.rendering c.decorates

-- the article's own lines at a width
abbrev pub article_answer : PageSetting (Unit {0}) → (width : ℕ) → Blocks → PageAnswer (Unit {0})
article_answer c width blocks = answer_of (shown_lines (options_for c) width blocks)

-- Whatever is answered of the page that is written of an article, however the page comes, is this.
abbrev pub IsAnswerToPage : PageSetting (Unit {0}) → (width : ℕ) → (title : Option (List ℕ)) → Blocks
    → PageAnswer (Unit {0}) → Type 0
IsAnswerToPage c width title blocks expected = (bytes : List ℕ) (answer : PageAnswer (Unit {0})) → IsForArticles c
    → IsUtf8 bytes → chars bytes ≡ article_text title blocks
    → HasAnswer plain_marking (λ _. tt) plain_closes c width bytes answer → answer ≡ expected

-- what stands on lines that are emitted
abbrev pub shown_of : List ArticleLine → List (List (Item Tag))
shown_of shown = map (λ l. line_items tag_of l.line) shown
