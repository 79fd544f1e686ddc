-- Pages as rich text.
use Rattle.std.specs.Prelude.{ℕ, List, true}
use Rattle.html_render_tree.specs.RichText.{rich_closes, rich_marking}
use Rattle.page_config.specs.PageAnswers.{HasAnswer, HasText, PageAnswer}
use Rattle.page_config.specs.Settings.{PageSetting}
use Rattle.text_decorators.specs.Annotations.{RichTag, rich_tag}
use Rattle.text_decorators.specs.Texts.{IsRich, is_colour, rich_text}
use Rattle.text_decorators.specs.declared.annotation.RichAnnotation.{RichAnnotation}
use Rattle.text_decorators.specs.declared.rich.RichDecorator.{RichDecorator}
use Rattle.text_decorators.specs.Marks.{DecoratorView}

-- what the decorator of rich text is seen as
abbrev pub rich_view : DecoratorView RichDecorator (Unit {0}) RichAnnotation
rich_view = record {
  held = λ _. tt;
  text = λ _ m. rich_text m;
  gives = λ _ m a. IsRich m a;
  marks = λ _ m. is_colour m;
  after = λ h _. h;
  pops = λ _ _. true;
  sub = λ h. h;
  closes = rich_closes;
}

-- the answer to a page of these bytes as rich text, by what a configuration says
abbrev pub HasRichAnswer : PageSetting (Unit {0}) → ℕ → (bytes : List ℕ) → PageAnswer RichTag → Type 0
HasRichAnswer c width bytes answer = HasAnswer rich_marking rich_tag rich_closes c width bytes answer

-- its text
abbrev pub HasRichText : PageSetting (Unit {0}) → ℕ → (bytes text : List ℕ) → Type 0
HasRichText c width bytes text = HasText rich_marking rich_tag rich_closes c width bytes text
