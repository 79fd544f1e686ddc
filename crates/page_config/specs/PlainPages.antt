-- Pages as plain text: what the configurations of plain text say, and what is answered by them.
use Rattle.std.specs.Prelude.{◌≡◌, ℕ, false, true, List, map}
use Rattle.lex_base.specs.References.{References}
use Rattle.html_render_tree.specs.PlainText.{plain_closes, plain_marking}
use Rattle.html_tree_builder.specs.Defaults.{default_parse}
use Rattle.page_config.specs.PageAnswers.{HasAnswer, HasText, PageAnswer}
use Rattle.page_config.specs.Settings.{PageSetting}
use Rattle.render_conversion.specs.Decorating.{decorating_rules, seen_rule}
use Rattle.render_conversion.specs.Options.{default_conversion}
use Rattle.block_trait.specs.Defaults.{default_options}
use Rattle.text_decorators.specs.Texts.{plain_text}
use Rattle.text_decorators.specs.declared.plain.PlainDecorator.{PlainDecorator}
use Rattle.text_decorators.specs.Marks.{DecoratorView}

-- what the decorator of plain text is seen as
abbrev pub plain_view : DecoratorView PlainDecorator (Unit {0}) (Unit {0})
plain_view = record {
  held = λ _. tt;
  text = λ _ m. plain_text m;
  gives = λ _ _ _. Unit {0};
  marks = λ _ _. false;
  after = λ h _. h;
  pops = λ _ _. false;
  sub = λ h. h;
  closes = plain_closes;
}

-- As plain text is rendered where nothing else is said: parsed as pages are by default, with emphasis, strong text,
-- terms and code marked, and with the targets of links after the page.
pub record IsPlain (names : References) (c : PageSetting (Unit {0})) : Type 0 where
  pub table : c.table ≡ names
  pub parsing : c.parsing ≡ default_parse
  pub conversion : c.conversion ≡ default_conversion
  pub rules : map seen_rule c.rules ≡ decorating_rules
  pub options : c.rendering.options ≡ record default_options { include_link_footnotes = true }
  pub min_wrap : c.rendering.min_wrap ≡ 3
  pub decorates : c.decorates ≡ true

-- the answer to a page of these bytes as plain text, by a table of references
pub record HasPlainAnswer (table : References) (width : ℕ) (bytes : List ℕ) (answer : PageAnswer (Unit {0})) : Type 0
  where
    pub setting : PageSetting (Unit {0})
    pub plain : IsPlain table setting
    pub has : HasAnswer plain_marking (λ _. tt) plain_closes setting width bytes answer

-- its text
pub record HasPlainText (table : References) (width : ℕ) (bytes text : List ℕ) : Type 0 where
  pub setting : PageSetting (Unit {0})
  pub plain : IsPlain table setting
  pub has : HasText plain_marking (λ _. tt) plain_closes setting width bytes text
